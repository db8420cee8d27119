-- What is so of all locks while cells join for one lock after another.
use Rattle.std.proofs.Common.{◌≡◌, ℕ, ◌<◌, true, List, length, get_or, set, take, refl, sym, ap, subst, ◌∙◌}
use Rattle.std.proofs.Common.{◌+◌, ◌≤◌, inl, inr, nat_eq, ◌&&◌, false, length-set, arith}
use Rattle.std.specs.Prelude.{max}
use Rattle.event_core.specs.declared.ids.LockId.{LockId}
use Rattle.std.proofs.lemmas.Bool.{false≢true, ltb-true}
use Rattle.std.proofs.lemmas.List.{get_or_default, ext_get_or, length-map}
use Rattle.section_sum.specs.Cells.{Stored, has_cell, HasGrown}
use Rattle.section_sum.specs.LockSums.{LockSum, no_kept, kept_at, shown, all_shown, IsKept, AreKept}
use Rattle.section_sum.specs.Entries.{entries_of, SaysSame}
use Rattle.section_sum.specs.Locks.{SaySame, HaveGrown}
use Rattle.section_sum.specs.Sums.{Sums, said_of, is_held, is_ready, noted_of, others_of, GrownFor}
use Rattle.section_sum.specs.Sums.{KeepsReady, SameNoted, SameOthers, IsReady, LocksGrownFor}
use Rattle.section_sum.specs.Standing.{StandsFor}
use Rattle.event_core.specs.declared.events.Event.{Event}
use Rattle.section_sum.proofs.ListProperties.{at_set, long_enough}
use Rattle.section_sum.proofs.IsKeptProperties.{has_lock}
use Rattle.section_sum.proofs.LocksProperties.{same_said, same_then, held_each, is_held_at, not_held}
use Rattle.section_sum.proofs.LockSumsProperties.{kept_set, kept_grown, says_more, no_more}
use Rattle.section_sum.proofs.SourcesOfProperties.{sums, said_as, shown_at}
use Rattle.section_sum.proofs.StandsForProperties.{same_stands}

-- the variable has cells under each of the locks
abbrev HasAll : List LockId → ℕ → Stored → Type 0
HasAll held var s = (l : ℕ) → is_held held l ≡ true → has_cell s l var ≡ true

-- each of the locks has a number below n
abbrev AreBelow : ℕ → List LockId → Type 0
AreBelow n held = (l : ℕ) → is_held held l ≡ true → l < n

-- the variable has cells under the first so many of the locks, and no other cell joined. Where it had one
-- under each, all is the same.
pub record Grown (held : List LockId) (var i : ℕ) (before : Sums) (cells : Stored) (locks : List LockSum)
    : Type 0 where
  pub kept : AreKept cells locks
  pub same : SaySame (said_of before) (entries_of cells locks)
  pub ready : (l : ℕ) → is_held (take i held) l ≡ true → has_cell cells l var ≡ true
  pub grown : HaveGrown held var before.cells cells
  pub again : HasAll held var before.cells → (cells ≡ before.cells) × (all_shown locks ≡ before.locks)
  pub few : (n : ℕ) → AreBelow n held → length locks ≤ max (length before.locks) n

-- before the first lock nothing has grown
pub none_grown : (held : List LockId) (var : ℕ) (cells : Stored) (locks : List LockSum) → AreKept cells locks
    → Grown held var 0 (sums cells locks) cells locks
none_grown held var cells locks kept = record {
  kept = kept;
  same = subst (λ f. SaySame f (entries_of cells locks)) (sym (said_as cells locks))
      (same_said (entries_of cells locks));
  ready = λ l on. absurd (false≢true on);
  grown = λ l v off. refl;
  again = λ all. (refl, refl);
  few = λ n below. omega (arith, length-map locks shown);
}

module _ {held : List LockId} {var i : ℕ} {before : Sums} {cells : Stored} {locks : List LockSum}
    (g : Grown held var i before cells locks) where
  -- where it had a cell under each lock, it still has it
  still : (l : ℕ) → is_held held l ≡ true → HasAll held var before.cells → has_cell cells l var ≡ true
  still l on all = ap (λ (s : Stored). has_cell s l var) (g.again all).0 ∙ all l on

  -- locks join of which nothing is kept, up to one of those
  pub more_locks : (after : List LockSum) (l : ℕ) → is_held held l ≡ true
      → ((m : ℕ) → kept_at after m ≡ kept_at locks m) → length locks ≤ length after
      → length after ≤ max (length locks) (l + 1) → Grown held var i before cells after
  more_locks after l on alike more most = record {
    kept = λ m. subst (IsKept m cells) (sym (alike m)) (g.kept m);
    same = λ m. subst (λ (k : LockSum). SaysSame (said_of before m)
        (record (entries_of cells locks m) { by = k.by })) (sym (alike m)) (g.same m);
    ready = g.ready;
    grown = g.grown;
    again = λ all.
        let below = has_lock cells locks l var g.kept (ltb-true _ _ (still l on all)) in
        let was = g.again all in
        (was.0, ap all_shown (long_enough no_kept locks after l below more most alike) ∙ was.1);
    few = λ n below. omega (arith, g.few n below, below l on, most);
  }

  -- a cell joins for one of the locks, or none
  pub one_grown : (new : Stored) (l : ℕ) (k : LockSum) → l < length locks → is_held held l ≡ true
      → HasGrown l var cells new → IsKept l new k → k.by ≡ (kept_at locks l).by
      → (has_cell cells l var ≡ true → shown k ≡ shown (kept_at locks l))
      → Grown held var i before new (set locks l k)
  one_grown new l k h on grown own by same = record {
    kept = kept_set l new locks k h own
        (λ m n. kept_grown l var m cells new (kept_at locks m) n grown (g.kept m));
    same = same_then (said_of before) (entries_of cells locks) (entries_of new (set locks l k)) g.same says;
    ready = λ m e. (says m).ready var (g.ready m e);
    grown = λ m v off. joins grown m v (not_held held l on m _ off) ∙ g.grown m v off;
    again = λ all.
        let there = still l on all in
        let was = g.again all in (none_joins grown there ∙ was.0, same_shown there ∙ was.1);
    few = λ n below. omega (arith, g.few n below, length-set locks l k);
  }
    where
      by_each : (m : ℕ) → (kept_at (set locks l k) m).by ≡ (kept_at locks m).by
      by_each m =
          at_set no_kept (λ (j : ℕ) (q : LockSum). q.by ≡ (kept_at locks j).by) locks l k h by m (λ _. refl)

      says : SaySame (entries_of cells locks) (entries_of new (set locks l k))
      says m = says_more l var m cells new locks (set locks l k) (g.kept 0).same grown (by_each m)

      same_shown : has_cell cells l var ≡ true → all_shown (set locks l k) ≡ all_shown locks
      same_shown there =
          let after = length-map (set locks l k) shown in
          let before = length-map locks shown in
          let long = length-set locks l k in
          ext_get_or no_kept (all_shown (set locks l k)) (all_shown locks)
          (omega (arith, after, before, long)) (λ m lt. shown_at (set locks l k) m ∙ at_set no_kept
          (λ (j : ℕ) (q : LockSum). shown q ≡ shown (kept_at locks j)) locks l k h (same there) m (λ _. refl)
          ∙ sym (shown_at locks m))

      none_joins : HasGrown l var cells new → has_cell cells l var ≡ true → new ≡ cells
      none_joins (inl e) there = e
      none_joins (inr (n, e)) there = let less = ltb-true _ _ there in absurd (omega (arith, n, less))

      joins : HasGrown l var cells new → (m v : ℕ) → (nat_eq m l && nat_eq v var) ≡ false
          → has_cell new m v ≡ has_cell cells m v
      joins (inl e) m v off = ap (λ (s : Stored). has_cell s m v) e
      joins (inr (n, e)) m v off =
          ap (λ (s : Stored). has_cell s m v) e ∙ no_more cells l var m v off

  -- the variable has a cell under one lock more
  pub next_grown : (m : LockId) → i < length held → has_cell cells (get_or held i m).0 var ≡ true
      → Grown held var (i + 1) before cells locks
  next_grown m h there = record {
    kept = g.kept;
    same = g.same;
    ready = held_each (λ l. has_cell cells l var ≡ true) held i m h g.ready there;
    grown = g.grown;
    again = g.again;
    few = g.few;
  }

-- the lock at hand has grown, once locks have joined
pub at_grown : {held : List LockId} {var i : ℕ} {before : Sums} {cells : Stored} {locks : List LockSum}
    → Grown held var i before cells locks → (more : List LockSum) (new : Stored) (m : LockId)
    (was k : LockSum)
    → ((j : ℕ) → kept_at more j ≡ kept_at locks j) → length locks ≤ length more
    → length more ≤ max (length locks) ((get_or held i m).0 + 1) → i < length held
    → (get_or held i m).0 < length more
    → was ≡ get_or more (get_or held i m).0 was → HasGrown (get_or held i m).0 var cells new
    → IsKept (get_or held i m).0 new k → k.by ≡ was.by
    → (has_cell cells (get_or held i m).0 var ≡ true → shown k ≡ shown was)
    → Grown held var i before new (set more (get_or held i m).0 k)
at_grown {held = held} {i = i} g more new m was k alike long most h there read grown own by same =
    let on = is_held_at held i m h in
    let old = read ∙ get_or_default more (get_or held i m).0 was no_kept there in
    one_grown (more_locks g more (get_or held i m).0 on alike long most) new (get_or held i m).0 k there on
    grown own (by ∙ ap (λ (q : LockSum). q.by) old) (λ has. same has ∙ ap shown old)

-- so what they mean is the same
pub record Prepared (held : List LockId) (var : ℕ) (old new : Sums) : Type 0 where
  pub again : IsReady old held var → new ≡ old
  pub kept : KeepsReady old new
  pub grown : GrownFor old new held var
  pub locks : LocksGrownFor old new held
  pub noted : SameNoted old new
  pub others : SameOthers old new
  pub stands : (log : List Event) → StandsFor log old → StandsFor log new

-- once cells have joined for all locks, there is room
pub prepared : {held : List LockId} {var i : ℕ} {before : Sums} {cells : Stored} {locks : List LockSum}
    → Grown held var i before cells locks → Prepared held var before (sums cells locks)
unfolding noted_of others_of is_ready
prepared {before = before} {cells = cells} {locks = locks} g =
    let same = subst (SaySame (said_of before)) (sym (said_as cells locks)) g.same in
    record {
      again = λ ready i. record { cells = (g.again ready).0 i; locks = (g.again ready).1 i };
      kept = λ l v. (same l).ready v;
      grown = g.grown;
      locks = λ n below. omega (arith, g.few n below, length-map locks shown);
      noted = λ t l v k. (same l).noted t v k;
      others = λ l v k t. (same l).others v k t;
      stands = λ log. same_stands log _ _ (λ t l v k. (same l).noted t v k)
          (λ l v k t. (same l).others v k t);
    }
