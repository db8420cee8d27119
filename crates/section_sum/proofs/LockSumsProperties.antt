-- What is said of each lock after a call on one of them.
use Rattle.std.proofs.Common.{◌≡◌, ℕ, ◌<◌, ◌≤◌, Bool, true, false, ◌&&◌, ◌⊎◌, inl, inr, List, [], ◌++◌, cond}
use Rattle.std.proofs.Common.{length, get_or, take, nat_eq, set, refl, sym, ap, subst, ◌∙◌, arith}
use Rattle.std.specs.Prelude.{nat_lt}
use Rattle.std.proofs.lemmas.Bool.{cases_lt, eq-eqb, ltb-true, lt-ltb, le-ltb}
use Rattle.std.proofs.lemmas.List.{get_or-set_same, get_or-set_other, get_or_past, get_or_default}
use Rattle.std.proofs.lemmas.List.{length_push}
use Rattle.event_core.specs.declared.ids.LockId.{LockId}
use Rattle.event_core.specs.declared.events.AccessKind.{AccessKind}
use Rattle.event_core.specs.declared.events.AccessKind.TheVariants.{Read, Write}
use Rattle.section_sum.specs.declared.cells.Place.{Place}
use Rattle.section_sum.specs.Newest.{section}
use Rattle.section_sum.specs.Cell.{no_cell, cell_at, closed_as, marked_as, sources_in}
use Rattle.section_sum.specs.Cells.{Stored, is_place, cell_place, has_cell, place, lock_at, with_place}
use Rattle.section_sum.specs.Cells.{HasGrown}
use Rattle.section_sum.specs.LockSums.{LockSum, no_kept, kept_at, IsKept, AreKept}
use Rattle.section_sum.specs.Entries.{Entries, entries_of, IsAlone, SaysSame, HasNoted, HasClosed}
use Rattle.section_sum.specs.Locks.{HaveNoted, HaveClosed}
use Rattle.section_sum.specs.Sums.{is_held}
use Rattle.section_sum.proofs.ListProperties.{at_set}
use Rattle.section_sum.proofs.CellsProperties.{own_place, same_place, place_high, place_left, place_end}
use Rattle.section_sum.proofs.CellsProperties.{joined}
use Rattle.section_sum.proofs.IsKeptProperties.{Changed, not_own, kept_more, has_lock, no_lock}
use Rattle.section_sum.proofs.EntriesProperties.{says_same, says_noted, says_closed, says_none}
use Rattle.section_sum.proofs.LocksProperties.{same_said, one_lock, closed_none, is_held_at}

-- one lock's is changed
pub kept_set : (l : ℕ) (s : Stored) (locks : List LockSum) (k : LockSum) → l < length locks → IsKept l s k
    → ((m : ℕ) → (m ≡ l → ⊥) → IsKept m s (kept_at locks m)) → AreKept s (set locks l k)
kept_set l s locks k h own others m =
    at_set no_kept (λ (i : ℕ) (q : LockSum). IsKept i s q) locks l k h own m (λ n. others m n)

-- what is kept of a lock that was read, and written back as it was
pub kept_read : (l : ℕ) (s : Stored) (locks : List LockSum) (k : LockSum) → l < length locks → AreKept s locks
    → k ≡ get_or locks l k → IsKept l s k
kept_read l s locks k h kept e = subst (IsKept l s) (sym (e ∙ get_or_default locks l k no_kept h)) (kept l)

-- a lock that is put back as it was read leaves all fitting
pub kept_back : (l : ℕ) (s : Stored) (locks : List LockSum) (k : LockSum) → l < length locks → AreKept s locks
    → k ≡ get_or locks l k → AreKept s (set locks l k)
kept_back l s locks k h kept e = kept_set l s locks k h (kept_read l s locks k h kept e) (λ m n. kept m)

-- what is said of the other locks
pub says_other : (l m : ℕ) (old new : Stored) (locks : List LockSum) (k : LockSum) → (m ≡ l → ⊥)
    → Changed l old new → SaysSame (entries_of old locks m) (entries_of new (set locks l k) m)
says_other l m old new locks k n c = says_same (entries_of old locks m) (entries_of new (set locks l k) m)
    (λ v. ap (λ (ps : List Place). cell_at new.cells (cell_place ps m v)) c.places
    ∙ at v (cases_lt (cell_place old.places m v) (length old.places)))
    (ap (λ (q : LockSum). q.by) (get_or-set_other locks l m k no_kept n))
    (λ v h. subst (λ (ps : List Place). nat_lt (cell_place ps m v) (length ps) ≡ true) (sym c.places) h)
  where
    at : (v : ℕ)
        → (cell_place old.places m v < length old.places) ⊎ (length old.places ≤ cell_place old.places m v)
        → cell_at new.cells (cell_place old.places m v) ≡ cell_at old.cells (cell_place old.places m v)
    at v (inl h) =
        c.others (cell_place old.places m v)
        (not_own l m old (cell_place old.places m v) n (eq-eqb _ _ (own_place old.places m v h)))
    at v (inr g) =
        let size : length new.places ≡ length old.places = ap (λ (ps : List Place). length ps) c.places in
        let was = c.was in
        let same = c.same in
        get_or_past new.cells (cell_place old.places m v) no_cell (omega (arith, g, size, same))
        ∙ sym (get_or_past old.cells (cell_place old.places m v) no_cell (omega (arith, g, was)))

-- under a lock of the list the variable has a cell, and something is kept of the lock
pub record Here (s : Stored) (locks : List LockSum) (l var : ℕ) : Type 0 where
  pub place : cell_place s.places l var < length s.places
  pub within : l < length locks

pub here_at : {s : Stored} {locks : List LockSum} (thread var : ℕ) (kind : AccessKind) (held : List LockId)
    (i : ℕ) (m : LockId) (before : ℕ → Entries) → i < length held → AreKept s locks
    → HaveNoted thread (take i held) var kind before (entries_of s locks)
    → ((l : ℕ) → is_held held l ≡ true → (before l).ready var ≡ true)
    → Here s locks (get_or held i m).0 var
here_at {s = s} {locks = locks} thread var kind held i m before h kept noted ready =
    let l : ℕ = (get_or held i m).0 in
    let place : cell_place s.places l var < length s.places
    = ltb-true _ _ ((noted l).ready var (ready l (is_held_at held i m h))) in
    record { place = place; within = has_lock s locks l var kept place }

-- what is said of the lock of an access
pub says_marked : (l thread var : ℕ) (kind : AccessKind) (old new : Stored) (locks : List LockSum)
    (k : LockSum)
    → l < length locks → cell_place old.places l var < length old.places → k.by ≡ thread
    → new.places ≡ old.places
    → ((i : ℕ) → cell_at new.cells i
    ≡ marked_as (nat_eq i (cell_place old.places l var)) kind (cell_at old.cells i))
    → IsAlone (entries_of old locks l) thread
    → HasNoted thread var kind true (entries_of old locks l) (entries_of new (set locks l k) l)
says_marked l thread var kind old new locks k h ready by places exact alone =
    says_noted thread var kind (entries_of old locks l) (entries_of new (set locks l k) l) alone
    (λ v. ap (λ (ps : List Place). cell_at new.cells (cell_place ps l v)) places
    ∙ exact (cell_place old.places l v)
    ∙ ap (λ b. marked_as b kind (cell_at old.cells (cell_place old.places l v)))
    (same_place old.places l var v ready))
    (ap (λ (q : LockSum). q.by) (get_or-set_same locks l k no_kept h) ∙ by)
    (λ v r. subst (λ (ps : List Place). nat_lt (cell_place ps l v) (length ps) ≡ true) (sym places) r)

-- what is said of the lock of a section that ended
pub says_ended : (l thread number : ℕ) (old new : Stored) (locks : List LockSum) (k : LockSum)
    → l < length locks → k.by ≡ (kept_at locks l).by → (kept_at locks l).by ≡ thread
    → length old.cells ≡ length old.places → new.places ≡ old.places
    → ((i : ℕ) → cell_at new.cells i
    ≡ closed_as (nat_eq (lock_at old.places i) l) (kept_at locks l).by number (cell_at old.cells i))
    → HasClosed thread number true (entries_of old locks l) (entries_of new (set locks l k) l)
says_ended l thread number old new locks k h by own was places exact =
    says_closed thread number (entries_of old locks l) (entries_of new (set locks l k) l)
    (λ v. ap (λ (ps : List Place). cell_at new.cells (cell_place ps l v)) places
    ∙ exact (cell_place old.places l v)
    ∙ at v (cases_lt (cell_place old.places l v) (length old.places)))
    (ap (λ (q : LockSum). q.by) (get_or-set_same locks l k no_kept h) ∙ by)
    (λ v r. subst (λ (ps : List Place). nat_lt (cell_place ps l v) (length ps) ≡ true) (sym places) r)
    own
  where
    at : (v : ℕ)
        → (cell_place old.places l v < length old.places) ⊎ (length old.places ≤ cell_place old.places l v)
        → closed_as (nat_eq (lock_at old.places (cell_place old.places l v)) l) (kept_at locks l).by number
        (cell_at old.cells (cell_place old.places l v))
        ≡ closed_as true (kept_at locks l).by number (cell_at old.cells (cell_place old.places l v))
    at v (inl g) =
        ap (λ b. closed_as b (kept_at locks l).by number (cell_at old.cells (cell_place old.places l v)))
        (eq-eqb _ _ (own_place old.places l v g))
    at v (inr g) =
        let past = get_or_past old.cells (cell_place old.places l v) no_cell (omega (arith, g, was)) in
        ap
        (closed_as (nat_eq (lock_at old.places (cell_place old.places l v)) l) (kept_at locks l).by number)
        past
        ∙ same (nat_eq (lock_at old.places (cell_place old.places l v)) l)
        ∙ sym (ap (closed_as true (kept_at locks l).by number) past)
      where
        same : (b : Bool) → closed_as b (kept_at locks l).by number no_cell
            ≡ closed_as true (kept_at locks l).by number no_cell
        same true = refl
        same false = refl

-- what had a cell has it still
cell_stays : (s : Stored) (l v m x : ℕ) → cell_place s.places m x < length s.places
    → has_cell (with_place s l v) m x ≡ true
cell_stays s l v m x h =
    let left = place_left s.places (place l v) m x h in
    let long = length_push s.places (place l v) in
    lt-ltb _ _ (omega (arith, left, long, h))

-- and no other pair of a lock and a variable got one
pub no_more : (s : Stored) (l v m x : ℕ) → (nat_eq m l && nat_eq x v) ≡ false
    → has_cell (with_place s l v) m x ≡ has_cell s m x
no_more s l v m x off = elim (cases_lt (cell_place s.places m x) (length s.places)) [
  | inl h ↦ cell_stays s l v m x h ∙ sym (lt-ltb _ _ h)
  | inr g ↦
      let end = place_end s.places (place l v) m x (place_high s.places m x g) in
      let one : cond {A = ℕ} (is_place m x (place l v)) 0 1 ≡ 1 = ap (λ b. cond {A = ℕ} b 0 1) off in
      let long = length_push s.places (place l v) in
      le-ltb _ _ (omega (arith, end, one, long)) ∙ sym (le-ltb _ _ g)
]

-- a cell that joins says nothing new
pub says_more : (l v m : ℕ) (old new : Stored) (locks after : List LockSum)
    → length old.cells ≡ length old.places → HasGrown l v old new
    → (kept_at after m).by ≡ (kept_at locks m).by → SaysSame (entries_of old locks m) (entries_of new after m)
says_more l v m old new locks after same (inl e) by =
    says_same (entries_of old locks m) (entries_of new after m)
    (λ x. ap (λ (s : Stored). cell_at s.cells (cell_place s.places m x)) e) by
    (λ x r. subst (λ (s : Stored). nat_lt (cell_place s.places m x) (length s.places) ≡ true) (sym e) r)
says_more l v m old new locks after same (inr (n, e)) by =
    says_same (entries_of old locks m) (entries_of new after m)
    (λ x. ap (λ (s : Stored). cell_at s.cells (cell_place s.places m x)) e ∙ joined old l v same m x) by
    (λ x r. subst (λ (s : Stored). nat_lt (cell_place s.places m x) (length s.places) ≡ true) (sym e)
    (cell_stays old l v m x (ltb-true _ _ r)))

-- a cell that joins for another lock leaves a lock fitting
pub kept_grown : (l v m : ℕ) (old new : Stored) (k : LockSum) → (m ≡ l → ⊥) → HasGrown l v old new
    → IsKept m old k → IsKept m new k
kept_grown l v m old new k n (inl e) kept = subst (λ (s : Stored). IsKept m s k) (sym e) kept
kept_grown l v m old new k n (inr (p, e)) kept =
    subst (λ (s : Stored). IsKept m s k) (sym e) (kept_more old l v m k n kept)

-- the end of a section changes its lock's cells alone
pub ended_changed : (l by number : ℕ) (old new : Stored) → length old.cells ≡ length old.places
    → length new.cells ≡ length new.places → new.places ≡ old.places
    → ((i : ℕ) → cell_at new.cells i
    ≡ closed_as (nat_eq (lock_at old.places i) l) by number (cell_at old.cells i))
    → Changed l old new
ended_changed l by number old new was same places exact = record {
  places = places;
  was = was;
  same = same;
  others = λ i off. exact i ∙ ap (λ b. closed_as b by number (cell_at old.cells i)) off;
}

-- a variable without a cell under a lock
pub none_there : (s : Stored) (l v : ℕ) → length s.cells ≡ length s.places
    → length s.places ≤ cell_place s.places l v → cell_at s.cells (cell_place s.places l v) ≡ no_cell
none_there s l v same past = get_or_past s.cells (cell_place s.places l v) no_cell (omega (arith, same, past))

-- with no cell no section is met
pub none_met : (k : AccessKind) (t : ℕ) → sources_in no_cell k t ≡ []
none_met Read t = by (nat_eq t 0)
  where
    by : (b : Bool) → section (cond b 0 0) ≡ []
    by true = refl
    by false = refl
none_met Write t = by (nat_eq t 0)
  where
    by : (b : Bool) → section (cond b 0 0) ++ section (cond b 0 0) ≡ []
    by true = refl
    by false = refl

-- no section of it had an access
pub ended_none : (thread lock number : ℕ) (s : Stored) (locks : List LockSum) → AreKept s locks
    → length locks ≤ lock → HaveClosed thread lock number (entries_of s locks) (entries_of s locks)
ended_none thread lock number s locks kept past =
    one_lock (HasClosed thread number) lock (entries_of s locks) (entries_of s locks)
    (says_none thread number (entries_of s locks lock)
    (λ v. none_there s lock v (kept 0).same (no_lock s locks lock v kept past)))
    (λ m n. closed_none thread number _ _ (same_said (entries_of s locks) m))
