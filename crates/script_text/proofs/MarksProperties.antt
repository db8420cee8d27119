-- Threads that are marked until none is new.
use Rattle.std.proofs.Common.{◌≡◌, ℕ, ◌+◌, ◌<◌, ◌≤◌, ◌||◌, ◌++◌, ◌&&◌, List, [], ◌∷◌, length, get_or}
use Rattle.std.proofs.Common.{set, take, drop, append-nil, zero, suc, Option, Some, None, refl, ap, ◌∙◌, sym}
use Rattle.std.proofs.Common.{subst, arith, inl, inr, ◌⊎◌, true, false, Bool}
use Rattle.std.proofs.lemmas.List.{drop_all, take_all}
use Rattle.std.specs.Prelude.{replicate, slice_get, if◌then◌else◌}
use Rattle.std.proofs.lemmas.Bool.{eqb-true, eq-eqb, cases_eq}
use Rattle.std.proofs.lemmas.Bool.Decides.{nat_tests}
use Rattle.std.proofs.lemmas.Grind.{common_steps}
use Rattle.std.proofs.lemmas.List.Sums.{sum_by-set}
use Rattle.std.proofs.lemmas.Option.{slice_get_within, same_Some}
use Rattle.event_core.specs.declared.ids.ThreadId.{ThreadId}
use Rattle.script_text.specs.declared.lines.ScriptLine.{ScriptLine}
use Rattle.script_text.specs.Lines.{is_of, forks, joins, is_thread, thread_of, fork_of, join_of}
use Rattle.script_text.specs.Scripts.{Reached, main, forked, names_thread, NamesReached, IsFirstUnreached}
use Rattle.script_text.specs.Marks.{is_marked, cost, unmarked, MarksReached, Keeps, IsSpread}
use Rattle.script_text.specs.Marks.{IsClosed, Sets, MarksLine, none_or_marked, names_marked, IsFirstUnmarked}

-- ---- what a line names

names_of : (l : ScriptLine) (u : ℕ) → is_of u l ≡ true → names_thread u l ≡ true
names_of l u h = rw h refl

names_fork : (a b c : Bool) → b ≡ true → (a || (b || c)) ≡ true
names_fork a b c h = grind (arith, nat_tests)

pub own_named : (l : ScriptLine) → names_thread (thread_of l).0 l ≡ true
own_named l = names_of l (thread_of l).0 (eq-eqb (thread_of l).0 (thread_of l).0 refl)

pub fork_forks : (l : ScriptLine) (child : ThreadId) → fork_of l ≡ Some child → forks child.0 l ≡ true
fork_forks l child is = ap (λ (o : Option ThreadId). is_thread child.0 o) is ∙ eq-eqb child.0 child.0 refl

pub child_named : (l : ScriptLine) (child : ThreadId) → fork_of l ≡ Some child → names_thread child.0 l ≡ true
child_named l child is = names_fork (is_of child.0 l) (forks child.0 l) (joins child.0 l)
    (fork_forks l child is)

names_join : (a b c : Bool) → c ≡ true → (a || (b || c)) ≡ true
names_join a b c h = grind (arith, nat_tests)

pub target_named : (l : ScriptLine) (target : ThreadId) → join_of l ≡ Some target
    → names_thread target.0 l ≡ true
target_named l target is =
    names_join (is_of target.0 l) (forks target.0 l) (joins target.0 l)
    (ap (λ (o : Option ThreadId). is_thread target.0 o) is ∙ eq-eqb target.0 target.0 refl)

-- ---- one line

set_of : (child : ℕ) (old : List Bool) (u : ℕ) → is_marked (set old child true) u ≡ true
    → (u ≡ child) ⊎ (is_marked old u ≡ true)
set_of child old u m = grind (arith, common_steps)

set_keeps : (child : ℕ) (old : List Bool) → child < length old → Keeps old (set old child true)
set_keeps child old within = λ u m. grind (arith, common_steps)

-- a new mark
pub sets : (l : ScriptLine) (child : ThreadId) (old : List Bool) → fork_of l ≡ Some child
    → is_marked old (thread_of l).0 ≡ true → is_marked old child.0 ≡ false → child.0 < length old
    → Sets l old (set old child.0 true)
sets l child old is own isnt within = record {
  own = (thread_of l).0;
  child = child.0;
  of = eq-eqb (thread_of l).0 (thread_of l).0 refl;
  forks = fork_forks l child is;
  marked = own;
  new_child = isnt;
  within = within;
  set = λ u m. set_of child.0 old u m;
  keeps = λ u m. set_keeps child.0 old within u m;
  fewer =
      let sum = sum_by-set cost old child.0 true false within in
      let was : cost (get_or old child.0 false) ≡ 1 = ap cost isnt in
      omega (arith, sum, was);
}

-- ---- lines, one after another

-- what was marked is reached
pub marks_reached : (lines : List ScriptLine) (k : ℕ) (l : ScriptLine) (old new : List Bool) (r : Bool)
    → slice_get lines k ≡ Some l → MarksReached lines old → MarksLine l old new r → MarksReached lines new
marks_reached lines k l old new r at h (inl m) = subst (λ (marks : List Bool). MarksReached lines marks)
    (sym m.1) h
marks_reached lines k l old new r at h (inr m) = λ u marked.
    elim (m.1.set u marked) [
      | inl same ↦ subst (λ (v : ℕ). Reached lines v) (sym same)
          (forked k l at m.1.of m.1.forks (h m.1.own m.1.marked))
      | inr was ↦ h u was
    ]

pub keeps_line : (l : ScriptLine) (start old new : List Bool) (r : Bool) → Keeps start old
    → MarksLine l old new r
    → Keeps start new
keeps_line l start old new r h (inl m) = subst (λ (marks : List Bool). Keeps start marks) (sym m.1) h
keeps_line l start old new r h (inr m) = λ u marked. m.1.keeps u (h u marked)

-- what a pass over the first i lines left: nothing is new and these lines are closed, or there are fewer
-- unmarked
pub record Passed (lines : List ScriptLine) (start now : List Bool) (i : ℕ) (changed : Bool) : Type 0 where
  pub same : changed ≡ false → now ≡ start
  pub spread : changed ≡ false → (k : ℕ) (l : ScriptLine) → k < i → slice_get lines k ≡ Some l
      → IsSpread l now
  pub fewer : changed ≡ true → unmarked now < unmarked start
  pub most : unmarked now ≤ unmarked start

spread_more : (lines : List ScriptLine) (i : ℕ) (m : ScriptLine) (marks : List Bool)
    → slice_get lines i ≡ Some m
    → IsSpread m marks
    → ((k : ℕ) (l : ScriptLine) → k < i → slice_get lines k ≡ Some l → IsSpread l marks)
    → (k : ℕ) (l : ScriptLine) → k < i + 1 → slice_get lines k ≡ Some l → IsSpread l marks
spread_more lines i m marks here last before k l lt at =
    elim (cases_eq k i) [
      | inl same ↦ subst (λ (x : ScriptLine). IsSpread x marks)
          (same_Some m l (sym here ∙ ap (λ (j : ℕ). slice_get lines j) (sym same) ∙ at)) last
      | inr other ↦ before k l (omega (arith, lt, other)) at
    ]

pub pass_line : (lines : List ScriptLine) (l : ScriptLine) (start old new : List Bool) (i : ℕ)
    (changed r after : Bool) → Passed lines start old i changed → slice_get lines i ≡ Some l
    → MarksLine l old new r → after ≡ (if r then true else changed) → Passed lines start new (i + 1) after
pass_line lines l start old new i changed r after h at (inl m) is =
    let kept : after ≡ changed = is ∙ ap (λ (b : Bool). if b then true else changed) m.0 in
    record {
      same = λ isnt. m.1 ∙ h.same (sym kept ∙ isnt);
      spread = λ isnt. subst (λ (marks : List Bool). (k : ℕ) (x : ScriptLine) → k < i + 1
          → slice_get lines k ≡ Some x → IsSpread x marks) (sym m.1)
          (spread_more lines i l old at m.2 (h.spread (sym kept ∙ isnt)));
      fewer = λ yes. subst (λ (marks : List Bool). unmarked marks < unmarked start) (sym m.1)
          (h.fewer (sym kept ∙ yes));
      most = subst (λ (marks : List Bool). unmarked marks ≤ unmarked start) (sym m.1) h.most;
    }
pass_line lines l start old new i changed r after h at (inr m) is =
    let set : after ≡ true = is ∙ ap (λ (b : Bool). if b then true else changed) m.0 in
    record {
      same = λ isnt. let clash : true ≡ false = sym set ∙ isnt in absurd cc;
      spread = λ isnt. let clash : true ≡ false = sym set ∙ isnt in absurd cc;
      fewer = λ yes. omega (arith, m.1.fewer, h.most);
      most = omega (arith, m.1.fewer, h.most);
    }

pub pass_ends : (lines : List ScriptLine) (start now : List Bool) (n : ℕ) (changed : Bool) → length lines ≤ n
    → Passed lines start now n changed → changed ≡ false → IsClosed lines now
pass_ends lines start now n changed le h isnt = λ k l at.
    let within = slice_get_within lines k l at in h.spread isnt k l (omega (arith, within, le)) at

-- ---- all that is reached

-- closed marks that have thread 0 have all threads to which forks lead
pub all_marked : (lines : List ScriptLine) (marks : List Bool) → IsClosed lines marks
    → is_marked marks 0 ≡ true
    → (u : ℕ) → Reached lines u → is_marked marks u ≡ true
all_marked lines marks closed first _ main = first
all_marked lines marks closed first u (forked {t} k l at of forks r) =
    closed k l at t u of forks (all_marked lines marks closed first t r)

-- ---- what the marks say of lines

pub own_or_more : (a b c : Bool) → (a || (b || c)) ≡ true → (a ≡ true) ⊎ (b ≡ true) ⊎ (c ≡ true)
own_or_more a b c h = grind (arith, nat_tests)

all_parts : (a b c : Bool) → (a && (b && c)) ≡ true → (a ≡ true) × (b ≡ true) × (c ≡ true)
all_parts a b c h = grind (arith, nat_tests)

marked_of : (marks : List Bool) (u : ℕ) (o : Option ThreadId) → none_or_marked marks o ≡ true
    → is_thread u o ≡ true
    → is_marked marks u ≡ true
marked_of marks u None h is = absurd cc
marked_of marks u (Some v) h is = ap (λ (n : ℕ). is_marked marks n) (sym (eqb-true v.0 u is)) ∙ h

named_marked : (marks : List Bool) (l : ScriptLine) (u : ℕ) → names_marked marks l ≡ true
    → names_thread u l ≡ true
    → is_marked marks u ≡ true
named_marked marks l u h named =
    by (own_or_more (is_of u l) (forks u l) (joins u l) named)
    (all_parts (is_marked marks (thread_of l).0) (none_or_marked marks (fork_of l)) (none_or_marked marks
    (join_of l)) h)
  where
    by : (is_of u l ≡ true) ⊎ (forks u l ≡ true) ⊎ (joins u l ≡ true)
        → (is_marked marks (thread_of l).0 ≡ true) × (none_or_marked marks (fork_of l) ≡ true)
        × (none_or_marked marks (join_of l) ≡ true) → is_marked marks u ≡ true
    by (inl own) p = ap (λ (n : ℕ). is_marked marks n) (sym (eqb-true (thread_of l).0 u own)) ∙ p.0
    by (inr (inl fork)) p = marked_of marks u (fork_of l) p.1 fork
    by (inr (inr join)) p = marked_of marks u (join_of l) p.2 join

pub names_reached : (lines : List ScriptLine) (marks : List Bool) (l : ScriptLine) → MarksReached lines marks
    → names_marked marks l ≡ true → NamesReached lines l
names_reached lines marks l sound h = λ u named. sound u (named_marked marks l u h named)

unmarked_of : (marks : List Bool) (o : Option ThreadId) → none_or_marked marks o ≡ false
    → (u : ℕ) × (is_thread u o ≡ true) × (is_marked marks u ≡ false)
unmarked_of marks None h = absurd cc
unmarked_of marks (Some v) h = (v.0, eq-eqb v.0 v.0 refl, h)

one_false : (a b c : Bool) → (a && (b && c)) ≡ false → (a ≡ false) ⊎ (b ≡ false) ⊎ (c ≡ false)
one_false a b c h = grind (arith, nat_tests)

unmarked_thread : (marks : List Bool) (l : ScriptLine) → names_marked marks l ≡ false
    → (u : ℕ) × (names_thread u l ≡ true) × (is_marked marks u ≡ false)
unmarked_thread marks l h =
    by (one_false (is_marked marks (thread_of l).0) (none_or_marked marks (fork_of l)) (none_or_marked marks
    (join_of l)) h)
  where
    by : (is_marked marks (thread_of l).0 ≡ false) ⊎ (none_or_marked marks (fork_of l) ≡ false)
        ⊎ (none_or_marked marks (join_of l) ≡ false)
        → (u : ℕ) × (names_thread u l ≡ true) × (is_marked marks u ≡ false)
    by (inl own) = ((thread_of l).0, own_named l, own)
    by (inr (inl fork)) = let x = unmarked_of marks (fork_of l) fork in
        (x.0, names_fork (is_of x.0 l) (forks x.0 l) (joins x.0 l) x.1, x.2)
    by (inr (inr join)) = let x = unmarked_of marks (join_of l) join in
        (x.0, names_join (is_of x.0 l) (forks x.0 l) (joins x.0 l) x.1, x.2)

-- the first line that names a thread without a mark is the first that names one that is not reached
pub first_unreached : (lines : List ScriptLine) (marks : List Bool) (n : ℕ) → MarksReached lines marks
    → ((u : ℕ) → Reached lines u → is_marked marks u ≡ true) → IsFirstUnmarked lines marks n
    → IsFirstUnreached lines n
first_unreached lines marks n sound all h =
    let x = unmarked_thread marks h.line h.unmarked in
    record {
      place = h.place;
      line = h.line;
      thread = x.0;
      at = h.at;
      number = h.number;
      names = x.1;
      unreached = λ r. let clash : false ≡ true = sym x.2 ∙ all x.0 r in absurd cc;
      first = λ k l lt at. names_reached lines marks l sound (h.first k l lt at);
    }

-- ---- marks in memory

pub written : {new slice items : List Bool} {len : ℕ} → length new ≡ length slice → slice ≡ items
    → length items ≡ len → take len (new ++ drop (length new) items) ≡ new
written {new} {slice} {items} {len} same value is =
    let lens = same ∙ ap (λ (xs : List Bool). length xs) value in
    let none : drop (length new) items ≡ [] = drop_all (length new) items (omega (arith, lens)) in
    ap (λ (rest : List Bool). take len (new ++ rest)) none
    ∙ ap (λ (xs : List Bool). take len xs) (append-nil new)
    ∙ take_all len new (omega (arith, lens, is))

pub written_len : (new : List Bool) {slice items : List Bool} {len n : ℕ} → length new ≡ length slice
    → slice ≡ items → length items ≡ len → length items ≡ n
    → length (take len (new ++ drop (length new) items)) ≡ n
written_len new same value is all =
    ap (λ (xs : List Bool). length xs) (written same value is) ∙ same
    ∙ ap (λ (xs : List Bool). length xs) value ∙ all

pub set_none : (marks : List Bool) → length marks ≡ 0 → marks ≡ set marks 0 true
set_none [] h = refl
set_none (m ∷ marks) h = absurd cc

not_marked : (n u : ℕ) → is_marked (replicate n false) u ≡ true → ⊥
not_marked zero u h = cc
not_marked (suc n) zero h = cc
not_marked (suc n) (suc u) h = not_marked n u h

pub main_reached : (lines : List ScriptLine) (n u : ℕ) → is_marked (set (replicate n false) 0 true) u ≡ true
    → Reached lines u
main_reached lines zero u h = absurd cc
main_reached lines (suc n) zero h = main
main_reached lines (suc n) (suc u) h = absurd (not_marked n u h)

pub main_marked : (n : ℕ) → 0 < n → is_marked (set (replicate n false) 0 true) 0 ≡ true
main_marked zero h = absurd (omega arith)
main_marked (suc n) h = refl
