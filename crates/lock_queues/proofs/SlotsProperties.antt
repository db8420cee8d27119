-- What a list of slots says of each thread, and what it says after a change.
use Rattle.std.proofs.Common.{◌≡◌, ℕ, suc, ◌+◌, ◌<◌, ◌≤◌, true, false, not, cond, nat_eq, nat_lt, List, []}
use Rattle.std.proofs.Common.{◌∷◌, ◌++◌, length, set, get_or, take, drop, refl, sym, ap, ap₂, ◌∙◌}
use Rattle.std.proofs.Common.{arith, ◌⊎◌, Bool, Option, Some, None, length-set}
use Rattle.std.specs.Option.{is_some, option_or}
use Rattle.std.specs.List.{find, remove}
use Rattle.std.proofs.lemmas.Bool.{cases_eq, cases_lt, eqb-true, eq-eqb, ne_eqb, lt-ltb, le-ltb, not-true}
use Rattle.std.proofs.lemmas.List.{get_or-set_same, get_or-set_other, get_or_default, set_split, set-get_or}
use Rattle.std.proofs.lemmas.List.Edits.{length-remove, get_or-remove_below, get_or-remove_above}
use Rattle.std.proofs.lemmas.List.Elements.{All-set, All-push, All-weaker, All-append, All-take, All-drop}
use Rattle.std.proofs.lemmas.List.Folds.{find_at, find-set, find_past, find-append}
use Rattle.std.proofs.lemmas.List.Quantifiers.{all_pairs_push, all_pairs_remove}
use Rattle.std.proofs.lemmas.List.Sums.{passes_at_first, prefix_len_passes}
use Rattle.std.proofs.lemmas.Option.{slice_get-get_or, slice_get_past}
use mathlib.Core.Logic.{inl, inr}
use Rattle.event_core.specs.Rows.{with_row}
use Rattle.event_core.proofs.RowsAfterProperties.{row_other}
use Rattle.hb_clocks.proofs.WithRowProperties.{row_here}
use Rattle.lock_queues.specs.declared.slots.Slot.{Slot}
use Rattle.lock_queues.specs.Slots.{is_of, slot_of, has_slot, place_in, opened_at, opened_in, no_slot}
use Rattle.lock_queues.specs.Slots.{slot_at, IsSlot, AreSlots}

-- two numbers are the same or not
abbrev pub Whether : ℕ → ℕ → Type 0
Whether a b = (a ≡ b) ⊎ (a ≡ b → ⊥)

-- what is said of each thread, where one row is another
pub said : {A B : Type 0} {f : ℕ → A} (F : A → B) (t : ℕ) (x : A) (g : ℕ → A) → f ≡ with_row t x g
    → ◌≡◌ {A = ℕ → B} (λ u. F (f u)) (with_row t (F x) (λ u. F (g u)))
said {A = A} {B = B} F t x g e =
    ap {B = ℕ → B} (λ (h : ℕ → A) (u : ℕ). F (h u)) e ∙ (λ i u. by u (nat_eq u t) i)
  where
    by : (u : ℕ) (b : Bool) → F (cond b x (g u)) ≡ cond b (F x) (F (g u))
    by u true = refl
    by u false = refl

-- the thread has a slot, and it stands there
pub record Placed (slots : List Slot) (t i : ℕ) : Type 0 where
  pub at : i ≡ place_in slots t
  pub within : i < length slots
  pub thread : t ≡ (slot_at slots i).thread.0
  pub is : slot_of slots t ≡ Some (slot_at slots i)

slot_past : (slots : List Slot) (t : ℕ) → length slots ≤ place_in slots t → slot_of slots t ≡ None
slot_past slots t past = find_at (is_of t) slots ∙ slice_get_past slots (place_in slots t) past

slot_here : (slots : List Slot) (t : ℕ) → place_in slots t < length slots → Placed slots t (place_in slots t)
slot_here slots t lt = record {
  at = refl;
  within = lt;
  thread = eqb-true t _ (passes_at_first (is_of t) slots no_slot lt);
  is = find_at (is_of t) slots ∙ slice_get-get_or slots (place_in slots t) no_slot lt;
}

-- a thread with a slot has it at its place
pub has_placed : (slots : List Slot) (t : ℕ) → has_slot slots t ≡ true → Placed slots t (place_in slots t)
has_placed slots t has = elim (cases_lt (place_in slots t) (length slots)) [
  | inl lt ↦ slot_here slots t lt
  | inr past ↦ absurd (let none : has_slot slots t ≡ false = ap is_some (slot_past slots t past) in cc)
]

-- a thread has a slot exactly where its place is below the number of slots
pub has_by_place : (slots : List Slot) (t i n : ℕ) → i ≡ place_in slots t → n ≡ length slots
    → nat_lt i n ≡ has_slot slots t
has_by_place slots t i n is len = elim (cases_lt i n) [
  | inl lt ↦ lt-ltb i n lt ∙ sym (ap is_some (slot_here slots t (omega arith)).is)
  | inr past ↦ le-ltb i n past ∙ sym (ap is_some (slot_past slots t (omega arith)))
]

-- a thread that is in its section has a slot
pub entered_has : (slots : List Slot) (t : ℕ) → 0 < opened_in slots t → has_slot slots t ≡ true
entered_has slots t lt = by (slot_of slots t) lt
  where
    by : (o : Option Slot) → 0 < opened_at o → is_some o ≡ true
    by None lt = absurd (omega arith)
    by (Some s) lt = refl

-- a thread without one is that of no slot, and the other way round
not_at : (slots : List Slot) (t : ℕ) → has_slot slots t ≡ false → (k : ℕ) (d : Slot) → k < length slots
    → (get_or slots k d).thread.0 ≡ t → ⊥
not_at slots t none k d lt e = elim (cases_lt (place_in slots t) (length slots)) [
  | inl here ↦ (let has : has_slot slots t ≡ true = ap is_some (slot_here slots t here).is in cc)
  | inr past ↦
      let off : is_of t (get_or slots k d) ≡ false
      = not-true _ (prefix_len_passes (λ s. not (is_of t s)) slots k d (omega arith)) in
      let on : is_of t (get_or slots k d) ≡ true = eq-eqb t (get_or slots k d).thread.0 (sym e) in
      cc
]

none_at : (slots : List Slot) (t : ℕ) → ((k : ℕ) → k < length slots → (slot_at slots k).thread.0 ≡ t → ⊥)
    → slot_of slots t ≡ None
none_at slots t not_so = elim (cases_lt (place_in slots t) (length slots)) [
  | inl here ↦ absurd (not_so (place_in slots t) here (sym (slot_here slots t here).thread))
  | inr past ↦ slot_past slots t past
]

-- a slot changes
pub slot_set : {slots : List Slot} {t i : ℕ} (s : Slot) → Placed slots t i → t ≡ s.thread.0
    → slot_of (set slots i s) ≡ with_row t (Some s) (slot_of slots)
slot_set {slots = slots} {t = t} {i = i} s p own j u = go (cases_eq u t) j
  where
    go : Whether u t → slot_of (set slots i s) u ≡ with_row t (Some s) (slot_of slots) u
    go (inl is) =
        find-set (is_of u) slots i s (p.at ∙ ap (place_in slots) (sym is)) p.within
        (eq-eqb u s.thread.0 (is ∙ own))
        ∙ sym (row_here t (Some s) (slot_of slots) u is)
    go (inr away) =
        find_past (is_of u) slots i s no_slot (ne_eqb u (slot_at slots i).thread.0
        (λ e. away (e ∙ sym p.thread)))
        (ne_eqb u s.thread.0 (λ e. away (e ∙ sym own)))
        ∙ sym (row_other t (Some s) (slot_of slots) u away)

or_none : (o : Option Slot) → option_or o None ≡ o
or_none None = refl
or_none (Some s) = refl

-- an option that has no value is none
pub is_none : (o : Option Slot) → is_some o ≡ false → o ≡ None
is_none None e = refl
is_none (Some s) e = absurd cc

-- a slot joins
pub slot_push : (slots : List Slot) (s : Slot) → has_slot slots s.thread.0 ≡ false
    → slot_of (slots ++ s ∷ []) ≡ with_row s.thread.0 (Some s) (slot_of slots)
slot_push slots s none j u = (find-append (is_of u) slots (s ∷ []) ∙ go (cases_eq u s.thread.0)) j
  where
    go : Whether u s.thread.0 → option_or (slot_of slots u) (cond (nat_eq u s.thread.0) (Some s) None)
        ≡ with_row s.thread.0 (Some s) (slot_of slots) u
    go (inl is) =
        ap₂ (λ (o : Option Slot) (b : Bool). option_or o (cond b (Some s) None))
        (ap (slot_of slots) is ∙ is_none (slot_of slots s.thread.0) none) (eq-eqb u s.thread.0 is)
        ∙ sym (row_here s.thread.0 (Some s) (slot_of slots) u is)
    go (inr away) =
        ap (λ b. option_or (slot_of slots u) (cond b (Some s) None)) (ne_eqb u s.thread.0 away)
        ∙ or_none (slot_of slots u) ∙ sym (row_other s.thread.0 (Some s) (slot_of slots) u away)

-- a slot goes
pub slot_remove : (n : ℕ) {slots : List Slot} {t i : ℕ} → AreSlots n slots → Placed slots t i
    → slot_of (remove slots i) ≡ with_row t None (slot_of slots)
slot_remove n {slots = slots} {t = t} {i = i} are p j u = go (cases_eq u t) j
  where
    fewer : length (remove slots i) + 1 ≡ length slots
    fewer = length-remove slots i p.within

    gone : (k : ℕ) → k < length (remove slots i) → (slot_at (remove slots i) k).thread.0 ≡ t → ⊥
    gone k lt e = elim (cases_lt k i) [
      | inl below ↦ are.others k i no_slot below p.within
          (ap (λ (s : Slot). s.thread.0) (sym (get_or-remove_below slots i no_slot k below p.within)) ∙ e
          ∙ p.thread)
      | inr past ↦ are.others i (k + 1) no_slot (omega arith) (omega (arith, fewer, lt))
          (sym (ap (λ (s : Slot). s.thread.0) (sym (get_or-remove_above slots i no_slot k past p.within)) ∙ e
          ∙ p.thread))
    ]

    go : Whether u t → slot_of (remove slots i) u ≡ with_row t None (slot_of slots) u
    go (inl is) =
        none_at (remove slots i) u (λ k lt e. gone k lt (e ∙ is)) ∙ sym (row_here t None (slot_of slots) u is)
    go (inr away) =
        find-append (is_of u) (take i slots) (drop (suc i) slots)
        ∙ ap (λ b. option_or (find (is_of u) (take i slots))
        (cond b (Some (slot_at slots i)) (find (is_of u) (drop (suc i) slots))))
        (sym (ne_eqb u (slot_at slots i).thread.0 (λ e. away (e ∙ sym p.thread))))
        ∙ sym (find-append (is_of u) (take i slots) (slot_at slots i ∷ drop (suc i) slots))
        ∙ ap (find (is_of u)) (sym (set_split slots i (slot_at slots i) p.within)
        ∙ set-get_or slots i no_slot)
        ∙ sym (row_other t None (slot_of slots) u away)

-- what is kept of slots stays so
pub slots_more : (n m : ℕ) (slots : List Slot) → n ≤ m → AreSlots n slots → AreSlots m slots
slots_more n m slots le are = record {
  each = All-weaker (IsSlot n) (IsSlot m)
      (λ s is. record { within = (let lt = is.within in omega arith); own = is.own }) slots are.each;
  others = are.others;
}

-- slots stay in order where one of the same thread takes another's place
pub slots_set : (n : ℕ) {slots : List Slot} {t i : ℕ} (s : Slot) → Placed slots t i → t ≡ s.thread.0
    → IsSlot n s → AreSlots n slots → AreSlots n (set slots i s)
slots_set n {slots = slots} {i = i} s p own is are = record {
  each = All-set (IsSlot n) slots i s is are.each;
  others = λ j k d lt within e. are.others j k d lt (let len = length-set slots i s in omega arith)
      (sym (same j d (omega (arith, length-set slots i s))) ∙ e ∙ same k d
      (omega (arith, length-set slots i s)));
}
  where
    same : (k : ℕ) (d : Slot) → k < length slots → (get_or (set slots i s) k d).thread.0 ≡
        (get_or slots k d).thread.0
    same k d lt = elim (cases_eq k i) [
      | inl e ↦ ap (λ m. (get_or (set slots i s) m d).thread.0) e
          ∙ ap (λ (x : Slot). x.thread.0) (get_or-set_same slots i s d p.within) ∙ sym own ∙ p.thread
          ∙ ap (λ (x : Slot). x.thread.0) (get_or_default slots i no_slot d p.within)
          ∙ ap (λ m. (get_or slots m d).thread.0) (sym e)
      | inr away ↦ ap (λ (x : Slot). x.thread.0) (get_or-set_other slots i k s d away)
    ]

-- slots stay in order with one more for a thread that had none
pub slots_push : (n : ℕ) (slots : List Slot) (s : Slot) → has_slot slots s.thread.0 ≡ false
    → IsSlot n s → AreSlots n slots → AreSlots n (slots ++ s ∷ [])
slots_push n slots s none is are = record {
  each = All-push (IsSlot n) slots s are.each is;
  others = all_pairs_push (λ (a b : Slot). a.thread.0 ≡ b.thread.0 → ⊥) slots s are.others
      (λ k d lt e. not_at slots s.thread.0 none k d lt e);
}

-- slots stay in order with one taken out
pub slots_remove : (n : ℕ) (slots : List Slot) (i : ℕ) → i < length slots → AreSlots n slots
    → AreSlots n (remove slots i)
slots_remove n slots i lt are = record {
  each = All-append (IsSlot n) (take i slots) (drop (suc i) slots) (All-take (IsSlot n) i slots are.each)
      (All-drop (IsSlot n) (suc i) slots are.each);
  others = all_pairs_remove (λ (a b : Slot). a.thread.0 ≡ b.thread.0 → ⊥) slots i lt are.others;
}
