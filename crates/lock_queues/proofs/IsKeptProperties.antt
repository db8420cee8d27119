-- What is kept of one lock stays so over each change.
use Rattle.std.proofs.Common.{◌≡◌, ℕ, ◌+◌, ◌<◌, ◌≤◌, ◌⊎◌, true, false, List, [], ◌∷◌, ◌++◌, length, set}
use Rattle.std.proofs.Common.{get_or, ap, sym, subst, ◌∙◌, arith, length-set}
use Rattle.std.specs.Prelude.{IfSome, slice_index}
use Rattle.std.specs.List.{remove}
use Rattle.std.proofs.lemmas.Bool.{cases_lt, cases_eq}
use Rattle.std.proofs.lemmas.List.{get_or_push, get_or_append_left, length_push, get_or-set_same}
use Rattle.std.proofs.lemmas.List.{get_or-set_other, get_or_read}
use Rattle.std.proofs.lemmas.List.Edits.{length-remove}
use mathlib.Core.Logic.{inl, inr}
use Rattle.lock_queues.specs.declared.slots.Slot.{Slot}
use Rattle.lock_queues.specs.declared.sections.Entry.{Entry}
use Rattle.lock_queues.specs.Sections.{entry_at, no_entry}
use Rattle.lock_queues.specs.Slots.{has_slot, no_slot, IsSlot, AreSlots}
use Rattle.lock_queues.specs.Queue.{OneQueue, IsKept}
use Rattle.lock_queues.proofs.SlotsProperties.{Placed, has_placed, slots_more, slots_set, slots_push}
use Rattle.lock_queues.proofs.SlotsProperties.{slots_remove}

-- a thread with a slot has its number among those found
pub thread_within : {w : ℕ} {es : List Entry} {slots : List Slot} {found : List ℕ}
    {m t i : ℕ} → IsKept w es slots found m → Placed slots t i → t < length found
thread_within {found = found} {i = i} kept p =
    let lt = (kept.own.each i no_slot p.within).within in let is = p.thread in omega arith

-- so has one with a slot as the queue is seen
pub seen_within : {inside now : OneQueue} {m : ℕ} (t : ℕ) → inside ≡ now
    → IsKept inside.width inside.entries inside.slots inside.found m → has_slot now.slots t ≡ true
    → t < length inside.found
seen_within {inside = inside} t is kept has =
    thread_within kept (has_placed inside.slots t (ap (λ (k : OneQueue). has_slot k.slots t) is ∙ has))

-- what a read gives of how many it has found
pub found_read : {inside now : OneQueue} {m : ℕ} (t x : ℕ) → inside ≡ now
    → IsKept inside.width inside.entries inside.slots inside.found m → has_slot now.slots t ≡ true
    → x ≡ get_or inside.found t x → x ≡ slice_index now.found t
found_read {inside = inside} t x is kept has read =
    get_or_read inside.found t x (seen_within t is kept has) read 0
    ∙ ap (λ (k : OneQueue). slice_index k.found t) is

-- the thread enters
pub kept_entered : {w : ℕ} {es : List Entry} {slots : List Slot} {found : List ℕ}
    {m t i : ℕ} (s : Slot)
    → IsKept w es slots found m → Placed slots t i → t ≡ s.thread.0
    → IfSome s.opened (λ m. m.thread ≡ s.thread.0) → IsKept w es (set slots i s) found m
kept_entered {slots = slots} {found = found} {t = t} {i = i} s kept p own marked =
    let lt = thread_within kept p in
    let slot : IsSlot (length found) s = record { within = omega arith; own = marked } in
    let same : length (set slots i s) ≡ length slots = length-set slots i s in
    let spare = kept.spare in
    record {
      within = kept.within;
      wide = kept.wide;
      marked = kept.marked;
      own = slots_set (length found) s p own slot kept.own;
      spare = omega arith;
    }

-- the thread has found so many
pub kept_found : {w : ℕ} {es : List Entry} {slots : List Slot} {found : List ℕ} {m : ℕ}
    (t n : ℕ) → IsKept w es slots found m → t < length found → n ≤ length es
    → IsKept w es slots (set found t n) m
kept_found {es = es} {slots = slots} {found = found} t n kept lt le =
    let same = length-set found t n in
    record {
      within = λ u. elim (cases_eq u t) [
        | inl e ↦ subst (λ v. slice_index (set found t n) v ≤ length es) (sym e)
            (subst (λ k. k ≤ length es) (sym (get_or-set_same found t n 0 lt)) le)
        | inr o ↦ subst (λ k. k ≤ length es) (sym (get_or-set_other found t u n 0 o)) (kept.within u)
      ];
      wide = kept.wide;
      marked = kept.marked;
      own = subst (λ k. AreSlots k slots) (sym same) kept.own;
      spare = kept.spare;
    }

-- an entry that joins the others
pub each_pushed : (P : Entry → Type 0) (es : List Entry) (x : Entry)
    → ((k : ℕ) → k < length es → P (entry_at es k)) → P x
    → (k : ℕ) → k < length (es ++ x ∷ []) → P (entry_at (es ++ x ∷ []) k)
each_pushed P es x old new k lt = go (cases_lt k (length es))
  where
    go : (k < length es) ⊎ (length es ≤ k) → P (entry_at (es ++ x ∷ []) k)
    go (inl below) = subst P (sym (get_or_append_left es (x ∷ []) no_entry k below)) (old k below)
    go (inr past) =
        let n = length_push es x in subst P (sym (get_or_push es x no_entry k (omega arith))) new

-- the thread leaves
pub kept_left : {w : ℕ} {es : List Entry} {slots : List Slot} {found : List ℕ}
    {m t i : ℕ} (x : Entry) (more : ℕ)
    → IsKept w es slots found m → Placed slots t i → x.place.width ≤ w
    → x.acquire.thread < x.place.width → m ≤ more
    → IsKept w (es ++ x ∷ []) (remove slots i) found more
kept_left {w = w} {es = es} {slots = slots} {found = found} {t = t} {i = i} x more kept p wide
    own le =
    let fewer : length (remove slots i) + 1 ≡ length slots = length-remove slots i p.within in
    let longer : length (es ++ x ∷ []) ≡ length es + 1 = length_push es x in
    let spare = kept.spare in
    record {
      within = λ v. (let h = kept.within v in omega arith);
      wide = each_pushed (λ (e : Entry). e.place.width ≤ w) es x kept.wide wide;
      marked = each_pushed (λ (e : Entry). e.acquire.thread < e.place.width) es x kept.marked own;
      own = slots_remove (length found) slots i p.within kept.own;
      spare = omega arith;
    }

-- there is more memory
pub kept_grown : {w : ℕ} {es same : List Entry} {slots : List Slot} {found : List ℕ}
    {m : ℕ} (more : List ℕ) (larger : ℕ) → IsKept w es slots found m → same ≡ es
    → slice_index more ≡ slice_index found → length found ≤ length more → m ≤ larger
    → IsKept w same slots more larger
kept_grown {w = w} {es = es} {slots = slots} {found = found} more larger kept is alike longer le =
    let spare = kept.spare in
    subst (λ (xs : List Entry). IsKept w xs slots more larger) (sym is) (record {
      within = λ t. (
          let e : slice_index more t ≡ slice_index found t = ap (λ (f : ℕ → ℕ). f t) alike in
          let h = kept.within t in
          omega arith
          );
      wide = kept.wide;
      marked = kept.marked;
      own = slots_more (length found) (length more) slots longer kept.own;
      spare = omega arith;
    })

-- a slot joins
pub kept_pushed : {w : ℕ} {es : List Entry} {slots : List Slot} {found : List ℕ} {m : ℕ}
    (s : Slot) → IsKept w es slots found m → has_slot slots s.thread.0 ≡ false → IsSlot (length found) s
    → length es + (length slots + 1) ≤ m → IsKept w es (slots ++ s ∷ []) found m
kept_pushed {slots = slots} {found = found} s kept none is spare =
    let more : length (slots ++ s ∷ []) ≡ length slots + 1 = length_push slots s in
    record {
      within = kept.within;
      wide = kept.wide;
      marked = kept.marked;
      own = slots_push (length found) slots s none is kept.own;
      spare = omega arith;
    }
