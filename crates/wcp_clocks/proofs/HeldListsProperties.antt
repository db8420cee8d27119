-- Lists of held locks that are written.
use Rattle.std.proofs.Common.{◌≡◌, ℕ, ◌+◌, ◌<◌, ◌≤◌, List, [], ◌∷◌, ◌++◌, length, set, refl, sym, ap}
use Rattle.std.proofs.Common.{subst, cond}
use Rattle.std.proofs.Common.{nat_eq, not, inl, inr, ◌⊎◌, ◌∙◌, arith, Bool, true, false, length-set}
use Rattle.std.proofs.lemmas.Bool.{cases_lt, cases_Bool}
use Rattle.std.proofs.lemmas.List.{get_or_past, map-append}
use Rattle.event_core.specs.declared.ids.LockId.{LockId}
use Rattle.event_core.specs.Rows.{with_row}
use Rattle.hb_clocks.proofs.RowsProperties.{set_read}
use Rattle.wcp_laws.specs.Step.{without}
use Rattle.wcp_clocks.specs.HeldLists.{HeldList, nothing_held, numbers_of, without_lock, held_of, room_at}
use Rattle.wcp_clocks.specs.HeldLists.{places_at, SamePlaces}
use Rattle.hb_clocks.proofs.WithRowProperties.{row_kept}

-- where there is room there is a list
pub room_within : (lists : List HeldList) (t : ℕ) → 0 < room_at lists t → t < length lists
room_within lists t room = go (cases_lt t (length lists))
  where
    go : (t < length lists) ⊎ (length lists ≤ t) → t < length lists
    go (inl l) = l
    go (inr r) = absurd (let none : room_at lists t ≡ 0 =
        ap (λ (h : HeldList). h.room) (get_or_past lists t nothing_held r) in omega arith)

-- the lists with one list written
pub held_set : (lists : List HeldList) (at : ℕ) (h : HeldList) → at < length lists
    → held_of (set lists at h) ≡ with_row at (numbers_of h.locks) (held_of lists)
held_set lists at h lt i t = set_read (λ (g : HeldList). numbers_of g.locks) nothing_held lists at h t lt i

-- a list with as many places
pub places_set : (lists : List HeldList) (at : ℕ) (h : HeldList) → at < length lists
    → length h.locks + h.room ≡ places_at lists at → SamePlaces lists (set lists at h)
places_set lists at h lt same = record {
  lists = length-set lists at h;
  places = λ t. set_read (λ (g : HeldList). length g.locks + g.room) nothing_held lists at h t lt
      ∙ ap (λ (n : ℕ). with_row at n (places_at lists) t) same
      ∙ ap (λ (f : ℕ → ℕ). f t) (row_kept at _ (places_at lists) refl);
}

-- a lock that is added has its number at the end
pub numbers_added : (locks : List LockId) (l : LockId) → numbers_of (locks ++ l ∷ [])
    ≡ numbers_of locks ++ l.0 ∷ []
numbers_added locks l = map-append (λ (m : LockId). m.0) locks (l ∷ [])

-- a lock that is taken out has its number taken out
pub numbers_without : (l : LockId) (locks : List LockId)
    → numbers_of (without_lock l locks) ≡ without l.0 (numbers_of locks)
numbers_without l [] = refl
numbers_without l (m ∷ ms) = go (numbers_without l ms) (cases_Bool (nat_eq m.0 l.0))
  where
    Goal : Bool → Type 0
    Goal b = numbers_of (cond (not b) (m ∷ without_lock l ms) (without_lock l ms))
        ≡ cond b (without l.0 (numbers_of ms)) (m.0 ∷ without l.0 (numbers_of ms))

    go : numbers_of (without_lock l ms) ≡ without l.0 (numbers_of ms)
        → (nat_eq m.0 l.0 ≡ true) ⊎ (nat_eq m.0 l.0 ≡ false) → Goal (nat_eq m.0 l.0)
    go rest (inl e) = subst Goal (sym e) rest
    go rest (inr e) = subst Goal (sym e) (ap (λ ns. m.0 ∷ ns) rest)
