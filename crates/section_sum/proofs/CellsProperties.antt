-- Where cells stand, and a cell that joins the others.
use Rattle.std.proofs.Common.{◌≡◌, ℕ, ◌+◌, ◌<◌, ◌≤◌, zero, suc, true, false, not, ◌&&◌, inl, inr, cond, List}
use Rattle.std.proofs.Common.{[], ◌∷◌, ◌++◌, length, nat_eq, get_or, ◌⊎◌, refl, sym, ap, subst, ◌∙◌, arith}
use Rattle.std.specs.List.{list_any}
use Rattle.std.proofs.lemmas.Bool.{cases_eq, cases_lt, eqb-true, eq-eqb, ne_eqb, and_parts, not-true}
use Rattle.std.proofs.lemmas.List.{get_or_append_left, get_or_past}
use Rattle.std.proofs.Math.Seq.{get_or-append_seam}
use Rattle.std.proofs.lemmas.List.Sums.{passes_at_first, prefix_len-le-length, prefix_len_passes}
use Rattle.std.proofs.lemmas.List.Folds.{position_or_len_push, list_any_none}
use Rattle.section_sum.specs.declared.cell.Cell.{Cell}
use Rattle.section_sum.specs.declared.cells.Place.{Place}
use Rattle.section_sum.specs.Cell.{no_cell, cell_at}
use Rattle.section_sum.specs.Cells.{Stored, is_place, cell_place, place, lock_at, with_place}

here : (places : List Place) (l v : ℕ) → cell_place places l v < length places
    → is_place l v (get_or places (cell_place places l v) (place 0 0)) ≡ true
here places l v h = passes_at_first (is_place l v) places (place 0 0) h

-- a lock's variable stands at a place of the lock
pub own_place : (places : List Place) (l v : ℕ) → cell_place places l v < length places
    → lock_at places (cell_place places l v) ≡ l
own_place places l v h = sym (eqb-true l _ (and_parts _ _ (here places l v h)).0)

-- variables at one place are the same
pub same_place : (places : List Place) (l var v : ℕ) → cell_place places l var < length places
    → nat_eq (cell_place places l v) (cell_place places l var) ≡ nat_eq v var
same_place places l var v h = elim (cases_eq v var) [
  | inl e ↦ eq-eqb _ _ (ap (cell_place places l) e) ∙ sym (eq-eqb v var e)
  | inr n ↦
      ne_eqb _ _ (λ q. n (
      let at = cell_place places l v in
      let one : v ≡ (get_or places at (place 0 0)).var.0
      = eqb-true _ _ (and_parts _ _ (here places l v (subst (λ (b : ℕ). b < length places) (sym q) h))).1 in
      let two : var ≡ (get_or places (cell_place places l var) (place 0 0)).var.0
      = eqb-true _ _ (and_parts _ _ (here places l var h)).1 in
      one ∙ ap (λ b. (get_or places b (place 0 0)).var.0) q ∙ sym two))
      ∙ sym (ne_eqb v var n)
]

-- a lock and variable with no cell have the place after all cells
pub place_high : (places : List Place) (l v : ℕ) → length places ≤ cell_place places l v
    → cell_place places l v ≡ length places
place_high places l v h =
    let low : cell_place places l v ≤ length places = prefix_len-le-length _ places in omega (arith, h, low)

-- a cell keeps its place when another joins
pub place_left : (places : List Place) (p : Place) (l v : ℕ) → cell_place places l v < length places
    → cell_place (places ++ p ∷ []) l v ≡ cell_place places l v
place_left places p l v h =
    position_or_len_push (is_place l v) places p
    ∙ ap (λ b. cond b (length places + cond (is_place l v p) 0 1) (cell_place places l v))
    (ne_eqb _ _ (λ e. omega (arith, e, h)))

-- the cell that joins has the place after the others, if it is of the lock and variable
pub place_end : (places : List Place) (p : Place) (l v : ℕ) → cell_place places l v ≡ length places
    → cell_place (places ++ p ∷ []) l v ≡ length places + cond {A = ℕ} (is_place l v p) 0 1
place_end places p l v e =
    position_or_len_push (is_place l v) places p
    ∙ ap (λ b. cond b (length places + cond (is_place l v p) 0 1) (cell_place places l v)) (eq-eqb _ _ e)

-- what joins stands at the end
pub place_new : (places : List Place) (l v : ℕ) → cell_place places l v ≡ length places
    → cell_place (places ++ place l v ∷ []) l v ≡ length places
place_new places l v e =
    let p = place_end places (place l v) l v e
    ∙ ap (λ b. length places + cond {A = ℕ} b 0 1) (ap (λ b. b && nat_eq v v) (eq-eqb l l refl)
    ∙ eq-eqb v v refl) in
    omega (arith, p)

-- the cell without accesses is also what is said past the end
pub more_cells : (cells : List Cell) (i : ℕ) → cell_at (cells ++ no_cell ∷ []) i ≡ cell_at cells i
more_cells [] zero = refl
more_cells [] (suc i) = refl
more_cells (c ∷ cs) zero = refl
more_cells (c ∷ cs) (suc i) = more_cells cs i

-- of each variable the same is said
pub joined : (s : Stored) (l v : ℕ) → length s.cells ≡ length s.places → (m x : ℕ)
    → cell_at (with_place s l v).cells (cell_place (with_place s l v).places m x)
    ≡ cell_at s.cells (cell_place s.places m x)
joined s l v same m x = more_cells s.cells (cell_place (with_place s l v).places m x)
    ∙ at (cases_lt (cell_place s.places m x) (length s.places))
  where
    at : (cell_place s.places m x < length s.places) ⊎ (length s.places ≤ cell_place s.places m x)
        → cell_at s.cells (cell_place (with_place s l v).places m x) ≡ cell_at s.cells
        (cell_place s.places m x)
    at (inl h) = ap (cell_at s.cells) (place_left s.places (place l v) m x h)
    at (inr g) =
        let end = place_high s.places m x g in
        let high : length s.places ≤ cell_place (with_place s l v).places m x
        = let p = place_end s.places (place l v) m x end in omega (arith, p) in
        get_or_past s.cells _ no_cell (omega (arith, same, high))
        ∙ sym (get_or_past s.cells _ no_cell (omega (arith, same, end)))

-- the locks of the places before it stay
pub lock_left : (places : List Place) (p : Place) (i : ℕ) → i < length places
    → lock_at (places ++ p ∷ []) i ≡ lock_at places i
lock_left places p i h = ap (λ (q : Place). q.lock.0) (get_or_append_left places (p ∷ []) (place 0 0) i h)

-- the cell that joins is of its lock
pub lock_new : (places : List Place) (l v : ℕ) → lock_at (places ++ place l v ∷ []) (length places) ≡ l
lock_new places l v =
    ap (λ (q : Place). q.lock.0) (get_or-append_seam places (place l v) [] (place 0 0))

-- what has no place is none of them
pub absent : (places : List Place) (l v : ℕ) → cell_place places l v ≡ length places
    → list_any (is_place l v) places ≡ false
absent places l v e =
    list_any_none (is_place l v) places
    (λ k d lt. not-true _ (prefix_len_passes (λ p. not (is_place l v p)) places k d (omega (arith, lt, e))))
