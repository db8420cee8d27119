-- A set of names as the names with their numbers.
use Rattle.std.proofs.Common.{◌≡◌, ℕ, ◌<◌, ◌≤◌, ◌++◌, [], ◌∷◌, List, Some, length, get_or, true, false, cond}
use Rattle.std.proofs.Common.{sym, ◌∙◌, arith, refl, inl, inr}
use Rattle.std.specs.Prelude.{not, slice_get}
use Rattle.std.specs.List.{IsDistinct, position, position_or_len, list_any}
use Rattle.std.proofs.lemmas.Option.{slice_get_within, get_or_from_slice_get}
use Rattle.std.proofs.lemmas.Slice.Eq.{bytes_eq-Decides}
use Rattle.std.specs.Str.{bytes_eq}
use Rattle.std.proofs.lemmas.Bool.{lt-ltb, le-ltb, cases_lt, false_from_ne_true, both_ways}
use Rattle.std.proofs.lemmas.List.Folds.{list_any_at, list_any_none}
use Rattle.std.proofs.lemmas.List.Sums.{fails_before_first, passes_at_first, position_or_len_is}
use Rattle.std.proofs.lemmas.List.Sums.{prefix_len-le-length}
use Rattle.std.proofs.lemmas.Map.Keys.{apart_from_distinct}
use Rattle.rapid_text.specs.Numbers.{Numbered, number_of}

abbrev pub names_in : ℕ → List (List ℕ) → Numbered
names_in limit names = record { limit = limit; names = names }

-- a name that was put into the set has the number that numbering it gives
pub inserted : (limit : ℕ) (names new : List (List ℕ)) (stored name : List ℕ) (i : ℕ) → stored ≡ name
    → length names < limit → i ≡ position_or_len (bytes_eq stored) names
    → new ≡ cond (list_any (bytes_eq stored) names) names (names ++ stored ∷ [])
    → number_of (names_in limit names) name ≡ Some (i, names_in limit new)
unfolding number_of
inserted limit names new stored name i same less place is =
    let p = bytes_eq name in
    let k = position_or_len p names in
    elim (cases_lt k (length names)) [
      | inl within ↦
          let known : list_any p names ≡ true =
          list_any_at p names k name within (passes_at_first p names name within) in
          rw (is, place, same, lt-ltb k (length names) within, known) refl
      | inr end ↦
          let most : k ≤ length names = prefix_len-le-length (λ x. not (p x)) names in
          let last : k ≡ length names = omega (arith, end, most) in
          let new_here : list_any p names ≡ false =
          list_any_none p names (λ j d lt. fails_before_first p names j d (omega (arith, lt, end))) in
          rw (is, place, same, le-ltb k (length names) end, new_here, lt-ltb (length names) limit less, last)
          refl
    ]

-- the place of a name among distinct names is where it stands
pub place_of_name : (name : List ℕ) (xs : List (List ℕ)) (i : ℕ) → IsDistinct bytes_eq xs
    → slice_get xs i ≡ Some name → position (bytes_eq name) xs ≡ Some i
place_of_name name xs i d at =
    let within : i < length xs = slice_get_within xs i name at in
    let is : get_or xs i name ≡ name = get_or_from_slice_get xs i name name at in
    let first : position_or_len (bytes_eq name) xs ≡ i =
    position_or_len_is (bytes_eq name) xs i name (omega (arith, within)) (λ k lt.
    false_from_ne_true (bytes_eq name (get_or xs k name)) (λ met.
    both_ways (bytes_eq (get_or xs k name) (get_or xs i name))
    (apart_from_distinct bytes_eq xs k i name d lt within)
    ((bytes_eq-Decides (get_or xs k name) (get_or xs i name)).1
    (sym ((bytes_eq-Decides name (get_or xs k name)).0 met) ∙ sym is))))
    (λ _. (bytes_eq-Decides name (get_or xs i name)).1 (sym is)) in
    rw (first, lt-ltb i (length xs) within) refl
