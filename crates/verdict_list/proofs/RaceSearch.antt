-- What a binary search among the races tells of the event that it looks for.
use Rattle.std.proofs.Common.{◌≡◌, ℕ, ◌<◌, ◌≤◌, List, Some, get_or, slice_get, length, Ok, Err}
use Rattle.std.proofs.Common.{sym, ap, ◌∙◌, arith}
use Rattle.std.specs.List.Sorted.{IsSearchInRange, IsBinarySearchResult, IsNonDecreasingBy, IsPartitionPoint}
use Rattle.std.specs.Ordering.{nat_cmp, ordering_index}
use Rattle.std.specs.declared.cmp.Ordering.TheVariants.{Less, Greater}
use Rattle.std.specs.declared.cmp.Ordering.{Ordering}
use Rattle.std.proofs.lemmas.Cmp.{ranked}
use Rattle.std.proofs.lemmas.Option.{slice_get-get_or, slice_get_within, get_or_from_slice_get}
use Rattle.std.proofs.lemmas.Bool.{cases_lt}
use mathlib.Core.Logic.{inl, inr}
use Rattle.std.proofs.lemmas.Bool.Decides.{nat_tests}
use Rattle.event_core.specs.declared.replies.Verdict.TheVariants.{Clear, Racy}
use Rattle.verdict_list.specs.declared.verdicts.Race.{Race}
use Rattle.verdict_list.specs.Spread.{Rise, verdicts_of}
use Rattle.verdict_list.proofs.VerdictsOfProperties.{length_verdicts}
use Rattle.verdict_list.proofs.RiseProperties.{rise_between}
use Rattle.verdict_list.proofs.SpreadPlaces.{clear_at, racy_at}

-- how the event of a race compares with event i
abbrev pub compared : ℕ → Race → Ordering
compared i r = nat_cmp r.event i

-- the comparisons rise along the list, as a search asks
comparisons_rise : (n i : ℕ) (rs : List Race) → Rise 0 n rs
    → IsNonDecreasingBy (λ (r : Race). ordering_index (compared i r)) rs
comparisons_rise n i rs up a b d le lt =
    let rise : (get_or rs a d).event ≤ (get_or rs b d).event = rise_between 0 n a b rs d up le lt in
    grind (arith, nat_tests)

-- a search that finds a race of the event gives its verdict
pub found : (n i p : ℕ) (rs : List Race) (r : Race) → i < length (verdicts_of n rs) → Rise 0 n rs
    → IsSearchInRange (Ok p) (length rs) → IsBinarySearchResult (compared i) rs (Ok p)
    → r ≡ get_or rs p r → slice_get (verdicts_of n rs) i ≡ Some (Racy r.with)
found n i p rs r within up in_range equal is =
    let same : r.event ≡ i = ap (λ (s : Race). s.event) is ∙ ranked _ i _ (sym (equal r)) in
    let lt : i < n = omega (arith, length_verdicts n rs) in
    racy_at 0 n i n p rs r lt up (slice_get-get_or rs p r in_range ∙ ap Some (sym is)) (omega arith)

-- no race is of an event that is between two neighbours
none_of : (i p : ℕ) (rs : List Race)
    → IsPartitionPoint (λ r. compared i r ≡ Less) (λ r. compared i r ≡ Greater) rs p
    → (q : ℕ) (r : Race) → slice_get rs q ≡ Some r → r.event ≡ i → ⊥
none_of i p rs sides q r at e =
    let same = ap (λ (s : Race). s.event) (get_or_from_slice_get rs q r r at) in
    let place = slice_get_within rs q r at in
    elim (cases_lt q p) [
      | inl before ↦ omega (arith, same, e, ranked _ i _ (sym (sides.0 q r (omega arith) before)))
      | inr after ↦ omega (arith, same, e, ranked _ i _ (sym (sides.1 q r after place)))
    ]

-- an event of which a search finds no race is clear
pub absent : (n i p : ℕ) (rs : List Race) → i < length (verdicts_of n rs) → Rise 0 n rs
    → IsBinarySearchResult (compared i) rs (Err p)
    → slice_get (verdicts_of n rs) i ≡ Some Clear
absent n i p rs within up parted =
    clear_at 0 n i rs (omega (arith, length_verdicts n rs))
    (λ q r at e. none_of i p rs (parted (comparisons_rise n i rs up)) q r at (omega arith))
