-- What entries hold stays right as names are added and put in.
use Rattle.std.proofs.Common.{◌≡◌, ℕ, ◌<◌, ◌≤◌, ◌++◌, [], ◌∷◌, ◌⊎◌, List, Some, length}
use Rattle.std.proofs.Common.{set, length-set, sym, ◌∙◌, ap, arith}
use Rattle.std.specs.Prelude.{slice_get}
use Rattle.std.proofs.lemmas.Bool.{cases_eq}
use Rattle.std.proofs.lemmas.Grind.{get_or-set_at}
use Rattle.std.proofs.lemmas.List.{get_or-set_other, length_push}
use Rattle.std.proofs.lemmas.Option.{slice_get-get_or, slice_get_within, get_or_from_slice_get}
use mathlib.Core.Logic.{inl, inr}
use Rattle.rapid_text.specs.declared.number_cache.Entry.{Entry}
use Rattle.rapid_text.specs.NumberCache.{HoldsNone, IsOneOf, IsEntryOf, IsFound, IsRight, AreRight}
use Rattle.rapid_text.specs.Numbers.{number_of}
use Rattle.rapid_text.proofs.NameWords.{same_name}
use Rattle.rapid_text.proofs.NumberedProperties.{numbers}
use Rattle.rapid_text.proofs.SpaceLaws.{names_in}
use Rattle.event_core.proofs.Places.{get_before}

-- an entry of the name with its number is right
of_name : (names : List (List ℕ)) (number : ℕ) (name : List ℕ) (entry : Entry)
    → slice_get names number ≡ Some name → IsEntryOf number name entry → IsRight names entry
of_name names number name entry at made some =
    (name, ap (λ n. slice_get names n) made.number_is ∙ at, made.held)

pub right_put : (names : List (List ℕ)) (old new : List Entry) (number : ℕ) (name : List ℕ)
    → slice_get names number ≡ Some name → AreRight names old
    → ((entry : Entry) → IsOneOf new entry → IsOneOf old entry ⊎ IsEntryOf number name entry)
    → AreRight names new
right_put names old new number name at right made entry one =
    elim (made entry one) [ inl was ↦ right entry was | inr now ↦ of_name names number name entry at now ]

-- an entry in place of another
pub put_entry : (entries : List Entry) (at number : ℕ) (name : List ℕ) (put : Entry)
    → IsEntryOf number name put → (entry : Entry) → IsOneOf (set entries at put) entry
    → IsOneOf entries entry ⊎ IsEntryOf number name entry
put_entry entries at number name put of entry one =
    let within = slice_get_within (set entries at put) one.0 entry one.1 in
    let is = get_or_from_slice_get (set entries at put) one.0 entry entry one.1 in
    let long = length-set entries at put in
    let was = slice_get-get_or entries one.0 entry in
    elim (cases_eq one.0 at) [
      | inl same ↦ inr (grind (arith, get_or-set_at entries at one.0 put entry same, long, is))
      | inr other ↦ inl (
        one.0,
        grind (arith, get_or-set_other entries at one.0 put entry other, long, is, was),
      )
    ]

-- new places hold nothing
pub right_empty : (names : List (List ℕ)) (entries : List Entry)
    → ((entry : Entry) → IsOneOf entries entry → HoldsNone entry) → AreRight names entries
right_empty names entries none entry one some =
    let empty = none entry one in absurd (omega (arith, some, empty))

-- a further name leaves the others where they are
pub right_more : (names : List (List ℕ)) (name : List ℕ) (entries : List Entry) → AreRight names entries
    → AreRight (names ++ name ∷ []) entries
right_more names name entries right entry one some =
    let found = right entry one some in
    (found.0, get_before names (name ∷ []) entry.number found.0 found.1, found.2)

-- what entries hold stays right as a name is numbered and its entry is put in
pub right_numbered : (limit : ℕ) (names more : List (List ℕ)) (name : List ℕ) (i : ℕ) (old new : List Entry)
    → length names < limit → number_of (names_in limit names) name ≡ Some (i, names_in limit more)
    → AreRight names old
    → ((entry : Entry) → IsOneOf new entry → IsOneOf old entry ⊎ IsEntryOf i name entry)
    → (length more ≤ limit) × AreRight more new
right_numbered limit names more name i old new less is right made =
    let n = numbers (names_in limit names) name i (names_in limit more) is in
    elim n.names [
      | inl same ↦ (
        omega (arith, less, ap (λ (xs : List (List ℕ)). length xs) same),
        right_put more old new i name n.placed (rw same right) made,
      )
      | inr longer ↦ (
        omega (arith, less, ap (λ (xs : List (List ℕ)). length xs) longer, length_push names name),
        right_put more old new i name n.placed (rw longer (right_more names name old right)) made,
      )
    ]

-- an entry that holds the name tells where it stands
pub name_held : (names : List (List ℕ)) (entries : List Entry) (number : ℕ) (name : List ℕ)
    → AreRight names entries → IsFound entries number name → slice_get names number ≡ Some name
name_held names entries number name right found =
    let some : 0 < found.entry.length = omega (arith, found.held.length_is, found.held.some) in
    let stored = right found.entry found.one some in
    let same : stored.0 ≡ name =
    same_name found.entry.words stored.0 name (sym stored.2.length_is ∙ found.held.length_is) stored.2.some
    stored.2.short stored.2.words_tell found.held.words_tell in
    ap (λ n. slice_get names n) (sym found.number_is) ∙ stored.1 ∙ ap Some same
