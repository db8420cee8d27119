-- Members of lists.
use Rattle.std.proofs.Common.{◌≡◌, List, [], ◌∷◌, ◌++◌, Bool, true, refl, ◌⊎◌}
use Rattle.std.specs.List.{list_any}
use Rattle.std.proofs.lemmas.Bool.{or_cases}
use mathlib.Core.Logic.{inl, inr}
use Rattle.event_core.specs.Closed.{Has, first, later}

-- the empty list has no member
pub none_in : {A : Type 0} {a : A} → Has a [] → ⊥
none_in h = elim h [ ]

-- a member of a list is one of each longer list
pub has_front : {A : Type 0} (a : A) (xs ys : List A) → Has a xs → Has a (xs ++ ys)
has_front a _ ys (first b bs is) = first b (bs ++ ys) is
has_front a _ ys (later b bs h) = later b (bs ++ ys) (has_front a bs ys h)

-- a member of the second of two lists is one of both together
pub has_back : {A : Type 0} {a : A} (xs ys : List A) → Has a ys → Has a (xs ++ ys)
has_back [] ys h = h
has_back (x ∷ xs) ys h = later x (xs ++ ys) (has_back xs ys h)

-- a member of two lists together is one of the first or of the second
pub has_either : {A : Type 0} {a : A} (xs ys : List A) → Has a (xs ++ ys) → Has a xs ⊎ Has a ys
has_either [] ys h = inr h
has_either (x ∷ xs) ys (first _ _ is) = inl (first x xs is)
has_either (x ∷ xs) ys (later _ _ h) =
    elim (has_either xs ys h) [ inl l ↦ inl (later x xs l) | inr r ↦ inr r ]

-- the last element is a member
pub has_last : {A : Type 0} (xs : List A) (a : A) → Has a (xs ++ a ∷ [])
has_last [] a = first a [] refl
has_last (x ∷ xs) a = later x (xs ++ a ∷ []) (has_last xs a)

-- a member of a list with one more element is one of the list or that element
pub has_split : {A : Type 0} (a : A) (xs : List A) (y : A) → Has a (xs ++ y ∷ []) → Has a xs ⊎ (a ≡ y)
has_split a [] y (first _ _ is) = inr is
has_split a [] y (later _ _ h) = absurd (none_in h)
has_split a (x ∷ xs) y (first _ _ is) = inl (first x xs is)
has_split a (x ∷ xs) y (later _ _ h) =
    elim (has_split a xs y h) [ inl l ↦ inl (later x xs l) | inr is ↦ inr is ]

-- a test of a list's members
pub any_has : {A : Type 0} (p : A → Bool) (xs : List A) → list_any p xs ≡ true
    → (a : A) × Has a xs × (p a ≡ true)
any_has p [] is = absurd cc
any_has p (x ∷ xs) is =
    let ih = any_has p xs in
    elim (or_cases (p x) (list_any p xs) is) [
      | inl t ↦ (x, first x xs refl, t)
      | inr t ↦ let r = ih t in (r.0, later x xs r.1, r.2)
    ]
