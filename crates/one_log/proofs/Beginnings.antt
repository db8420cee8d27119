-- Beginnings of lists, and elements of lists of which each has a property.
use Rattle.std.proofs.Common.{◌≡◌, ℕ, zero, suc, ◌+◌, List, [], ◌∷◌, ◌++◌, length, refl, sym, ap, ◌∙◌, subst}
use Rattle.std.proofs.Common.{Some, slice_get, arith, length-append}
use Rattle.std.specs.List.{AllByRecursion}
use Rattle.std.proofs.lemmas.List.{append-nil}
use mathlib.Core.List.{IsPrefix}

-- two lists of such elements are one
pub all_append : {A : Type 0} (P : A → Type 0) (xs ys : List A) → AllByRecursion P xs → AllByRecursion P ys
    → AllByRecursion P (xs ++ ys)
all_append P [] ys a b = b
all_append P (x ∷ xs) ys a b = (a.0, all_append P xs ys a.1 b)

-- each element has what follows from what it has
pub all_map : {A : Type 0} (P Q : A → Type 0) (xs : List A) → ((x : A) → P x → Q x) → AllByRecursion P xs
    → AllByRecursion Q xs
all_map P Q [] f a = tt
all_map P Q (x ∷ xs) f a = (f x a.0, all_map P Q xs f a.1)

-- the same from two things that it has
pub all_both : {A : Type 0} (P Q R : A → Type 0) (xs : List A) → ((x : A) → P x → Q x → R x)
    → AllByRecursion P xs → AllByRecursion Q xs → AllByRecursion R xs
all_both P Q R [] f a b = tt
all_both P Q R (x ∷ xs) f a b = (f x a.0 b.0, all_both P Q R xs f a.1 b.1)

-- the element at an index has it
pub all_at : {A : Type 0} (P : A → Type 0) (xs : List A) (i : ℕ) (x : A) → AllByRecursion P xs
    → slice_get xs i ≡ Some x → P x
all_at P [] i x a at = absurd (cc)
all_at P (y ∷ ys) zero x a at =
    let same : y ≡ x = (let e : Some y ≡ Some x = at in cc) in subst P same a.0
all_at P (y ∷ ys) (suc i) x a at = all_at P ys i x a.1 at

no_more : {A : Type 0} (xs : List A) → length xs ≡ 0 → xs ≡ []
no_more [] e = refl
no_more (x ∷ xs) e = absurd (omega arith)

-- two lists of which each begins the other are one
pub one_list : {A : Type 0} (xs ys : List A) → IsPrefix xs ys → IsPrefix ys xs → xs ≡ ys
one_list xs ys p q =
    let a : length ys ≡ length xs + length p.0 = ap length (sym p.1) ∙ length-append xs p.0 in
    let b : length xs ≡ length ys + length q.0 = ap length (sym q.1) ∙ length-append ys q.0 in
    let none : p.0 ≡ [] = no_more p.0 (omega (arith, a, b)) in
    sym (append-nil xs) ∙ ap (λ zs. xs ++ zs) (sym none) ∙ p.1
