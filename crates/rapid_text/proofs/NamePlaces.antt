-- Where a name stands among the names of its kind, and what numbering one does to the spaces.
use Rattle.std.proofs.Common.{◌≡◌, ◌≢◌, ℕ, ◌+◌, ◌<◌, ◌≤◌, List, length, Option, Some, None, Bool, true, false}
use Rattle.std.proofs.Common.{cond, refl, sym, ap, ap₂, subst, ◌∙◌, arith, inl, inr, Result, Ok, Err}
use Rattle.std.specs.Prelude.{IsSome, nat_lt, not, IfOk, OnErr, ◌↔◌}
use Rattle.std.specs.Result.{IsErrOf}
use Rattle.std.specs.List.{position_or_len}
use Rattle.std.specs.Str.{bytes_eq}
use Rattle.std.proofs.Math.Dec.{eqb}
use Rattle.std.proofs.lemmas.Bool.{lt-ltb, le-ltb, false_from_ne_true}
use Rattle.std.proofs.lemmas.Bool.Decides.{nat_tests}
use Rattle.std.proofs.lemmas.List.{length_push}
use Rattle.std.proofs.lemmas.List.Folds.{position_or_len_push}
use Rattle.std.proofs.lemmas.List.Sums.{prefix_len-le-length}
use Rattle.std.proofs.lemmas.Slice.Eq.{bytes_eq-Decides}
use Rattle.rapid_text.specs.declared.causes.Kind.{Kind}
use Rattle.rapid_text.specs.declared.causes.Kind.TheVariants as kinds
use Rattle.rapid_text.specs.declared.causes.NameFault.{NameFault}
use Rattle.rapid_text.specs.declared.causes.NameFault.TheVariants.{TooMany, OutOfMemory}
use Rattle.rapid_text.specs.Numbers.{Numbered, with_name, found_or, found_number, number_of}
use Rattle.rapid_text.specs.Tables.{Tables, space, put_back, number_in}
use Rattle.rapid_text.proofs.NumberedProperties.{WasNumbered, was_numbered, with_each, with_space_of}
use Rattle.rapid_text.proofs.NumberedProperties.{with_same, put_some}

-- ---- a name that was put at the end

abbrev place_at : ℕ → ℕ → Option ℕ
place_at k n = cond (nat_lt k n) (Some k) None

-- where it was found, or at the last place if it is there
abbrev or_last : Option ℕ → Bool → ℕ → Option ℕ
or_last (Some i) same n = Some i
or_last None true n = Some n
or_last None false n = None

push_at : (k n : ℕ) (same : Bool) → k ≤ n
    → place_at (cond (eqb k n) (n + cond {A = ℕ} same 0 1) k) (n + 1) ≡ or_last (place_at k n) same n
push_at k n true most = grind (arith, nat_tests)
push_at k n false most = grind (arith, nat_tests)

place_pushed : (s : Numbered) (a b : List ℕ)
    → found_number (with_name s a) b ≡ or_last (found_number s b) (bytes_eq b a) (length s.names)
place_pushed s a b =
    let p = bytes_eq b in
    let k = position_or_len p s.names in
    let most : k ≤ length s.names = prefix_len-le-length (λ x. not (p x)) s.names in
    ap₂ place_at (position_or_len_push p s.names a) (length_push s.names a)
    ∙ push_at k (length s.names) (p a) most

pub same_place : (s : Numbered) (a : List ℕ) → found_number s a ≡ None
    → found_number (with_name s a) a ≡ Some (length s.names)
same_place s a new = place_pushed s a a ∙ (rw (new, (bytes_eq-Decides a a).1 refl) refl)

or_last_other : (o : Option ℕ) (n : ℕ) → or_last o false n ≡ o
or_last_other None n = refl
or_last_other (Some i) n = refl

pub other_place : (s : Numbered) (a b : List ℕ) → b ≢ a → found_number (with_name s a) b ≡ found_number s b
other_place s a b apart =
    let differ : bytes_eq b a ≡ false =
    false_from_ne_true (bytes_eq b a) (λ met. apart ((bytes_eq-Decides b a).0 met)) in
    place_pushed s a b
    ∙ ap (λ (x : Bool). or_last (found_number s b) x (length s.names)) differ
    ∙ or_last_other (found_number s b) (length s.names)

-- ---- whether a name finds a number

-- a name that is known or finds a number left
pub fits : (t : Tables) (kind : Kind) (name : List ℕ)
    → (found_number (space t kind) name ≡ None
    → length (space t kind).names + 1 ≤ (space t kind).limit) → IsSome (number_in t kind name)
unfolding number_in number_of
fits t kind name left = by (found_number (space t kind) name) left
  where
    by : (o : Option ℕ) → (o ≡ None → length (space t kind).names + 1 ≤ (space t kind).limit)
        → IsSome (put_back t kind (found_or o (space t kind) name))
    by (Some i) left = refl
    by None left =
        let less : length (space t kind).names < (space t kind).limit = let most = left refl in omega arith in
        rw (lt-ltb (length (space t kind).names) (space t kind).limit less) refl

-- a new name that finds none
pub lacks : (t : Tables) (kind : Kind) (name : List ℕ) → found_number (space t kind) name ≡ None
    → (length (space t kind).names + 1 ≤ (space t kind).limit → ⊥) → number_in t kind name ≡ None
unfolding number_in number_of
lacks t kind name new full =
    let most : (space t kind).limit ≤ length (space t kind).names = omega (arith, full) in
    ap (λ (o : Option ℕ). put_back t kind (found_or o (space t kind) name)) new
    ∙ (rw (le-ltb (length (space t kind).names) (space t kind).limit most) refl)

-- a name that is known
pub known_place : (t : Tables) (kind : Kind) (name : List ℕ) (n : ℕ)
    → Some n ≡ found_number (space t kind) name → number_in t kind name ≡ Some (n, t)
unfolding number_in number_of
known_place t kind name n is =
    ap (λ (o : Option ℕ). put_back t kind (found_or o (space t kind) name)) (sym is)
    ∙ ap (λ (u : Tables). let o : Option (ℕ × Tables) = Some (n, u) in o) (with_same t kind)

-- there are too many exactly where the name has no number
pub too_many_exactly : (t u : Tables) (kind : Kind) (name : List ℕ) (r : Result ℕ NameFault)
    → IfOk r (λ n. number_in t kind name ≡ Some (n, u))
    → (IsErrOf r TooMany → (space t kind).limit ≤ length (space t kind).names)
    → (IsErrOf r OutOfMemory → length (space t kind).names < (space t kind).limit)
    → OnErr r (found_number (space t kind) name ≡ None)
    → IsErrOf r TooMany ↔ (number_in t kind name ≡ None)
too_many_exactly t u kind name (Ok n) ok full room new =
    (λ is. absurd cc, λ none. let clash = sym ok ∙ none in absurd cc)
too_many_exactly t u kind name (Err TooMany) ok full room new =
    (λ is. lacks t kind name new (λ left. let most = full is in omega arith), λ none. refl)
too_many_exactly t u kind name (Err OutOfMemory) ok full room new = (
  λ is. absurd cc,
  λ none. absurd (
      let some = fits t kind name (λ _. let left = room refl in omega (arith, left)) in
      let clash = subst (λ (o : Option (ℕ × Tables)). IsSome o) none some in cc),
)

-- what numbering a name does to the spaces
pub record Spaces (t : Tables) (kind : Kind) (name : List ℕ) (n : ℕ) (u : Tables) : Type 0 where
  pub own : WasNumbered (space t kind) name n (space u kind)
  pub others : (k : Kind) → k ≢ kind → space u k ≡ space t k

pub spaces : (t : Tables) (kind : Kind) (name : List ℕ) (n : ℕ) (u : Tables)
    → number_in t kind name ≡ Some (n, u) → Spaces t kind name n u
unfolding number_in
spaces t kind name n u e =
    let q = put_some t kind (number_of (space t kind) name) (n, u) e in
    subst (λ (v : Tables). Spaces t kind name n v) (sym q.2) (record {
      own = subst (λ (s : Numbered). WasNumbered (space t kind) name n s) (sym (with_space_of t kind q.0))
          (was_numbered (space t kind) name n q.0 q.1);
      others = with_each (λ k s. k ≢ kind → s ≡ space t k) t kind q.0 (λ k apart. refl)
          (λ bad. absurd (bad refl));
    })

-- ---- what stays

-- a name that was put at the end of its space leaves the others where they are
place_stays : (s : Numbered) (a b : List ℕ) (i : ℕ) → found_number s b ≡ Some i
    → found_number (with_name s a) b ≡ Some i
place_stays s a b i at =
    place_pushed s a b ∙ ap (λ (o : Option ℕ). or_last o (bytes_eq b a) (length s.names)) at

-- the name that was numbered has its number
pub has_place : (t u : Tables) (kind : Kind) (name : List ℕ) (n : ℕ) → number_in t kind name ≡ Some (n, u)
    → found_number (space u kind) name ≡ Some n
has_place t u kind name n is =
    elim (spaces t kind name n u is).own [
      | inl was ↦ ap (λ (s : Numbered). found_number s name) was.1 ∙ was.0
      | inr new ↦
          ap (λ (s : Numbered). found_number s name) new.2 ∙ same_place (space t kind) name new.0
          ∙ ap (λ (i : ℕ). let o : Option ℕ = Some i in o) (sym new.1)
    ]

pub numbered_again : (t u : Tables) (kind : Kind) (name : List ℕ) (n : ℕ)
    → number_in t kind name ≡ Some (n, u) → number_in u kind name ≡ Some (n, u)
numbered_again t u kind name n is = known_place u kind name n (sym (has_place t u kind name n is))

keeps_own : (s u : Numbered) (name other : List ℕ) (n i : ℕ) → WasNumbered s name n u
    → found_number s other ≡ Some i → found_number u other ≡ Some i
keeps_own s u name other n i was at =
    elim was [
      | inl same ↦ ap (λ (x : Numbered). found_number x other) same.1 ∙ at
      | inr new ↦ ap (λ (x : Numbered). found_number x other) new.2 ∙ place_stays s name other i at
    ]

-- and a thread's name keeps its own
pub keeps_thread : (t u : Tables) (kind : Kind) (name thread : List ℕ) (n i : ℕ)
    → number_in t kind name ≡ Some (n, u) → found_number (space t kinds.Thread) thread ≡ Some i
    → found_number (space u kinds.Thread) thread ≡ Some i
keeps_thread t u kinds.Thread name thread n i is at =
    keeps_own (space t kinds.Thread) (space u kinds.Thread) name thread n i
    (spaces t kinds.Thread name n u is).own at
keeps_thread t u kind name thread n i is at =
    ap (λ (s : Numbered). found_number s thread)
    ((spaces t kind name n u is).others kinds.Thread (λ bad. absurd cc)) ∙ at
