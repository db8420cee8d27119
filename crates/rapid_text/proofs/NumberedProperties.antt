-- What numbering a name does to the names.
use Rattle.std.proofs.Common.{◌≡◌, ℕ, List, [], ◌∷◌, ◌++◌, length, Option, Some, None, Result, Ok, Err, refl}
use Rattle.std.proofs.Common.{sym, ap, subst, ◌∙◌, append-nil, arith, inl, inr, get_or}
use Rattle.std.specs.Prelude.{slice_get, nat_lt, IfOk, OnErr, ◌⊎◌}
use Rattle.std.specs.List.{position}
use Rattle.std.specs.Str.{bytes_eq}
use Rattle.std.proofs.lemmas.List.Quantifiers.{position-Some}
use Rattle.std.proofs.lemmas.Option.{slice_get-get_or, slice_get_within, cond_some, same_Some}
use Rattle.std.proofs.lemmas.Option.{some_pair_parts}
use Rattle.std.proofs.lemmas.Slice.Eq.{bytes_eq-Decides}
use Rattle.event_core.proofs.Places.{get_last, each_push}
use Rattle.rapid_text.specs.declared.causes.Kind.{Kind}
use Rattle.rapid_text.specs.declared.causes.Kind.TheVariants as kinds
use Rattle.rapid_text.specs.Numbers.{Numbered, with_name, found_or, found_number, number_of, Grows}
use Rattle.rapid_text.specs.Tables.{Tables, space, with_space, put_back, IsNameOf, AreNamesOf, AreNamed}

-- the name stands at the place where it was found
pub found_name : (names : List (List ℕ)) (name : List ℕ) (i : ℕ)
    → position (bytes_eq name) names ≡ Some i → slice_get names i ≡ Some name
found_name [] name i is = absurd cc
found_name (n ∷ names) name i is =
    let found = position-Some (bytes_eq name) (n ∷ names) i n is in
    let same : name ≡ get_or (n ∷ names) i n = (bytes_eq-Decides name _).0 found.1 in
    slice_get-get_or (n ∷ names) i n found.0 ∙ ap Some (sym same)

-- ---- in one space

-- the name was known and nothing changed, or it is new and was put at the end
abbrev pub WasNumbered : Numbered → List ℕ → ℕ → Numbered → Type 0
WasNumbered s name n u = ((found_number s name ≡ Some n) × (u ≡ s))
    ⊎ ((found_number s name ≡ None) × (n ≡ length s.names) × (u ≡ with_name s name))

was_by : (o : Option ℕ) (s : Numbered) (name : List ℕ) (n : ℕ) (u : Numbered) → found_number s name ≡ o
    → found_or o s name ≡ Some (n, u) → WasNumbered s name n u
was_by (Some i) s name n u place e =
    let same = some_pair_parts i n s u e in
    inl (place ∙ ap Some same.0, sym same.1)
was_by None s name n u place e =
    let new = (cond_some {A = ℕ × Numbered} (nat_lt (length s.names) s.limit)
    (length s.names, with_name s name) (n, u) e).1 in
    inr (place, sym (ap (λ (q : ℕ × Numbered). q.0) new), sym (ap (λ (q : ℕ × Numbered). q.1) new))

pub was_numbered : (s : Numbered) (name : List ℕ) (n : ℕ) (u : Numbered) → number_of s name ≡ Some (n, u)
    → WasNumbered s name n u
unfolding number_of
was_numbered s name n u e = was_by (found_number s name) s name n u refl e

-- so the name stands at its number
pub record Numbers (s : Numbered) (name : List ℕ) (i : ℕ) (t : Numbered) : Type 0 where
  pub limit : t.limit ≡ s.limit
  pub names : (t.names ≡ s.names) ⊎ (t.names ≡ s.names ++ name ∷ [])
  pub placed : slice_get t.names i ≡ Some name

pub numbers : (s : Numbered) (name : List ℕ) (i : ℕ) (t : Numbered) → number_of s name ≡ Some (i, t)
    → Numbers s name i t
numbers s name i t e =
    elim (was_numbered s name i t e) [
      | inl was ↦ subst (λ (u : Numbered). Numbers s name i u) (sym was.1)
          (record { limit = refl; names = inl refl; placed = found_name s.names name i was.0 })
      | inr new ↦ subst (λ (u : Numbered). Numbers s name i u) (sym new.2) (record {
        limit = refl;
        names = inr refl;
        placed = ap (λ (k : ℕ). slice_get (s.names ++ name ∷ []) k) new.1 ∙ get_last s.names name;
      })
    ]

pub grows : {s : Numbered} {name : List ℕ} {i : ℕ} {t : Numbered} → Numbers s name i t → Grows s t
grows {s} {name} n =
    elim n.names [
      | inl same ↦ record { more = []; names = same ∙ sym (append-nil s.names); limit = n.limit }
      | inr new ↦ record { more = name ∷ []; names = new; limit = n.limit }
    ]

-- the first name gets the number 0
pub first_number : {s : Numbered} {name : List ℕ} {i : ℕ} {t : Numbered} → Numbers s name i t → s.names ≡ []
    → i ≡ 0
first_number {s} {name} {i} {t} n none =
    let within = slice_get_within t.names i name n.placed in
    elim n.names [
      | inl same ↦ omega (arith, within, ap (λ (xs : List (List ℕ)). length xs) (same ∙ none))
      | inr new ↦ omega (
        arith,
        within,
        ap (λ (xs : List (List ℕ)). length xs)
            (new ∙ ap (λ (xs : List (List ℕ)). xs ++ name ∷ []) none),
      )
    ]

-- ---- in the four spaces

-- what holds of the names of each kind, and of others of one kind
pub with_each : (P : Kind → Numbered → Type 0) (t : Tables) (kind : Kind) (s : Numbered)
    → ((k : Kind) → P k (space t k)) → P kind s → (k : Kind) → P k (space (with_space t kind s) k)
with_each P t kinds.Thread s h here kinds.Thread = here
with_each P t kinds.Thread s h here k = h k
with_each P t kinds.Lock s h here kinds.Lock = here
with_each P t kinds.Lock s h here k = h k
with_each P t kinds.Variable s h here kinds.Variable = here
with_each P t kinds.Variable s h here k = h k
with_each P t kinds.Site s h here kinds.Site = here
with_each P t kinds.Site s h here k = h k

pub with_space_of : (t : Tables) (kind : Kind) (s : Numbered) → space (with_space t kind s) kind ≡ s
with_space_of t kinds.Thread s = refl
with_space_of t _ s = refl

pub with_same : (t : Tables) (kind : Kind) → with_space t kind (space t kind) ≡ t
with_same t kinds.Thread = refl
with_same t _ = refl

-- the names of the kind that were put back
pub put_some : (t : Tables) (kind : Kind) (o : Option (ℕ × Numbered)) (p : ℕ × Tables)
    → put_back t kind o ≡ Some p → (s : Numbered) × (o ≡ Some (p.0, s)) × (p.1 ≡ with_space t kind s)
put_some t kind None p e = absurd cc
put_some t kind (Some q) p e =
    let same = same_Some {A = ℕ × Tables} (q.0, with_space t kind q.1) p e in (
      q.1,
      ap (λ (x : ℕ × Tables). let o : Option (ℕ × Numbered) = Some (x.0, q.1) in o) same,
      sym (ap (λ (x : ℕ × Tables). x.1) same),
    )

named_by : {E : Type 0} (kind : Kind) (name : List ℕ) (r : Result ℕ E) (s u : Numbered)
    → IfOk r (λ i. number_of s name ≡ Some (i, u)) → OnErr r (u ≡ s) → IsNameOf kind name
    → AreNamesOf kind s.names → AreNamesOf kind u.names
named_by kind name (Ok i) s u ok err is h =
    elim (numbers s name i u ok).names [
      | inl same ↦ subst (λ (xs : List (List ℕ)). AreNamesOf kind xs) (sym same) h
      | inr new ↦ subst (λ (xs : List (List ℕ)). AreNamesOf kind xs) (sym new)
          (each_push (IsNameOf kind) s.names name h is)
    ]
named_by kind name (Err f) s u ok err is h = subst (λ (v : Numbered). AreNamesOf kind v.names) (sym err) h

-- a name of the kind was numbered, if there was room
pub named_after : {E : Type 0} {k kind : Kind} (t : Tables) → k ≡ kind → (name : List ℕ) (r : Result ℕ E)
    (u : Numbered) → AreNamed t → IfOk r (λ i. number_of (space t kind) name ≡ Some (i, u))
    → OnErr r (u ≡ space t kind) → IsNameOf k name → AreNamed (with_space t kind u)
named_after {kind = kind} t at name r u h ok err is =
    with_each (λ k s. AreNamesOf k s.names) t kind u h (named_by kind name r (space t kind) u ok err
    (subst (λ (k : Kind). IsNameOf k name) at is) (h kind))
