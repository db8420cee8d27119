-- What numbering the names of a list does.
use Rattle.std.proofs.Common.{◌≡◌, ℕ, suc, zero, ◌<◌, ◌≤◌, List, [], ◌∷◌, ◌++◌, length, Option, Some, None}
use Rattle.std.proofs.Common.{◌⊎◌, Bool, true, false, refl, sym, ap, subst, ◌∙◌, arith, inl, inr, take, map}
use Rattle.std.proofs.Common.{if◌then◌else◌}
use Rattle.std.specs.Prelude.{slice_get, nat_lt}
use Rattle.std.proofs.lemmas.Bool.{ltb-false}
use Rattle.std.proofs.lemmas.Option.{same_Some, slice_get_within}
use Rattle.event_core.proofs.Places.{get_before}
use Rattle.rapid_text.specs.declared.causes.Kind.{Kind}
use Rattle.rapid_text.specs.declared.causes.Kind.TheVariants as kinds
use Rattle.rapid_text.specs.Numbers.{Numbered, with_name, found_or, found_number, number_of}
use Rattle.rapid_text.specs.Tables.{Tables, space, with_space, put_back, number_in}
use Rattle.rapid_text.proofs.NumberedProperties.{found_name, with_space_of}
use Rattle.closed_report.specs.declared.name_lists.NamingFault.{NamingFault}
use Rattle.closed_report.specs.declared.name_lists.NamingFault.TheVariants.{NoName, Twice}
use Rattle.closed_report.specs.declared.name_lists.NamingFault.TheVariants.{TooMany, OutOfMemory}
use Rattle.closed_report.specs.NameLists.{numbered, IsFaultAt, IsFaultIn}

-- ---- one name

same_space : (t : Tables) (kind : Kind) → with_space t kind (space t kind) ≡ t
same_space t kinds.Thread = refl
same_space t kinds.Lock = refl
same_space t kinds.Variable = refl
same_space t kinds.Site = refl

-- the name was there, or it gets the next number, or there are as many as the limit
abbrev Numbers : Tables → Kind → List ℕ → Option (ℕ × Tables) → Type 0
Numbers t kind name answer =
    ((i : ℕ) × (slice_get (space t kind).names i ≡ Some name) × (answer ≡ Some (i, t)))
    ⊎ ((answer ≡ Some (length (space t kind).names, with_space t kind (with_name (space t kind) name)))
    ⊎ ((answer ≡ None) × ((space t kind).limit ≤ length (space t kind).names)))

numbers : (t : Tables) (kind : Kind) (name : List ℕ) → Numbers t kind name (number_in t kind name)
unfolding number_in number_of
numbers t kind name = go (found_number s name) refl
  where
    s : Numbered
    s = space t kind

    new : (b : Bool) → nat_lt (length s.names) s.limit ≡ b
        → Numbers t kind name (put_back t kind (if b then Some (length s.names, with_name s name) else None))
    new true is = inr (inl refl)
    new false is = inr (inr (refl, ltb-false (length s.names) s.limit is))

    go : (o : Option ℕ) → found_number s name ≡ o → Numbers t kind name (put_back t kind (found_or o s name))
    go (Some i) place =
        inl (i, found_name s.names name i place, ap (λ (u : Tables). Some (i, u)) (same_space t kind))
    go None place = new (nat_lt (length s.names) s.limit) refl

-- a name with an earlier number had it, and nothing changes; with another it is added
pub name_numbered : (t u : Tables) (kind : Kind) (name : List ℕ) (n : ℕ) → number_in t kind name ≡ Some (n, u)
    → (n < length (space t kind).names → (slice_get (space t kind).names n ≡ Some name) × (u ≡ t))
    × (length (space t kind).names ≤ n → u ≡ with_space t kind (with_name (space t kind) name))
name_numbered t u kind name n e = go (numbers t kind name)
  where
    s : Numbered
    s = space t kind

    go : Numbers t kind name (number_in t kind name)
        → (n < length s.names → (slice_get s.names n ≡ Some name) × (u ≡ t))
        × (length s.names ≤ n → u ≡ with_space t kind (with_name s name))
    go (inl (i, at, is)) =
        let same = same_Some (i, t) (n, u) (sym is ∙ e) in
        let place = ap (λ (p : ℕ × Tables). p.0) same in
        let within = slice_get_within s.names i name at in (
          λ _. (ap (slice_get s.names) (sym place) ∙ at, sym (ap (λ (p : ℕ × Tables). p.1) same)),
          λ past. absurd (omega (arith, past, within, place)),
        )
    go (inr (inl is)) =
        let same = same_Some (length s.names, with_space t kind (with_name s name)) (n, u) (sym is ∙ e) in
        let place = ap (λ (p : ℕ × Tables). p.0) same in
        (λ before. absurd (omega (arith, before, place)), λ _. sym (ap (λ (p : ℕ × Tables). p.1) same))
    go (inr (inr full)) = absurd (let bad : None ≡ Some (n, u) = sym full.0 ∙ e in cc)

-- a name that gets no number finds as many as the limit
pub no_more : (t : Tables) (kind : Kind) (name : List ℕ) → number_in t kind name ≡ None
    → (space t kind).limit ≤ length (space t kind).names
no_more t kind name e = go (numbers t kind name)
  where
    go : Numbers t kind name (number_in t kind name) → (space t kind).limit ≤ length (space t kind).names
    go (inl (i, at, is)) = absurd (let bad : Some (i, t) ≡ None = sym is ∙ e in cc)
    go (inr (inl is)) = absurd (let bad = sym is ∙ e in cc)
    go (inr (inr full)) = full.1

-- ---- a list of names

-- a list from one of its places on
pub parted : {A B : Type 0} (f : A → B) (xs : List A) (i : ℕ) (x : A) → slice_get xs i ≡ Some x
    → (more : List B) × (map f xs ≡ map f (take i xs) ++ f x ∷ more)
parted f [] i x at = absurd cc
parted f (y ∷ xs) zero x at = (map f xs, ap (λ z. f z ∷ map f xs) (same_Some y x at))
parted f (y ∷ xs) (suc i) x at =
    let rest = parted f xs i x at in
    (rest.0, ap (λ zs. f y ∷ zs) rest.1)

get_middle : {A : Type 0} (xs ys : List A) (x : A) → slice_get (xs ++ x ∷ ys) (length xs) ≡ Some x
get_middle [] ys x = refl
get_middle (y ∷ xs) ys x = get_middle xs ys x

longer : {A : Type 0} (xs ys : List A) (x : A) → length xs < length (xs ++ x ∷ ys)
longer xs ys x = slice_get_within (xs ++ x ∷ ys) (length xs) x (get_middle xs ys x)

-- a fault of the next name is one of the list
pub fault_in : (limit : ℕ) (kind : Kind) (before more : List (List ℕ)) (name : List ℕ) (f : NamingFault)
    → IsFaultAt (numbered limit before) kind name f → IsFaultIn limit kind (before ++ name ∷ more) f
fault_in limit kind before more name (NoName k n) (same, is, wrong) =
    let here = subst (λ (m : ℕ). slice_get (before ++ name ∷ more) m ≡ Some name) (sym is)
    (get_middle before more name) in
    (same, (name, here, wrong))
fault_in limit kind before more name (Twice k n) (same, is, (i, earlier, at)) =
    let here = subst (λ (m : ℕ). slice_get (before ++ name ∷ more) m ≡ Some name) (sym is)
    (get_middle before more name) in
    (same, (name, i, earlier, get_before before (name ∷ more) i name at, here))
fault_in limit kind before more name (TooMany k) (same, full) =
    let more' = longer before more name in
    (same, omega arith)
fault_in limit kind before more name OutOfMemory f = tt

-- ---- the names of a kind

-- no names
pub none_yet : (t : Tables) (kind : Kind) → (space t kind).names ≡ []
    → t ≡ with_space t kind (numbered (space t kind).limit [])
none_yet t kinds.Thread e = λ i. record t { threads = numbered t.threads.limit (e i) }
none_yet t kinds.Lock e = λ i. record t { locks = numbered t.locks.limit (e i) }
none_yet t kinds.Variable e = λ i. record t { variables = numbered t.variables.limit (e i) }
none_yet t kinds.Site e = λ i. record t { sites = numbered t.sites.limit (e i) }

-- a fault of the next name is one of the list, by what was numbered
pub fault_of_next : (t u : Tables) (kind : Kind) (limit : ℕ) (before more all : List (List ℕ))
    (name : List ℕ) (f : NamingFault) → u ≡ with_space t kind (numbered limit before)
    → all ≡ before ++ name ∷ more → IsFaultAt (space u kind) kind name f → IsFaultIn limit kind all f
fault_of_next t u kind limit before more all name f is parts fault =
    let here : space u kind ≡ numbered limit before =
    ap (λ (w : Tables). space w kind) is ∙ with_space_of t kind (numbered limit before) in
    subst (λ (xs : List (List ℕ)). IsFaultIn limit kind xs f) (sym parts)
    (fault_in limit kind before more name f (subst (λ (s : Numbered). IsFaultAt s kind name f) here fault))
