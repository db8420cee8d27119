-- Where the elements of a filtered list come from.
use Rattle.std.proofs.Common.{◌≡◌, ℕ, zero, suc, ◌≤◌, ◌+◌, List, [], ◌∷◌, ◌++◌, Bool, true, false, length}
use Rattle.std.proofs.Common.{refl}
use Rattle.std.proofs.Common.{sym, ap, subst, ◌∙◌, arith, take, drop, Some, slice_get, take-append-drop}
use Rattle.std.proofs.Common.{length-append}
use Rattle.std.proofs.Math.Seq.{take-append_seam}
use Rattle.std.proofs.lemmas.Bool.{cases_Bool, cond-true, cond-false}
use Rattle.std.proofs.lemmas.List.{take-take}
use Rattle.std.proofs.lemmas.List.Elements.{filter-append}
use Rattle.std.specs.List.{filter}
use mathlib.Core.Logic.{inl, inr}
use Rattle.event_core.specs.declared.events.Event.{Event}
use Rattle.event_core.proofs.DepthProperties.{take_event}
use Rattle.event_core.proofs.Places.{get_before, get_last}

-- where element i of the list is in the filtered list
abbrev pub place : (Event → Bool) → List Event → ℕ → ℕ
place p xs i = length (filter p (take i xs))

-- an event that passes the test stays at the front
pub filter_in : (p : Event → Bool) (x : Event) (xs : List Event) → p x ≡ true
    → filter p (x ∷ xs) ≡ x ∷ filter p xs
filter_in p x xs t = cond-true (p x) (x ∷ filter p xs) (filter p xs) t

-- an event that does not pass the test is left out
pub filter_out : (p : Event → Bool) (x : Event) (xs : List Event) → p x ≡ false
    → filter p (x ∷ xs) ≡ filter p xs
filter_out p x xs f = cond-false (p x) (x ∷ filter p xs) (filter p xs) f

split : (p : Event → Bool) (xs : List Event) (i : ℕ)
    → filter p (take i xs) ++ filter p (drop i xs) ≡ filter p xs
split p xs i = sym (filter-append p (take i xs) (drop i xs)) ∙ ap (filter p) (take-append-drop i xs)

-- the events that stay before event i are those of the first i that pass the test
pub front : (p : Event → Bool) (xs : List Event) (i : ℕ)
    → take (place p xs i) (filter p xs) ≡ filter p (take i xs)
front p xs i =
    ap (take (place p xs i)) (sym (split p xs i))
    ∙ take-append_seam (filter p (take i xs)) (filter p (drop i xs))

-- a later event has no lower place
pub rises : (p : Event → Bool) (xs : List Event) (i j : ℕ) → i ≤ j → place p xs i ≤ place p xs j
rises p xs i j le =
    let same : filter p (take i (take j xs)) ≡ filter p (take i xs) = ap (filter p) (take-take i j xs le) in
    let both : filter p (take i xs) ++ filter p (drop i (take j xs)) ≡ filter p (take j xs)
    = ap (λ ys. ys ++ filter p (drop i (take j xs))) (sym same) ∙ split p (take j xs) i in
    let sum : length (filter p (take i xs)) + length (filter p (drop i (take j xs))) ≡ place p xs j
    = sym (length-append (filter p (take i xs)) (filter p (drop i (take j xs)))) ∙ ap length both in
    omega (arith, sum)

last : (p : Event → Bool) (xs : List Event) (i : ℕ) (x : Event) → slice_get xs i ≡ Some x → p x ≡ true
    → filter p (take (suc i) xs) ≡ filter p (take i xs) ++ x ∷ []
last p xs i x at t =
    ap (filter p) (take_event xs i x at)
    ∙ filter-append p (take i xs) (x ∷ [])
    ∙ ap (λ ys. filter p (take i xs) ++ ys) (filter_in p x [] t)

-- the place after an event that stays is one higher
pub next : (p : Event → Bool) (xs : List Event) (i : ℕ) (x : Event) → slice_get xs i ≡ Some x → p x ≡ true
    → place p xs (suc i) ≡ suc (place p xs i)
next p xs i x at t =
    let sum : place p xs (suc i) ≡ length (filter p (take i xs)) + length (x ∷ [])
    = ap length (last p xs i x at t) ∙ length-append (filter p (take i xs)) (x ∷ []) in
    let one : length (x ∷ []) ≡ 1 = refl in
    omega (arith, sum, one)

-- an event that stays is at its place in the filtered list
pub stands : (p : Event → Bool) (xs : List Event) (i : ℕ) (x : Event) → slice_get xs i ≡ Some x → p x ≡ true
    → slice_get (filter p xs) (place p xs i) ≡ Some x
stands p xs i x at t =
    let here : slice_get (filter p (take (suc i) xs)) (place p xs i) ≡ Some x
    = ap (λ ys. slice_get ys (place p xs i)) (last p xs i x at t) ∙ get_last (filter p (take i xs)) x in
    subst (λ ys. slice_get ys (place p xs i) ≡ Some x) (split p xs (suc i))
    (get_before (filter p (take (suc i) xs)) (filter p (drop (suc i) xs)) (place p xs i) x here)

-- each element of the filtered list is one of the list
pub record Origin (p : Event → Bool) (xs : List Event) (k : ℕ) (x : Event) : Type 0 where
  pub index : ℕ
  pub at : slice_get xs index ≡ Some x
  pub passes : p x ≡ true
  pub to : place p xs index ≡ k

origin_in : (p : Event → Bool) (y : Event) (ys : List Event) (n : ℕ) (x : Event) → p y ≡ true
    → ((k : ℕ) → slice_get (filter p ys) k ≡ Some x → Origin p ys k x)
    → slice_get (y ∷ filter p ys) n ≡ Some x → Origin p (y ∷ ys) n x
origin_in p y ys zero x t ih at =
    let same : y ≡ x = (let e : Some y ≡ Some x = at in cc) in
    record { index = 0; at = at; passes = subst (λ e. p e ≡ true) same t; to = refl }
origin_in p y ys (suc n) x t ih at =
    let o : Origin p ys n x = ih n at in
    record {
      index = suc o.index;
      at = o.at;
      passes = o.passes;
      to = ap length (filter_in p y (take o.index ys) t) ∙ ap suc o.to;
    }

origin_out : (p : Event → Bool) (y : Event) (ys : List Event) (n : ℕ) (x : Event) → p y ≡ false
    → Origin p ys n x → Origin p (y ∷ ys) n x
origin_out p y ys n x f o = record {
  index = suc o.index;
  at = o.at;
  passes = o.passes;
  to = ap length (filter_out p y (take o.index ys) f) ∙ o.to;
}

-- each event of the filtered list comes from one that stays
pub origin : (p : Event → Bool) (xs : List Event) (k : ℕ) (x : Event) → slice_get (filter p xs) k ≡ Some x
    → Origin p xs k x
origin p [] k x at = absurd (cc)
origin p (y ∷ ys) k x at = elim (cases_Bool (p y)) [
  | inl t ↦
      origin_in p y ys k x t (λ n h. origin p ys n x h)
      (ap (λ zs. slice_get zs k) (sym (filter_in p y ys t)) ∙ at)
  | inr f ↦
      origin_out p y ys k x f (origin p ys k x (ap (λ zs. slice_get zs k) (sym (filter_out p y ys f)) ∙ at))
]
