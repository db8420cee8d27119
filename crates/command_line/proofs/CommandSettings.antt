-- What clap found for the options of a command.
use Rattle.std.proofs.Common.{◌≡◌, ◌&&◌, ℕ, List, [], ◌∷◌, Option, Some, None, Result, Ok, Err, Bool, true}
use Rattle.std.proofs.Common.{false, refl, sym, ap, ap₂, length}
use Rattle.std.specs.Prelude.{nat_lt, option_and_then, option_map}
use Rattle.std.specs.List.{list_all}
use Rattle.std.specs.Char.{digit_value}
use Rattle.std.specs.Str.Parse.{AllDigits, ParsesUnsigned, digits_value, without_leading_plus}
use Rattle.std.proofs.lemmas.Bool.{lt-ltb, ltb-true}
use Rattle.clap.specs.Matches.{ReadsOne}
use Rattle.clap.specs.Walk.{Row, Text}
use Rattle.clap.proofs.WalkLemmas.{both}
use Rattle.command_line.specs.Requests.{number_of}

digits_pass : (ds : List ℕ) → AllDigits 10 ds → list_all (λ d. nat_lt (digit_value d) 10) ds ≡ true
digits_pass [] h = refl
digits_pass (d ∷ ds) h = rw (lt-ltb (digit_value d) 10 h.0) (digits_pass ds h.1)

digits_from : (ds : List ℕ) → list_all (λ d. nat_lt (digit_value d) 10) ds ≡ true → AllDigits 10 ds
digits_from [] e = tt
digits_from (d ∷ ds) e =
    let parts = both _ _ e in
    (ltb-true _ _ parts.0, digits_from ds parts.1)

abbrev is_number : List ℕ → Bool
is_number ds = nat_lt 0 (length ds) && (list_all (λ d. nat_lt (digit_value d) 10) ds
    && nat_lt (digits_value 10 ds) 4294967296)

-- what a parse of a text gives
parsed : (E : Type 0) (t : Text) (n : ℕ) → ParsesUnsigned {E = E} 32 10 t (Ok n) → number_of t ≡ Some n
parsed E t n h =
    let ds = without_leading_plus t in
    rw (lt-ltb 0 (length ds) h.0.0.0, digits_pass ds h.0.0.1, lt-ltb (digits_value 10 ds) 4294967296 h.0.1)
    (ap Some (sym h.1))

not_parsed : {E : Type 0} (t : Text) (e : E) → ParsesUnsigned 32 10 t (Err e) → number_of t ≡ None
not_parsed t e h = go (is_number (without_leading_plus t)) refl
  where
    go : (b : Bool) → is_number (without_leading_plus t) ≡ b → number_of t ≡ None
    go false is = rw is refl
    go true is =
        let outer = both _ _ is in
        let inner = both _ _ outer.1 in
        absurd (h (
          (ltb-true _ _ outer.0, digits_from (without_leading_plus t) inner.0),
          ltb-true _ _ inner.1,
        ))

-- the number that was read is that of the text that was found
pub number_read : {E : Type 0} {text : Option Text} {r : Option ℕ} (gives : Text → Result ℕ E → Type 0)
    → ((u : Text) (x : Result ℕ E) → gives u x → ParsesUnsigned 32 10 u x) → (text ≡ None → r ≡ None)
    → ((t : Text) → text ≡ Some t → ReadsOne gives t r) → r ≡ option_and_then number_of text
number_read {text = None} gives parses none value = none refl
number_read {E} {text = Some t} {r = Some n} gives parses none value =
    sym (parsed E t n (parses t (Ok n) (value t refl)))
number_read {text = Some t} {r = None} gives parses none value =
    let read = value t refl in
    sym (not_parsed t read.0 (parses t (Err read.0) read.1))

-- the name and the rows of what was found are those of the command that was met
pub met_is : {A : Type 0} (s : Option A) (name : A → Text) (rows : A → List Row) {n : Text} {r : List Row}
    → Some n ≡ option_map name s
    → Some r ≡ option_map (λ (p : Text × List Row). p.1)
    (option_map {U = Text × List Row} (λ (a : A). (name a, rows a)) s)
    → option_map {U = Text × List Row} (λ (a : A). (name a, rows a)) s ≡ Some (n, r)
met_is None name rows named found = absurd (cc)
met_is (Some x) name rows named found =
    ap₂ (λ (n : Text) (r : List Row). Some (n, r)) (sym (some_is named)) (sym (some_is found))
  where
    some_is : {X : Type 0} {x y : X} → Some x ≡ Some y → x ≡ y
    some_is e = cc
