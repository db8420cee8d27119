-- Lists of bytes, cut at a byte.
use Rattle.std.proofs.Common.{◌≡◌, ℕ, zero, suc, ◌+◌, ◌-◌, ◌<◌, true, false, List, [], ◌∷◌, ◌++◌, length}
use Rattle.std.proofs.Common.{get_or, take, drop, Option, Some, None, refl, sym, ap, subst, ◌∙◌, arith, inl}
use Rattle.std.proofs.Common.{inr, add-one, zero-add}
use Rattle.std.specs.Prelude.{◌||◌, ◌==◌, ◌&&◌, nat_lt, option_map}
use Rattle.std.specs.Option.{is_some}
use Rattle.std.proofs.Math.Bool.{or-true}
use Rattle.std.proofs.lemmas.Bool.{or_parts, and_parts, ltb-true, eqb-true, eq-eqb, or_from}
use Rattle.std.proofs.lemmas.Bool.{cases_Bool, false_from_ne_true}
use Rattle.std.proofs.lemmas.Option.{cond_some}
use Rattle.std.proofs.lemmas.Bool.Decides.{nat_tests}
use Rattle.std.proofs.lemmas.List.{take_more, take_all, take_rest, get_or_push, take_at, length_push}
use Rattle.memchr.specs.Find.{Nowhere, Passes, IsFirstByte, is_byte}
use Rattle.rapid_line.specs.Cut.{has, count, Lacks, cut, before_end, after_last}

-- a byte stands in two lists together where it stands in one of them
pub has-append : (b : ℕ) (xs ys : List ℕ) → has b (xs ++ ys) ≡ (has b xs || has b ys)
has-append b [] ys = refl
has-append b (x ∷ xs) ys = grind (arith, nat_tests, has-append b xs ys)

-- two lists that lack a byte lack it together
pub Lacks-append : (b : ℕ) (xs ys : List ℕ) → Lacks b xs → Lacks b ys → Lacks b (xs ++ ys)
Lacks-append b xs ys p q = has-append b xs ys ∙ or_from (has b xs) (has b ys) p q

-- the first part of a list lacks what the list lacks
pub Lacks-left : (b : ℕ) (xs ys : List ℕ) → Lacks b (xs ++ ys) → Lacks b xs
Lacks-left b xs ys p = (or_parts (has b xs) (has b ys) (sym (has-append b xs ys) ∙ p)).0

-- the second part of a list lacks what the list lacks
pub Lacks-right : (b : ℕ) (xs ys : List ℕ) → Lacks b (xs ++ ys) → Lacks b ys
Lacks-right b xs ys p = (or_parts (has b xs) (has b ys) (sym (has-append b xs ys) ∙ p)).1

-- a list has the byte that stands at one of its places
pub has_here : (b : ℕ) (xs : List ℕ) (i : ℕ) → i < length xs → get_or xs i 0 ≡ b → has b xs ≡ true
has_here b [] i l e = absurd (omega arith)
has_here b (x ∷ xs) zero l e = grind (arith, nat_tests)
has_here b (x ∷ xs) (suc i) l e = grind (arith, nat_tests, has_here b xs i)

cut_first : (b : ℕ) (xs : List ℕ) (i : ℕ) → i < length xs → Nowhere (Passes (is_byte b) xs) 0 i
    → (get_or xs i 0 == b) ≡ true → cut b xs ≡ Some (take i xs, drop (i + 1) xs)
cut_first b [] i l before here = absurd (omega arith)
cut_first b (x ∷ xs) zero l before here = rw here refl
cut_first b (x ∷ xs) (suc i) l before here =
    let differs : (x == b) ≡ false = false_from_ne_true (x == b) (before 0 (omega arith) (omega arith)) in
    let rest = cut_first b xs i (omega arith) (λ k _ lt. before (suc k) (omega arith) (omega arith)) here in
    rw (differs, rest) (rw (add-one (suc i), add-one i) refl)

-- a list is cut at the place where a search found the byte first
pub cut_first_byte : (b : ℕ) (xs : List ℕ) (i : ℕ) → i < length xs → Nowhere (Passes (is_byte b) xs) 0 i
    → (get_or xs i 0 == b) ≡ true
    → cut b xs ≡ Some (take i xs, take (length xs - (i + 1)) (drop (i + 1) xs))
cut_first_byte b xs i l before here = rw (take_rest xs (i + 1)) (cut_first b xs i l before here)

-- a list has no cut where a search found the byte nowhere
pub cut_nowhere : (b : ℕ) (xs : List ℕ) → Nowhere (Passes (is_byte b) xs) 0 (length xs) → cut b xs ≡ None
cut_nowhere b [] h = refl
cut_nowhere b (x ∷ xs) h =
    let differs : (x == b) ≡ false = false_from_ne_true (x == b) (h 0 (omega arith) (omega arith)) in
    rw (differs, cut_nowhere b xs (λ k _ lt. h (suc k) (omega arith) (omega arith))) refl

-- a list is cut at the byte that follows a part without it
pub cut_at : (b : ℕ) (a c : List ℕ) → Lacks b a → cut b (a ++ b ∷ c) ≡ Some (a, c)
cut_at b [] c h = rw (eq-eqb b b refl) refl
cut_at b (x ∷ a) c h = let parts = or_parts (x == b) (has b a) h in rw (parts.0, cut_at b a c parts.1) refl

-- the list is two parts with the byte between them, and the first part lacks the byte
pub record IsCut (b : ℕ) (xs a c : List ℕ) : Type 0 where
  pub is : xs ≡ a ++ b ∷ c
  pub lacks : Lacks b a

-- no such byte stands in the list, or this is its cut
abbrev CutSays : ℕ → List ℕ → Option (List ℕ × List ℕ) → Type 0
CutSays b xs None = Lacks b xs
CutSays b xs (Some p) = IsCut b xs p.0 p.1

onto : (b x : ℕ) (xs : List ℕ) (o : Option (List ℕ × List ℕ)) → (x == b) ≡ false → CutSays b xs o
    → CutSays b (x ∷ xs)
    (option_map (λ (p : List ℕ × List ℕ). let q : List ℕ × List ℕ = (x ∷ p.0, p.1) in q) o)
onto b x xs None differs h = or_from (x == b) (has b xs) differs h
onto b x xs (Some p) differs h = record {
  is = ap (λ (ys : List ℕ). x ∷ ys) h.is;
  lacks = or_from (x == b) (has b p.0) differs h.lacks;
}

cut_says : (b : ℕ) (xs : List ℕ) → CutSays b xs (cut b xs)
cut_says b [] = refl
cut_says b (x ∷ xs) =
    elim (cases_Bool (x == b)) as (λ _. CutSays b (x ∷ xs) (cut b (x ∷ xs))) [
      | inl same ↦ rw same (record { is = ap (λ (y : ℕ). y ∷ xs) (eqb-true x b same); lacks = refl })
      | inr differs ↦ rw differs (onto b x xs (cut b xs) differs (cut_says b xs))
    ]

-- the two parts that `cut` answers are a cut of the list
pub IsCut-at : (b : ℕ) (xs : List ℕ) (p : List ℕ × List ℕ) → cut b xs ≡ Some p → IsCut b xs p.0 p.1
IsCut-at b xs p e = let P : Option (List ℕ × List ℕ) → Type 0 = CutSays b xs in subst P e (cut_says b xs)

-- a list that has no cut lacks the byte
pub cut_None : (b : ℕ) (xs : List ℕ) → cut b xs ≡ None → Lacks b xs
cut_None b xs e = let P : Option (List ℕ × List ℕ) → Type 0 = CutSays b xs in subst P e (cut_says b xs)

-- a list that ends in the byte is cut before it
pub before_end_at : (b : ℕ) (a : List ℕ) → before_end b (a ++ b ∷ []) ≡ Some a
before_end_at b a =
    let len : length (a ++ b ∷ []) ≡ length a + 1 = length_push a b in
    grind (arith, nat_tests, len, get_or_push a b 0 (length a) refl, take_at a (b ∷ []) (length a) refl)

-- a list that is cut before its end is the part before it, and then the byte
pub before_end-Some : (b : ℕ) (xs a : List ℕ) → before_end b xs ≡ Some a → xs ≡ a ++ b ∷ []
before_end-Some b xs a e =
    let some = cond_some (nat_lt 0 (length xs) && (get_or xs (length xs - 1) 0 == b))
    (take (length xs - 1) xs) a e in
    let parts = and_parts (nat_lt 0 (length xs)) (get_or xs (length xs - 1) 0 == b) some.0 in
    let pos : 0 < length xs = ltb-true 0 (length xs) parts.0 in
    let len : length xs - 1 + 1 ≡ length xs = omega arith in
    let more = take_more xs (length xs - 1) 0 (omega arith) in
    let whole : take (length xs) xs ≡ take (length xs - 1) xs ++ get_or xs (length xs - 1) 0 ∷ [] =
    rw len at more in
    sym (take_all (length xs) xs (omega arith)) ∙ whole
    ∙ (rw (eqb-true (get_or xs (length xs - 1) 0) b parts.1, some.1) refl)

-- the part before the end lacks what the list lacks
pub before_end_lacks : (b k : ℕ) (xs r : List ℕ) → Some r ≡ before_end k xs → Lacks b xs → Lacks b r
before_end_lacks b k xs r e h =
    let is : xs ≡ r ++ k ∷ [] = before_end-Some k xs r (sym e) in
    Lacks-left b r (k ∷ []) (subst (λ (t : List ℕ). Lacks b t) is h)

-- the first places of a list lack the byte if a search found it at none of them
pub lacks_below : (b : ℕ) (xs : List ℕ) (n : ℕ) → Nowhere (Passes (is_byte b) xs) 0 n
    → has b (take n xs) ≡ false
lacks_below b xs zero h = refl
lacks_below b [] (suc n) h = refl
lacks_below b (x ∷ xs) (suc n) h =
    or_from (x == b) (has b (take n xs)) (false_from_ne_true (x == b) (h 0 (omega arith) (omega arith)))
    (lacks_below b xs n (λ k _ lt. h (suc k) (omega arith) (omega arith)))

-- a search finds the byte exactly where the list has it
pub has_found : (b : ℕ) (xs : List ℕ) (r : Option ℕ) → IsFirstByte (is_byte b) xs r → is_some r ≡ has b xs
has_found b xs None h = sym (cut_None b xs (cut_nowhere b xs h))
has_found b xs (Some i) h = sym (has_here b xs i h.0.high (eqb-true (get_or xs i 0) b h.1))

-- ---- how many, and what follows the last

-- the count of the byte in two lists together is the sum of its counts
pub count-append : (b : ℕ) (xs ys : List ℕ) → count b (xs ++ ys) ≡ count b xs + count b ys
count-append b [] ys = sym (zero-add (count b ys))
count-append b (x ∷ xs) ys = let e = count-append b xs ys in omega (arith, e)

-- a list that lacks the byte has it 0 times
pub count-Lacks : (b : ℕ) (xs : List ℕ) → Lacks b xs → count b xs ≡ 0
count-Lacks b [] h = refl
count-Lacks b (x ∷ xs) h = grind (arith, nat_tests, count-Lacks b xs)

-- all of a list that lacks the byte stands after the last one
pub after_last-Lacks : (b : ℕ) (xs : List ℕ) → Lacks b xs → after_last b xs ≡ xs
after_last-Lacks b [] h = refl
after_last-Lacks b (x ∷ xs) h = rw h refl

has-last : (b : ℕ) (xs : List ℕ) → has b (xs ++ b ∷ []) ≡ true
has-last b [] = rw (eq-eqb b b refl) refl
has-last b (x ∷ xs) = grind (arith, nat_tests, has-last b xs)

-- nothing stands after a byte at the end
pub after_last-end : (b : ℕ) (xs : List ℕ) → after_last b (xs ++ b ∷ []) ≡ []
after_last-end b [] = rw (eq-eqb b b refl) refl
after_last-end b (x ∷ xs) = rw (has-last b xs, or-true (x == b)) (after_last-end b xs)

-- what stands after the last byte of two lists depends only on what stands after it in the first
pub after_last-append : (b : ℕ) (xs ys : List ℕ)
    → after_last b (xs ++ ys) ≡ after_last b (after_last b xs ++ ys)
after_last-append b [] ys = refl
after_last-append b (x ∷ xs) ys = grind (arith, nat_tests, after_last-append b xs ys, has-append b xs ys)

-- the result of a search for the byte gives the cut
pub ruleset cutting = (cut_first_byte, cut_nowhere)
