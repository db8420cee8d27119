-- The length of a short name and its words tell the name.
use Rattle.std.proofs.Common.{◌≡◌, ℕ, ◌+◌, ◌-◌, ◌<◌, ◌≤◌, [], ◌∷◌, ◌++◌, ◌⊎◌, List, take, drop}
use Rattle.std.proofs.Common.{length, get_or, refl, sym, ◌∙◌, ap, arith, zero, suc}
use Rattle.std.proofs.lemmas.List.{take-append-drop, drop-drop}
use mathlib.Core.Logic.{inl, inr}
use Rattle.rapid_text.specs.NumberCache.{Tell, ends_of, ends_among}
use Rattle.rapid_text.specs.declared.number_cache.Words.{Words}

-- so many numbers of the list from a place on, one by one
abbrev read : ℕ → ℕ → List ℕ → List ℕ
read at zero xs = []
read at (suc n) xs = get_or xs at 0 ∷ read (suc at) n xs

read_later : (at n x : ℕ) (xs : List ℕ) → read (suc at) n (x ∷ xs) ≡ read at n xs
read_later at zero x xs = refl
read_later at (suc n) x xs = rw (read_later (suc at) n x xs) refl

read_all : (xs : List ℕ) (n : ℕ) → length xs ≡ n → xs ≡ read 0 n xs
read_all [] zero is = refl
read_all [] (suc n) is = absurd cc
read_all (x ∷ xs) zero is = absurd cc
read_all (x ∷ xs) (suc n) is =
    let rest : length xs ≡ n = omega (arith, is) in
    ap (λ (l : List ℕ). x ∷ l) (read_all xs n rest ∙ sym (read_later 0 n x xs))

same_read : (n : ℕ) (a b : List ℕ) → n ≤ 8 → ends_among n a ≡ ends_among n b → read 0 n a ≡ read 0 n b
same_read zero a b few same = refl
same_read (suc zero) a b few same = cc
same_read (suc (suc zero)) a b few same = cc
same_read (suc (suc (suc zero))) a b few same = cc
same_read (suc (suc (suc (suc zero)))) a b few same = cc
same_read (suc (suc (suc (suc (suc zero))))) a b few same = cc
same_read (suc (suc (suc (suc (suc (suc zero)))))) a b few same = cc
same_read (suc (suc (suc (suc (suc (suc (suc zero))))))) a b few same = cc
same_read (suc (suc (suc (suc (suc (suc (suc (suc zero)))))))) a b few same = cc
same_read (suc (suc (suc (suc (suc (suc (suc (suc (suc n))))))))) a b few same = absurd (omega (arith, few))

same_ends : (a b : List ℕ) → length a ≡ length b → length a ≤ 8 → ends_of a ≡ ends_of b → a ≡ b
same_ends a b lengths few same =
    let ends : ends_among (length a) a ≡ ends_among (length a) b =
    same ∙ ap (λ (n : ℕ). ends_among n b) (sym lengths) in
    read_all a (length a) refl ∙ same_read (length a) a b few ends
    ∙ sym (read_all b (length a) (sym lengths))

-- of up to 2n numbers the last n tell what comes after the first n
rest_of : (n : ℕ) (xs : List ℕ) → n ≤ length xs → length xs ≤ n + n
    → drop n xs ≡ drop (n + n - length xs) (drop (length xs - n) xs)
rest_of n xs enough few =
    let all : n ≡ (length xs - n) + (n + n - length xs) = omega (arith, enough, few) in
    ap (λ (m : ℕ). drop m xs) all ∙ sym (drop-drop (n + n - length xs) (length xs - n) xs)

-- the first n numbers and the last n tell a list of up to twice as many
both_ends : (n : ℕ) (a b : List ℕ) → length a ≡ length b → n ≤ length a → length a ≤ n + n
    → take n a ≡ take n b → drop (length a - n) a ≡ drop (length b - n) b → a ≡ b
both_ends n a b lengths enough few first last =
    let enough_b : n ≤ length b = omega (arith, lengths, enough) in
    let few_b : length b ≤ n + n = omega (arith, lengths, few) in
    let same : drop (n + n - length a) (drop (length a - n) a) ≡
    drop (n + n - length b) (drop (length b - n) b) =
    ap (λ (l : List ℕ). drop (n + n - length a) l) last
    ∙ ap (λ (m : ℕ). drop (n + n - m) (drop (length b - n) b)) lengths in
    let rest : drop n a ≡ drop n b = rest_of n a enough few ∙ same ∙ sym (rest_of n b enough_b few_b) in
    sym (take-append-drop n a) ∙ ap (λ (l : List ℕ). l ++ drop n a) first
    ∙ ap (λ (l : List ℕ). take n b ++ l) rest ∙ take-append-drop n b

pub same_name : (words : Words) (a b : List ℕ) → length a ≡ length b → 0 < length a → length a ≤ 16
    → Tell words a → Tell words b → a ≡ b
same_name words a b lengths some short tell_a tell_b = by (few_or_more (length a))
  where
    few_or_more : (n : ℕ) → (n ≤ 8) ⊎ (8 < n)
    few_or_more n = grind arith

    by : (length a ≤ 8) ⊎ (8 < length a) → a ≡ b
    by (inl few) =
        let few_b : length b ≤ 8 = omega (arith, lengths, few) in
        same_ends a b lengths few (sym (tell_a.few few) ∙ tell_b.few few_b)
    by (inr more) =
        let more_b : 8 < length b = omega (arith, lengths, more) in
        both_ends 8 a b lengths (omega (arith, more)) short
        (sym (tell_a.first more) ∙ tell_b.first more_b)
        (sym (tell_a.last more) ∙ tell_b.last more_b)
