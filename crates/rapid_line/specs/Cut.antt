-- Lists of bytes, cut at a byte.
use Rattle.std.specs.Prelude.{
  ◌≡◌,
  ℕ,
  ◌+◌,
  ◌-◌,
  ◌==◌,
  ◌||◌,
  ◌&&◌,
  Bool,
  false,
  List,
  [],
  ◌∷◌,
  length,
  take,
  get_or,
  Option,
  Some,
  None,
  option_map,
  nat_lt,
  unwrap_or,
  if◌then◌else◌,
}

-- the byte stands in the list
abbrev pub has : ℕ → List ℕ → Bool
has b [] = false
has b (x ∷ xs) = x == b || has b xs

-- how many such bytes stand in the list
abbrev pub count : ℕ → List ℕ → ℕ
count b [] = 0
count b (x ∷ xs) = (if x == b then 1 else 0) + count b xs

-- no such byte stands in the list
abbrev pub Lacks : ℕ → List ℕ → Type 0
Lacks b xs = has b xs ≡ false

-- what stands before the first such byte, and what after it
abbrev pub cut : ℕ → List ℕ → Option (List ℕ × List ℕ)
cut b [] = None
cut b (x ∷ xs) = if x == b then Some ([], xs) else option_map (λ p. (x ∷ p.0, p.1)) (cut b xs)

-- what stands before the byte at the end
abbrev pub before_end : ℕ → List ℕ → Option (List ℕ)
before_end b xs =
    if nat_lt 0 (length xs) && (get_or xs (length xs - 1) 0 == b) then Some
    (take (length xs - 1) xs) else None

-- what stands after the last such byte, and all where there is none
abbrev pub after_last : ℕ → List ℕ → List ℕ
after_last b [] = []
after_last b (x ∷ xs) = if x == b || has b xs then after_last b xs else x ∷ xs

-- the content of a line: the line without the CR at its end
abbrev pub content : List ℕ → List ℕ
content line = unwrap_or (before_end 13 line) line
