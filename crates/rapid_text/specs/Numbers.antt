-- Names of one kind, numbered from 0 in the order of their first appearance.
use Rattle.std.specs.Prelude.{◌≡◌, ℕ, List, [], ◌∷◌, ◌++◌, length, Option, Some, None, nat_lt, if◌then◌else◌}
use Rattle.std.specs.List.{position}
use Rattle.std.specs.Str.{bytes_eq}

-- the names by their numbers, and how many there may be
pub record Numbered : Type 0 where
  pub limit : ℕ
  pub names : List (List ℕ)

-- the name has the next number
abbrev pub with_name : Numbered → List ℕ → Numbered
with_name s name = record { limit = s.limit; names = s.names ++ name ∷ [] }

-- a new name gets the next number; none, where there are as many names as the limit
abbrev pub new_name : Numbered → List ℕ → Option (ℕ × Numbered)
new_name s name = if nat_lt (length s.names) s.limit then Some (length s.names, with_name s name) else None

abbrev pub found_or : Option ℕ → Numbered → List ℕ → Option (ℕ × Numbered)
found_or (Some i) s name = Some (i, s)
found_or None s name = new_name s name

-- where the name stands
abbrev pub found_number : Numbered → List ℕ → Option ℕ
found_number s name = position (λ n. bytes_eq name n) s.names

-- the name's number, and the names after it
unfoldable pub number_of : Numbered → List ℕ → Option (ℕ × Numbered)
number_of s name = found_or (found_number s name) s name

-- names were added at the end
pub record Grows (old new : Numbered) : Type 0 where
  pub more : List (List ℕ)
  pub names : new.names ≡ old.names ++ more
  pub limit : new.limit ≡ old.limit
