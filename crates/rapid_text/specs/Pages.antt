-- A text that is written by pages: what was written of it, and what waits.
use Rattle.std.specs.Prelude.{◌≡◌, ℕ, List, ◌++◌, Option}
use Rattle.std.specs.Io.KnownBytes.{Appends}

-- the bytes follow those that waited; a front of all these was written, and the rest waits
pub record Puts (old : Option (List ℕ)) (waited : List ℕ) (new : Option (List ℕ)) (waits bytes : List ℕ)
    : Type 0 where
  pub front : List ℕ
  pub written : Appends old new front
  pub is : waited ++ bytes ≡ front ++ waits
