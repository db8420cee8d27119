-- A reader: what it holds, and what its input has left.
use Rattle.std.specs.Prelude.{ℕ, List, Option, Bool}
use Rattle.rapid_text.specs.Pulling.{Pulling}

-- of the input: the bytes that it has left, where they are known, whether a read has failed, and how many
-- pulls were made, where they are counted
pub record Reading : Type 0 where
  pub text : Pulling
  pub left : Option (List ℕ)
  pub read_failed : Bool
  pub pulls : Option ℕ
