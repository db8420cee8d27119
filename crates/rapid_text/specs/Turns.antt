-- The turns of a text: how many pulls of its input were made, and why it was not read to its end.
use Rattle.std.specs.Prelude.{◌≡◌, ℕ, ◌+◌, ◌^◌, ◌<◌, ◌≤◌, ◌⊎◌, List, length, Option, Some, None, Bool, true}

-- the most turns of a text, 2 ^ 44: each gives 65,536 bytes at most, and so all of them 2 ^ 60
abbrev pub most_turns : ℕ
most_turns = 17592186044416

-- n pulls were made, between these two counts of an input. An input need not count its pulls, nor more than
-- 2^63 of them.
abbrev pub PulledTimes : ℕ → Option ℕ → Option ℕ → Type 0
PulledTimes n None after = Unit {0}
PulledTimes n (Some before) after = before + n < 2 ^ 63 → after ≡ Some (before + n)

-- no more pulls were made than there are turns
pub record PulledWithin (turns : ℕ) (before after : Option ℕ) : Type 0 where
  pub times : ℕ
  pub within : times ≤ turns
  pub pulled : PulledTimes times before after

-- as many pulls were made as there are turns, and each gave one of these bytes at least
pub record UsesUp (turns : ℕ) (before after : Option ℕ) (bytes : List ℕ) : Type 0 where
  pub pulled : PulledTimes turns before after
  pub some : turns ≤ length bytes

-- a text of which these bytes came was not read to its end: a read failed, or the turns are used up
abbrev pub IsCutShort : ℕ → Bool → Option ℕ → Option ℕ → List ℕ → Type 0
IsCutShort turns failed before after bytes = (failed ≡ true) ⊎ UsesUp turns before after bytes
