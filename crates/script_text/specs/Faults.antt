-- The names of a script's causes.
use Rattle.std.specs.Prelude.{ℕ, List, codes}
use Rattle.script_text.specs.declared.causes.ScriptCause.{ScriptCause}
use Rattle.script_text.specs.declared.causes.ScriptCause.TheVariants.{
  LineTooLong,
  BadLine,
  BadNumber,
  TooManyNames,
  BadFork,
  BadJoin,
  NoFork,
  Read,
  OutOfMemory,
}

abbrev pub cause_word : ScriptCause → List ℕ
cause_word LineTooLong = codes "LineTooLong"
cause_word BadLine = codes "BadLine"
cause_word BadNumber = codes "BadNumber"
cause_word (TooManyNames kind) = codes "TooManyNames"
cause_word BadFork = codes "BadFork"
cause_word BadJoin = codes "BadJoin"
cause_word NoFork = codes "NoFork"
cause_word Read = codes "Read"
cause_word OutOfMemory = codes "OutOfMemory"
