-- What a fault line says.
use Rattle.std.specs.Prelude.{ℕ, List, [], ◌∷◌, ◌++◌, codes, decimal}
use Rattle.rapid_line.specs.Causes.{fault_word}
use Rattle.rapid_text.specs.declared.causes.Cause.{Cause}
use Rattle.rapid_text.specs.declared.causes.Cause.TheVariants as causes

-- the name of a cause, without its kind
abbrev pub cause_word : Cause → List ℕ
cause_word (causes.Line f) = fault_word f
cause_word (causes.TooManyNames kind) = codes "TooManyNames"
cause_word causes.OutOfMemory = codes "OutOfMemory"
cause_word causes.Read = codes "Read"
cause_word causes.Failed = codes "Failed"

-- line N: word, and an LF
abbrev pub fault_line : ℕ → List ℕ → List ℕ
fault_line n word = codes "line " ++ decimal n ++ codes ": " ++ word ++ 10 ∷ []
