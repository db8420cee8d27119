-- A script that is read line by line, and why there is none.
use Rattle.std.specs.Prelude.{◌≡◌, ℕ, ◌≤◌, ◌⊎◌, List, ◌++◌, IfSome, Option, Ok, Err}
use Rattle.event_core.specs.Bounds.{Bounds}
use Rattle.rapid_line.specs.Cut.{content}
use Rattle.rapid_text.specs.Taking.{Truncates}
use Rattle.script_text.specs.declared.lines.ScriptLine.{ScriptLine}
use Rattle.script_text.specs.declared.causes.ScriptCause.{ScriptCause}
use Rattle.script_text.specs.declared.causes.ScriptCause.TheVariants as causes
use Rattle.script_text.specs.declared.causes.ScriptFault.{ScriptFault}
use Rattle.script_text.specs.Forms.{Fails}
use Rattle.script_text.specs.Scripts.{Parsed, after_content, script_of, IsFirstUnreached}

-- ---- a line

-- the line was read: its content follows what was read before it
abbrev pub Reads : Parsed → ℕ → List ℕ → Parsed → Type 0
Reads s n line t = after_content s n (content line) ≡ Ok t

-- the line has this fault, or memory ran out while it was read
pub record Stops (s : Parsed) (n : ℕ) (line : List ℕ) (f : ScriptFault) : Type 0 where
  pub at : f.line ≡ n
  pub why : Fails f.cause (after_content s n (content line))

-- ---- why there is no script

-- the text was not read to its end for this reason. Line n is the one whose end was not seen, and whatever
-- follows, no line that came whole has a cause.
abbrev pub ReadFails : Bounds → Option (List ℕ) → Option (List ℕ) → (List ℕ → Type 0) → ℕ → Type 0
ReadFails limits left rest Why n = Truncates left rest Why n (λ came.
    (more : List ℕ) (g : ScriptFault) → script_of limits (came ++ more) ≡ Err g → n ≤ g.line)

-- no line has a cause, and line n is the first that names a thread which is not reached
pub record IsUnforked (limits : Bounds) (text : List ℕ) (n : ℕ) : Type 0 where
  pub parsed : Parsed
  pub reads : script_of limits text ≡ Ok parsed
  pub first : IsFirstUnreached parsed.lines n

-- all lines were judged, but a thread is not reached, or memory ran out
abbrev pub Incomplete : List ScriptLine → ScriptFault → Type 0
Incomplete lines f =
    (f ≡ record { line = 1; cause = causes.OutOfMemory })
    ⊎ ((f.cause ≡ causes.NoFork) × IsFirstUnreached lines f.line)

-- where the text that the input had left is known: it has this fault, and so no line before has a cause
abbrev pub HasFault : Bounds → Option (List ℕ) → ScriptFault → Type 0
HasFault limits left f = IfSome left (λ text. script_of limits text ≡ Err f)

-- no line before line n has a cause
abbrev pub HasNoneBefore : Bounds → Option (List ℕ) → ℕ → Type 0
HasNoneBefore limits left n = IfSome left (λ text. (g : ScriptFault) → script_of limits text ≡ Err g
    → n ≤ g.line)

-- each line is without a cause, and line n is the first that names a thread to which no forks lead
abbrev pub LacksFork : Bounds → Option (List ℕ) → ℕ → Type 0
LacksFork limits left n = IfSome left (λ text. IsUnforked limits text n)

-- the fault is that of the text that the input had left; a failed read is at the line whose end was not seen,
-- and want of memory at no later line than the first that has a cause
abbrev pub IsFault : Bounds → Option (List ℕ) → Option (List ℕ) → (List ℕ → Type 0) → ScriptFault
    → ScriptCause → Type 0
IsFault limits left rest Why f causes.OutOfMemory = HasNoneBefore limits left f.line
IsFault limits left rest Why f causes.Read = ReadFails limits left rest Why f.line
IsFault limits left rest Why f causes.NoFork = LacksFork limits left f.line
IsFault limits left rest Why f cause = HasFault limits left f
