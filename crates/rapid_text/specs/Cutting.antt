-- A text in pieces: what a cutter holds, and what a push and the end of the text do to it.
use Rattle.std.specs.Prelude.{◌≡◌, ℕ, ◌+◌, ◌≤◌, ◌<◌, List, [], ◌++◌, length, take, drop, Option, Some, None}
use Rattle.std.specs.Prelude.{IfSome, ◌==◌, if◌then◌else◌}
use Rattle.event_core.specs.declared.events.Event.{Event}
use Rattle.event_core.specs.Bounds.{Bounds}
use Rattle.rapid_text.specs.declared.causes.Cause.{Cause}
use Rattle.rapid_text.specs.declared.causes.Cause.TheVariants as causes
use Rattle.rapid_text.specs.declared.causes.TextFault.{TextFault}
use Rattle.rapid_line.specs.Cut.{count, after_last}
-- the most bytes that a cutter takes, 2 ^ 60
pub use Rattle.rapid_line.specs.Lines.{most}
use Rattle.rapid_text.specs.Tables.{Tables, no_names}
use Rattle.rapid_text.specs.Texts.{Judgement, judge, lines_of, with_event, ended, StopsWith, BeginsAt}
use Rattle.rapid_text.specs.Texts.{FirstAt}

-- what a cutter holds: the names, the last answer's line, the number and the bytes of the line whose end was
-- not seen, how many bytes came, and the line of the first fault
pub record Cutting : Type 0 where
  pub names : Tables
  pub line : ℕ
  pub unfinished : ℕ
  pub kept : List ℕ
  pub taken : ℕ
  pub failed : Option ℕ

-- a new cutter
abbrev pub begun : Bounds → Cutting
begun l = record { names = no_names l; line = 0; unfinished = 1; kept = []; taken = 0; failed = None }

-- the text still to be judged is what is kept, followed by what is still to come
abbrev pub judged : Cutting → List ℕ → Judgement
judged s more = judge (lines_of (s.kept ++ more)) s.names s.unfinished

-- a push that took the bytes and gave the event, if there was one
pub record Pushes (old new : Cutting) (piece : List ℕ) (used : ℕ) (event : Option Event) : Type 0 where
  -- what is still to be judged is the same text without the event
  pub sound : (more : List ℕ)
      → judged old (piece ++ more) ≡ with_event new.line event (judged new (drop used piece ++ more))
  pub used_within : used ≤ length piece
  -- all bytes are taken where no line with an event ends
  pub all_used : event ≡ None → used ≡ length piece
  -- and else those up to the end of the line, its LF among them
  pub up_to : IfSome event (λ _. new.kept ≡ [])
  pub some : IfSome event (λ _. 0 < used)
  -- each LF of them ends a line
  pub lines : new.unfinished ≡ old.unfinished + count 10 (take used piece)
  -- what follows the last LF is kept
  pub kept : new.kept ≡ after_last 10 (old.kept ++ take used piece)
  pub taken : new.taken ≡ old.taken + used
  -- an event has the line that ended last, and an answer without an event has no line
  pub told : IfSome event (λ _. new.line + 1 ≡ new.unfinished)
  pub line : event ≡ None → new.line ≡ old.line
  pub live : (old.failed ≡ None) × (new.failed ≡ None)

-- the text stops with the fault, whatever follows the piece
abbrev pub Stops : Cutting → List ℕ → TextFault → Type 0
Stops s piece f = (more : List ℕ) → StopsWith f (judged s (piece ++ more))

-- whatever follows the piece, the lines before line n were judged, and have no event and no fault
abbrev pub JudgedUpTo : Cutting → List ℕ → ℕ → Tables → Type 0
JudgedUpTo s piece n names = (more : List ℕ) → BeginsAt n names (judged s (piece ++ more))

-- why a push failed; a growth is refused at the first line with an event, whatever follows
abbrev pub FailsAt : Cutting → List ℕ → TextFault → Cause → Type 0
FailsAt s piece f causes.OutOfMemory = (more : List ℕ) → FirstAt f.line (judged s (piece ++ more))
FailsAt s piece f causes.Read = (f.line ≡ s.unfinished) × (most < s.taken + length piece)
FailsAt s piece f causes.Failed = s.failed ≡ Some f.line
FailsAt s piece f cause = Stops s piece f

-- the end of the text: what was kept is judged as the last line
pub record Closes (old new : Cutting) (event : Option Event) : Type 0 where
  pub sound : judged old [] ≡ with_event new.line event (ended new.names)
  pub kept : new.kept ≡ []
  -- it ended, if there was one
  pub unfinished : new.unfinished ≡ (if length old.kept == 0 then old.unfinished else old.unfinished + 1)
  pub taken : new.taken ≡ old.taken
  pub line : event ≡ None → new.line ≡ old.line
  pub live : (old.failed ≡ None) × (new.failed ≡ None)

-- the text stops with the fault, and nothing follows
abbrev pub Closed : Cutting → TextFault → Type 0
Closed s f = StopsWith f (judged s [])

-- why the end of the text failed
abbrev pub ClosesAt : Cutting → TextFault → Cause → Type 0
ClosesAt s f causes.OutOfMemory = FirstAt f.line (judged s [])
ClosesAt s f causes.Read = ⊥
ClosesAt s f causes.Failed = s.failed ≡ Some f.line
ClosesAt s f cause = Closed s f

-- the answer after a fault
abbrev pub failed_at : ℕ → TextFault
failed_at n = record { line = n; cause = causes.Failed }
