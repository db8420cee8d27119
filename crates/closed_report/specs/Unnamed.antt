-- Numbers of a log that have no name.
use Rattle.std.specs.Prelude.{◌≡◌, ◌⊎◌, ℕ, ◌<◌, ◌≤◌, List, Result, IsErrAnd, Some, length, slice_get}
use Rattle.event_core.specs.declared.events.Event.{Event}
use Rattle.rapid_text.specs.declared.causes.Kind.{Kind}
use Rattle.rapid_text.specs.declared.causes.Kind.TheVariants as kinds
use Rattle.rapid_text.specs.Events.{kind_of, word_of_op, target_of, HasNames}
use Rattle.rapid_text.specs.Tables.{Tables, space}
use Rattle.trace_report.specs.declared.summary.Summary.{Summary}
use Rattle.closed_report.specs.declared.reporting.ReportFault.{ReportFault}
use Rattle.closed_report.specs.declared.reporting.ReportFault.TheVariants.{Unnamed, Write}

-- the event has the number of the kind: it is its thread's, its operation's or its site's
abbrev pub HasNumber : Event → Kind → ℕ → Type 0
HasNumber e kind n =
    ((kind ≡ kinds.Thread) × (n ≡ e.thread.0))
    ⊎ (((kind ≡ kind_of (word_of_op e.op)) × (n ≡ target_of e.op))
    ⊎ ((kind ≡ kinds.Site) × (n ≡ e.site.0)))

-- the event at the index has the number of the kind, which has no name, and each event before it has names
pub record IsUnnamed (names : Tables) (log : List Event) (kind : Kind) (n index : ℕ) : Type 0 where
  pub event : Event
  pub at : slice_get log index ≡ Some event
  pub has : HasNumber event kind n
  pub unnamed : length (space names kind).names ≤ n
  pub earlier : (j : ℕ) (e : Event) → j < index → slice_get log j ≡ Some e → HasNames names e

-- the fault is that a number has no name
abbrev pub LacksName : ReportFault → Type 0
LacksName (Unnamed kind n index) = Unit {0}
LacksName Write = ⊥

-- the answer is that a number has no name
abbrev pub TellsUnnamed : Result Summary ReportFault → Type 0
TellsUnnamed answer = IsErrAnd answer LacksName

-- where the fault is that a number has no name, it has the first event with such a number
abbrev pub IsReason : Tables → List Event → ReportFault → Type 0
IsReason names log (Unnamed kind n index) = IsUnnamed names log kind n index
IsReason names log Write = Unit {0}
