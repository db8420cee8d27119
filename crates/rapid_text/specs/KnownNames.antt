-- The names of a line that are not new.
use Rattle.std.specs.Prelude.{◌≡◌, ◌≢◌, None}
use Rattle.rapid_line.specs.Grammar.{NamedEvent}
use Rattle.rapid_text.specs.declared.causes.Kind.TheVariants as kinds
use Rattle.rapid_text.specs.declared.event_lines.Known.{Known}
use Rattle.rapid_text.specs.Numbers.{found_number}
use Rattle.rapid_text.specs.Tables.{Tables, space}
use Rattle.rapid_text.specs.Events.{kind_of}

-- these are the numbers of the names that have one
pub record AreKnown (t : Tables) (e : NamedEvent) (known : Known) : Type 0 where
  pub thread : known.thread ≡ found_number (space t kinds.Thread) e.thread
  pub target : known.target ≡ found_number (space t (kind_of e.word)) e.argument
  pub site : known.site ≡ found_number (space t kinds.Site) e.location

-- it is the first of its thread, and forks or joins another one
abbrev pub AddsTwo : NamedEvent → Known → Type 0
AddsTwo e known = (known.thread ≡ None) × (kind_of e.word ≡ kinds.Thread) × (e.argument ≢ e.thread)
