-- Where the races of a log are.
use Rattle.std.specs.Prelude.{◌≡◌, ◌≢◌, ℕ, ◌<◌, Bool, ◌&&◌, List, [], ◌∷◌, ◌++◌, Option, Some, None, nat_eq}
use Rattle.std.specs.Prelude.{◌+◌, slice_get, get_or, set, position, codes, count_by, find, All, flat_map}
use Rattle.std.specs.Io.KnownBytes.{Appends}
use Rattle.event_core.specs.declared.ids.SiteId.{SiteId}
use Rattle.event_core.specs.declared.ids.VarId.{VarId}
use Rattle.event_core.specs.declared.events.Event.{Event}
use Rattle.event_core.specs.declared.events.Op.{Op}
use Rattle.event_core.specs.declared.events.Op.TheVariants.{Load, Store}
use Rattle.event_core.specs.declared.replies.Verdict.{Verdict}
use Rattle.event_core.specs.declared.replies.Verdict.TheVariants.{Racy}
use Rattle.rapid_text.specs.Tables.{Tables}
use Rattle.verdict_list.specs.declared.verdicts.Race.{Race}
use Rattle.seq_monitor.specs.Monitored.{AreVerdicts}
use Rattle.live_monitor.specs.Races.{AreRaces}
use Rattle.trace_report.specs.Reports.{AreNamed, labelled, race_line, summary_line, summary_of}
use Rattle.trace_report.specs.declared.summary.Summary.{Summary}
use Rattle.closed_report.specs.declared.places.Place.{Place}
use Rattle.closed_report.specs.declared.places.PlaceRaces.{PlaceRaces}

-- ---- the place of a race

-- the variable that an operation accesses
abbrev pub var_of : Op → VarId
var_of (Load x) = x
var_of (Store x) = x
var_of _ = record { 0 = 0 }

-- the variable of an event, and its site
abbrev pub var_at : Option Event → VarId
var_at None = record { 0 = 0 }
var_at (Some e) = var_of e.op

abbrev pub site_at : Option Event → SiteId
site_at None = record { 0 = 0 }
site_at (Some e) = e.site

-- the site of the event that races, that of the earlier event, and the variable
abbrev pub place_of : List Event → Race → Place
place_of log r = record {
  site = site_at (slice_get log r.event);
  with = site_at (slice_get log r.with);
  var = var_at (slice_get log r.event);
}

abbrev pub same_place : Place → Place → Bool
same_place p q = nat_eq p.site.0 q.site.0 && (nat_eq p.with.0 q.with.0 && nat_eq p.var.0 q.var.0)

-- the race is at the place
abbrev pub is_at : List Event → Place → Race → Bool
is_at log p r = same_place p (place_of log r)

-- ---- the places of races

-- it counts the races at its place, and has the first of them
pub record IsCounted (log : List Event) (races : List Race) (q : PlaceRaces) : Type 0 where
  pub count : q.races ≡ count_by (is_at log q.place) races
  pub first : find (is_at log q.place) races ≡ Some q.first

-- the place is among those that were found
abbrev pub HasPlace : List PlaceRaces → Place → Type 0
HasPlace found p = (i : ℕ) × (q : PlaceRaces) × (slice_get found i ≡ Some q) × (q.place ≡ p)

-- The races by their places: each race is at one of these places, each place stands once, with its count and
-- its first race, and places stand in the order of their first races.
pub record AreByPlace (log : List Event) (races : List Race) (found : List PlaceRaces) : Type 0 where
  pub each : (i : ℕ) (q : PlaceRaces) → slice_get found i ≡ Some q → IsCounted log races q
  pub all : All (λ r. HasPlace found (place_of log r)) races
  pub once : (i j : ℕ) (p q : PlaceRaces) → i < j → slice_get found i ≡ Some p → slice_get found j ≡ Some q
      → p.place ≢ q.place
  pub order : (i j : ℕ) (p q : PlaceRaces) → i < j → slice_get found i ≡ Some p → slice_get found j ≡ Some q
      → p.first.event < q.first.event

-- these are the places of the races that the definition's verdicts tell
pub record ArePlaces (log : List Event) (found : List PlaceRaces) : Type 0 where
  pub races : List Race
  pub are : AreRaces log races
  pub by_place : AreByPlace log races found

-- ---- one race more

-- the first race at a place
abbrev pub new_place : Place → Race → PlaceRaces
new_place p r = record { place = p; races = 1; first = r }

abbrev pub one_more : PlaceRaces → PlaceRaces
one_more q = record { place = q.place; races = q.races + 1; first = q.first }

-- the place stands at the index, or is a new one
abbrev pub counted_at : Place → Race → List PlaceRaces → Option ℕ → List PlaceRaces
counted_at p r found None = found ++ new_place p r ∷ []
counted_at p r found (Some i) = set found i (one_more (get_or found i (new_place p r)))

abbrev pub with_race : Place → Race → List PlaceRaces → List PlaceRaces
with_race p r found = counted_at p r found (position (λ q. same_place q.place p) found)

-- ---- their lines

-- races R first, and the line of the first race
abbrev pub place_line : Tables → List Event → PlaceRaces → List ℕ
place_line names log q =
    labelled (codes "races ") q.races
    ++ codes " first "
    ++ race_line names log q.first.event (Racy q.first.with)

abbrev pub place_lines : Tables → List Event → List PlaceRaces → List ℕ
place_lines names log = flat_map (place_line names log)

-- the line of counts and a line for each of these places were written, and this is the summary
pub record IsPlaceReportOf (names : Tables) (log : List Event) (found : List PlaceRaces)
    (old new : Option (List ℕ)) (summary : Summary) : Type 0 where
  pub verdicts : List Verdict
  pub judged : AreVerdicts log verdicts
  pub named : AreNamed names log
  pub summary_is : summary ≡ summary_of names log verdicts
  pub written : Appends old new (summary_line summary ++ place_lines names log found)
