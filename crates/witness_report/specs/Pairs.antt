-- Races by the two locations of their events.
use Rattle.std.specs.Prelude.{ℕ, ◌+◌, Bool, ◌&&◌, List, [], ◌∷◌, ◌++◌, Option, Some, None, fold, get_or}
use Rattle.std.specs.Prelude.{max, min, nat_eq, position, set, slice_get}
use Rattle.event_core.specs.declared.events.Event.{Event}
use Rattle.verdict_list.specs.declared.verdicts.Race.{Race}
use Rattle.witness_report.specs.declared.pairs.Sites.{Sites}
use Rattle.witness_report.specs.declared.pairs.Pair.{Pair}

-- the number of an event's location
abbrev pub site_at : Option Event → ℕ
site_at None = 0
site_at (Some e) = e.site.0

-- the locations of a race's two events, the lesser number first
abbrev pub sites_of : List Event → Race → Sites
sites_of log r = record {
  lesser = min (site_at (slice_get log r.with)) (site_at (slice_get log r.event));
  greater = max (site_at (slice_get log r.with)) (site_at (slice_get log r.event));
}

abbrev pub same_sites : Sites → Sites → Bool
same_sites s t = nat_eq s.lesser t.lesser && nat_eq s.greater t.greater

-- ---- one race more

-- the first race between two locations
abbrev pub new_pair : Sites → Race → Pair
new_pair s r = record { sites = s; races = 1; first = r }

abbrev pub one_more : Pair → Pair
one_more p = record { sites = p.sites; races = p.races + 1; first = p.first }

-- the locations are those of the pair at the index, or a new pair
abbrev pub counted_at : Sites → Race → List Pair → Option ℕ → List Pair
counted_at s r pairs None = pairs ++ new_pair s r ∷ []
counted_at s r pairs (Some i) = set pairs i (one_more (get_or pairs i (new_pair s r)))

abbrev pub with_race : Sites → Race → List Pair → List Pair
with_race s r pairs = counted_at s r pairs (position (λ p. same_sites p.sites s) pairs)

-- ---- all races

-- the pairs of locations of the races, in the order of their first races, each with the number of its races
-- and the first of them: each race is counted at its pair, or is the first of a new one
unfoldable pub pairs_of : List Event → List Race → List Pair
pairs_of log races = fold (λ pairs r. with_race (sites_of log r) r pairs) [] races
