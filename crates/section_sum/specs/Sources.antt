-- The section numbers that are left to yield.
use Rattle.std.specs.Prelude.{ℕ, List, ◌++◌}
use Rattle.std.specs.Option.{option_to_list}
use Rattle.event_core.specs.declared.events.AccessKind.{AccessKind}
use Rattle.event_core.specs.declared.events.AccessKind.TheVariants.{Read, Write}
use Rattle.section_sum.specs.declared.sources.Sources.{Sources}

-- the numbers that are left
unfoldable pub left : Sources → List ℕ
left s = option_to_list s.first ++ option_to_list s.second

-- at most one section for a load, and two for a store
abbrev pub most_sources : AccessKind → ℕ
most_sources Read = 1
most_sources Write = 2
