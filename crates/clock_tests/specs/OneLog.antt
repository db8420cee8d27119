-- A memory and clocks that stand for one log.
use Rattle.std.specs.Prelude.{◌≡◌, List}
use Rattle.event_core.specs.declared.bounds.Limits.{Limits}
use Rattle.event_core.specs.declared.bounds.Roots.TheVariants.{OnlyMain}
use Rattle.event_core.specs.declared.events.Event.{Event}
use Rattle.traced_mem.specs.Tables.{MemoryTables}
use Rattle.traced_mem.specs.Standing.{StandsFor as MemoryStandsFor}
use Rattle.wcp_clocks.specs.Parts.{Parts}
use Rattle.wcp_clocks.specs.Parts.{width_of, limits_of}
use Rattle.wcp_clocks.specs.Standing.{StandsFor}
use Rattle.wcp_clocks.specs.WorkWithin.{WorkWithin}

-- the limits of the logs
abbrev pub small : Limits
small = record { threads = 3; locks = 4; vars = 3; events = 64; roots = OnlyMain }

-- there is a log for which both stand, and the clocks have done no more work than it takes
pub record StandForOneLog (m : MemoryTables) (p : Parts) : Type 0 where
  pub log : List Event
  pub memory : MemoryStandsFor log m
  pub memory_limits : m.limits ≡ small
  pub clocks : StandsFor log p
  pub work : WorkWithin small log p
  pub width : width_of p ≡ small.threads
  pub clock_limits : limits_of p ≡ small
