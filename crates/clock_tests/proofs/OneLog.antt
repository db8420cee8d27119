-- Clocks follow a log whose calls a memory permits.
use Rattle.std.proofs.Common.{◌≡◌, List, [], ◌∷◌, ◌++◌, subst, ◌∙◌, arith}
use Rattle.event_core.specs.declared.bounds.Limits.{Limits}
use Rattle.event_core.specs.declared.events.Event.{Event}
use Rattle.event_core.specs.Refusal.{WellFormed}
use Rattle.traced_mem.specs.Tables.{MemoryTables}
use Rattle.traced_mem.specs.Standing.{StandsFor as MemoryStandsFor}
use Rattle.wcp_clocks.specs.Parts.{Parts}
use Rattle.wcp_clocks.specs.Parts.{Fits, IsWithin, SameLimits, SameNumbers, width_of, limits_of, work_of}
use Rattle.wcp_clocks.specs.Standing.{StandsFor, IsBounded}
use Rattle.wcp_clocks.specs.WorkWithin.{IsWorkOf}
use Rattle.wcp_clocks.proofs.FitsProperties.{fits_where_legal}
use Rattle.wcp_clocks.proofs.WithinLimits.{within_where_legal}
use Rattle.wcp_clocks.proofs.StandsForProperties.{same_stand}
use Rattle.wcp_clocks.proofs.WorkLaws.{no_work, same_work, work_step, little_work}
use Rattle.clock_tests.specs.OneLog.{small, StandForOneLog}

bounded : IsBounded small
bounded = record {
  some_threads = omega arith;
  most_threads = omega arith;
  some_locks = omega arith;
  most_locks = omega arith;
  some_vars = omega arith;
  most_vars = omega arith;
  some_events = omega arith;
  most_events = omega arith;
}

pub no_events : (m : MemoryTables) (p : Parts) → MemoryStandsFor [] m → m.limits ≡ small → StandsFor [] p
    → work_of p ≡ record { comparisons = 0; joins = 0 } → width_of p ≡ small.threads → limits_of p ≡ small
    → StandForOneLog m p
no_events m p memory memory_limits clocks none width clock_limits = record {
  log = [];
  memory = memory;
  memory_limits = memory_limits;
  clocks = clocks;
  work = no_work small p none;
  width = width;
  clock_limits = clock_limits;
}

-- an event that the memory permits after its log is legal there
pub next_legal : (old new : MemoryTables) (p : Parts) (e : Event) (r : StandForOneLog old p)
    → ((log : List Event) → MemoryStandsFor log old → MemoryStandsFor (log ++ e ∷ []) new)
    → new.limits ≡ old.limits → WellFormed small (r.log ++ e ∷ [])
next_legal old new p e r performed same =
    subst (λ (k : Limits). WellFormed k (r.log ++ e ∷ [])) (same ∙ r.memory_limits)
    ((performed r.log r.memory).well_formed)

-- room can be made for it in the clocks
pub next_within : (m : MemoryTables) (p : Parts) (e : Event) (r : StandForOneLog m p)
    → WellFormed small (r.log ++ e ∷ []) → IsWithin p e.thread e.op
next_within m p e r legal = within_where_legal small r.log e p legal r.width r.clock_limits

-- the clocks can take it, once there is room
pub next_fits : (m : MemoryTables) (p q : Parts) (e : Event) (r : StandForOneLog m p)
    → WellFormed small (r.log ++ e ∷ []) → SameNumbers p q → Fits e q
next_fits m p q e r legal same =
    let stands = same_stand r.log p q same r.clocks in
    fits_where_legal small r.log e q bounded legal stands
    (little_work small r.log e q bounded legal stands (same_work small r.log p q same r.work))

-- and then both stand for the longer log
pub stand_after : (old new : MemoryTables) (p q after : Parts) (e : Event) (r : StandForOneLog old p)
    → WellFormed small (r.log ++ e ∷ []) → MemoryStandsFor (r.log ++ e ∷ []) new → new.limits ≡ old.limits
    → SameNumbers p q → SameLimits p q
    → ((m : Limits) (log : List Event) → WellFormed m (log ++ e ∷ []) → StandsFor log q
    → StandsFor (log ++ e ∷ []) after)
    → IsWorkOf e q after → SameLimits q after → StandForOneLog new after
stand_after old new p q after e r legal memory limits same room stands work kept =
    let prepared = same_stand r.log p q same r.clocks in
    record {
      log = r.log ++ e ∷ [];
      memory = memory;
      memory_limits = limits ∙ r.memory_limits;
      clocks = stands small r.log legal prepared;
      work = work_step small r.log e q after legal prepared (same_work small r.log p q same r.work) work;
      width = kept.width ∙ (room.width ∙ r.width);
      clock_limits = kept.limits ∙ (room.limits ∙ r.clock_limits);
    }
