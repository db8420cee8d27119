-- What a thread's clock counts, by its latest event.
use Rattle.std.proofs.Common.{ℕ, List}
use Rattle.event_core.specs.declared.bounds.Limits.{Limits}
use Rattle.event_core.specs.declared.events.Event.{Event}
use Rattle.event_core.specs.declared.ids.ThreadId.{ThreadId}
use Rattle.event_core.specs.Refusal.{WellFormed}
use Rattle.event_core.specs.Rows.{Counted, join}
use Rattle.event_core.specs.Wcp.{Below}
use Rattle.hb_clocks.specs.Marks.{IsLatest}
use Rattle.hb_clocks.proofs.StandsForProperties.{po_latest}
use Rattle.wcp_laws.proofs.ConditionsProperties.{below_is_latest}
use Rattle.wcp_clocks.specs.Parts.{Parts, state_of, hb_of}
use Rattle.wcp_clocks.specs.Standing.{StandsFor}

-- the strict row joined with the row of program order counts what is below the latest event
pub below_latest : (limits : Limits) (log : List Event) (p : Parts) (t : ThreadId) (j : ℕ)
    → WellFormed limits log → StandsFor log p → IsLatest log t j
    → Counted log (λ i. Below log i j) (join ((state_of p).strict.thread t.0) ((hb_of p).po t.0))
below_latest limits log p t j w st latest u =
    below_is_latest limits log (state_of p) j ((hb_of p).po t.0 u.0) t u w st.strict latest.of latest.last
    (po_latest limits log t j ((hb_of p).po t.0) w latest (st.hb.po t) u)
