-- An event's step keeps the meaning.
use Rattle.std.proofs.Common.{◌∷◌, [], ◌++◌}
use Rattle.event_core.proofs.OrderlyProperties.{orderly}
use Rattle.event_core.proofs.DepthAfterProperties.{depths_stand}
use Rattle.wcp_laws.specs.Standing.{StepStands}
use Rattle.wcp_laws.specs.Step.{effect, hb_row}
use Rattle.wcp_laws.proofs.Clocks.{hb_stands, strict_stands, own_stands, own_clock, effect_fits, hb_counted}
use Rattle.wcp_laws.proofs.ClosedLists.{closed_stand}
use Rattle.wcp_laws.proofs.HeldLocks.{held_stand}
use Rattle.wcp_laws.proofs.NotedAccesses.{noted_stand}
use Rattle.wcp_laws.proofs.OpenSections.{opened_stand}
use Rattle.wcp_laws.proofs.OtherSections.{others_stand}

-- the law: the numbers after a legal event stand for the longer log
pub step_stands : StepStands
step_stands limits log e s w st =
    let ord = orderly limits (log ++ e ∷ []) w in
    let f = effect_fits log e s st in
    record {
      hb = hb_stands limits log e s w st;
      strict = strict_stands limits log e s w st;
      own = own_stands limits log e s w st;
      depths = depths_stand log e ord s.depth st.depths;
      opened = opened_stand log e ord (effect e s) f (hb_row e s) (own_clock log e s st) s.opened st.opened;
      held = held_stand log e ord (effect e s) f s.held st.held;
      noted = noted_stand log e ord (effect e s) f s.depth st.depths s.noted st.noted;
      others = others_stand log e ord (effect e s) f (hb_row e s) (hb_counted log e s st) s st;
      closed = closed_stand log e ord (effect e s) f (hb_row e s) (hb_counted log e s st) s st;
    }
