-- At each legal event the numbers are as the step asks, with no log.
use Rattle.std.proofs.Common.{◌≡◌, ◌<◌, ◌+◌, List, [], ◌∷◌, ◌++◌, arith, take}
use Rattle.event_core.specs.declared.bounds.Limits.{Limits}
use Rattle.event_core.specs.declared.events.Event.{Event}
use Rattle.event_core.specs.declared.ids.LockId.{LockId}
use Rattle.event_core.specs.Count.{events_of}
use Rattle.event_core.specs.Log.{depth}
use Rattle.event_core.specs.Refusal.{WellFormed}
use Rattle.event_core.specs.Effect.{Closes}
use Rattle.event_core.proofs.WellFormedProperties.{well_formed_front}
use Rattle.event_core.proofs.OrderlyProperties.{orderly}
use Rattle.wcp_laws.specs.Standing.{StandsFor}
use Rattle.wcp_laws.specs.State.{State}
use Rattle.wcp_laws.specs.Step.{effect}
use Rattle.wcp_laws.specs.Conditions.{IsSound}
use Rattle.wcp_laws.proofs.Clocks.{effect_fits}
use Rattle.event_core.proofs.OpenSections.{closes_at, open_by_depth}
use Rattle.wcp_laws.proofs.ConditionsProperties.{counted_earlier, releases_above}

-- the section that an event closes was opened
opened_before : (limits : Limits) (log : List Event) (e : Event) (s : State)
    → WellFormed limits (log ++ e ∷ []) → StandsFor log s
    → (l : LockId) → effect e s ≡ Closes l → 0 < s.opened e.thread.0 l.0
opened_before limits log e s w st l is =
    let ord = orderly limits (log ++ e ∷ []) w in
    let closed = closes_at log e ord (effect e s) (effect_fits log e s st) l is in
    let one : depth log e.thread l ≡ 1 = closed.outer in
    let section = open_by_depth log e.thread l (omega arith) in
    let at : s.opened e.thread.0 l.0 ≡ events_of (take section.0 log) e.thread + 1
    = st.opened e.thread l section.0 section.1 in
    omega arith

-- at each legal event the numbers are so
pub sound_where_legal : (limits : Limits) (log : List Event) (e : Event) (s : State)
    → WellFormed limits (log ++ e ∷ []) → StandsFor log s → IsSound e s
sound_where_legal limits log e s w st = record {
  above_closed = λ l q u is h. (releases_above limits log e s l w st is).0 q u h;
  above_met = λ l x k t u is. (releases_above limits log e s l w st is).1 x k t u;
  earlier =
      λ l p q. counted_earlier limits log s l e.thread p q (well_formed_front limits log (e ∷ []) w) st;
  opened = opened_before limits log e s w st;
}
