-- What the order of sections says of the clocks.
use Rattle.std.proofs.Common.{ℕ, ◌<◌, ◌≤◌, [], ◌∷◌, ◌++◌, length, arith, List}
use Rattle.event_core.specs.declared.ids.ThreadId.{ThreadId}
use Rattle.event_core.specs.Closed.{Others}
use Rattle.event_core.specs.Count.{Past}
use Rattle.event_core.specs.Log.{Section}
use Rattle.event_core.specs.Order.{Hb, Po}
use Rattle.event_core.specs.Orderly.{Orderly}
use Rattle.event_core.specs.Wcp.{Strict, rule_c_right}
use Rattle.event_core.specs.declared.bounds.Limits.{Limits}
use Rattle.event_core.specs.Refusal.{WellFormed}
use Rattle.event_core.specs.declared.events.Event.{Event}
use Rattle.event_core.proofs.OrderProperties.{hb_of_po}
use Rattle.event_core.proofs.CountsProperties.{counts_union, counts_grow}
use Rattle.event_core.proofs.OrderlyProperties.{orderly}
use Rattle.event_core.proofs.RecurrenceProperties.{strict_forward}
use Rattle.event_core.proofs.ClosedProperties.{before_within, before_end, counted_before, release_order}
use Rattle.event_core.proofs.PastProperties.{source_within, past_longer, past_latest}
use Rattle.wcp_laws.specs.Conditions.{ReleasesAbove, CountedEarlier, StrictIsLatest, BelowIsLatest}
use Rattle.wcp_laws.specs.Step.{effect, hb_row, after}
use Rattle.wcp_laws.specs.State.{State}
use Rattle.wcp_laws.specs.Standing.{StandsFor}
use Rattle.wcp_laws.proofs.Clocks.{effect_fits, hb_counted}
use Rattle.wcp_laws.proofs.LegalSteps.{step_stands}
use Rattle.event_core.proofs.OpenSections.{closes_at}

-- a closing release is above the earlier sections of its lock, and what is below them
pub releases_above : ReleasesAbove
releases_above limits log e s l w st is = (
  λ q u h. (let c = (st.closed l).sound q h in
      counts_grow log e u (λ i. Hb log i c.2) (λ i. Hb (log ++ e ∷ []) i (length log)) (q.release u.0)
      (hb_row e s u.0) (λ i b. below i c.0 c.1 c.2 c.3.section b) (λ i b. before_within c.3.section b)
      (c.3.release u) (hb_counted log e s st u)),
  λ x k t u. counts_grow log e u (Others log l x k t) (λ i. Hb (log ++ e ∷ []) i (length log))
      (s.met_clock l.0 x.0 k t.0 u.0) (hb_row e s u.0)
      (λ i o. below i o.thread o.acquire o.release o.section o.below)
      (λ i o. before_within o.section o.below) (st.others l x k t u) (hb_counted log e s st u),
)
  where
    ord : Orderly (log ++ e ∷ [])
    ord = orderly limits (log ++ e ∷ []) w

    below : (i : ℕ) (v : ThreadId) (a r : ℕ) → Section log v l a r → Hb log i r
        → Hb (log ++ e ∷ []) i (length log)
    below = before_end log e ord l (closes_at log e ord (effect e s) (effect_fits log e s st) l is)

-- the earlier section's acquire happens before the later one's
pub counted_earlier : CountedEarlier
counted_earlier limits log s l t p q w st hp hq le is =
    let x = (st.closed l).sound p hp in
    let y = (st.closed l).sound q hq in
    counted_before log t (s.strict.thread t.0) x.0 y.0 l x.1 x.2 y.1 y.2 p q (orderly limits log w)
    (st.strict.thread t) x.3 y.3 (release_order log x.0 y.0 l x.1 x.2 y.1 y.2 p q x.3 y.3 le) is

-- a thread's strict clock never goes down
pub strict_grows : (limits : Limits) (log : List Event) (e : Event) (s : State) (t u : ThreadId)
    → WellFormed limits (log ++ e ∷ []) → StandsFor log s
    → s.strict.thread t.0 u.0 ≤ (after e s).strict.thread t.0 u.0
strict_grows limits log e s t u w st =
    counts_grow log e u (Past log (Strict log) t) (Past (log ++ e ∷ []) (Strict (log ++ e ∷ [])) t)
    (s.strict.thread t.0 u.0) ((after e s).strict.thread t.0 u.0)
    (past_longer log e t)
    (λ i p. (let lt : p.0 < length log = source_within log t p.0 p.1 in
    let f : i < p.0 = strict_forward p.2 in
    omega arith))
    (st.strict.thread t u) ((step_stands limits log e s w st).strict.thread t u)

-- the law: after its latest event a thread's strict row counts what strictly precedes the event
pub strict_is_latest : StrictIsLatest
strict_is_latest limits log s j t u w st o last =
    past_latest log (Strict log) t u j (s.strict.thread t.0 u.0) (orderly limits log w)
    (λ i g p q. rule_c_right p (hb_of_po q)) o last (st.strict.thread t u)

-- the law: joined with the row of program order, it counts what is below the event
pub below_is_latest : BelowIsLatest
below_is_latest limits log s j n t u w st o last po =
    counts_union log u (λ i. Strict log i j) (λ i. Po log i j) (s.strict.thread t.0 u.0) n
    (strict_is_latest limits log s j t u w st o last) po
