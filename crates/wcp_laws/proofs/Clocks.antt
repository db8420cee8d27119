-- The clocks of an event, and the rows of clocks after it.
use Rattle.std.proofs.Common.{◌≡◌, ℕ, ◌<◌, ◌+◌, List, [], ◌∷◌, ◌++◌, length, sym, ap, subst, ◌∙◌, arith}
use Rattle.std.proofs.Common.{◌⊎◌, ◌↔◌}
use mathlib.Core.Logic.{inl, inr}
use Rattle.event_core.specs.declared.bounds.Limits.{Limits}
use Rattle.event_core.specs.declared.events.Event.{Event}
use Rattle.event_core.specs.declared.events.Op.TheVariants.{Fork}
use Rattle.event_core.specs.declared.ids.ThreadId.{ThreadId}
use Rattle.event_core.specs.Count.{events_of, Past, LockPast}
use Rattle.event_core.specs.Order.{Hb, here}
use Rattle.event_core.specs.Orderly.{Orderly}
use Rattle.event_core.specs.Refusal.{WellFormed}
use Rattle.event_core.specs.Rows.{brought, Counted, RowsStand, rows_after}
use Rattle.event_core.specs.Effect.{Effect, Accesses, Opens, Closes, Forks, Joins, Inner}
use Rattle.event_core.specs.Wcp.{Strict, rule_c_right}
use Rattle.event_core.proofs.OrderProperties.{hb_forward, hb_trans}
use Rattle.event_core.proofs.CountedProperties.{counted_join, counted_longer, events_own, events_other}
use Rattle.event_core.proofs.RowsAfterProperties.{Leads, leads_cases, rows_stand, led_row, other_row}
use Rattle.event_core.proofs.OrderlyProperties.{orderly}
use Rattle.event_core.proofs.RecurrenceProperties.{strict_forward}
use Rattle.event_core.proofs.RelationsStay.{longer, back, hb_too, strict_too}
use Rattle.event_core.proofs.EffectProperties.{Fits, fits}
use Rattle.event_core.proofs.ClockAfterProperties.{Brings, counted_brings, clock_counted, own_row}
use Rattle.event_core.proofs.ClockAfterProperties.{forked_none}
use Rattle.event_core.proofs.HbSteps.{hb_to, hb_from}
use Rattle.wcp_laws.specs.Standing.{StandsFor}
use Rattle.wcp_laws.specs.State.{State}
use Rattle.wcp_laws.specs.Step.{effect, extra, hb_row, strict_row}
use Rattle.wcp_laws.proofs.ClosedSections.{counted_behind}
use Rattle.wcp_laws.proofs.SourcesProperties.{counted_under}
use Rattle.wcp_laws.proofs.StrictSteps.{Adds, strict_to, strict_from}

-- the effect that the numbers give fits the event
pub effect_fits : (log : List Event) (e : Event) (s : State) → StandsFor log s → Fits log e (effect e s)
effect_fits log e s st = fits log e (s.depth e.thread.0) (λ l. st.depths e.thread l)

counted_brought : (log : List Event) (s : State) → StandsFor log s → (k : Effect)
    → Counted log (Brings log (Strict log) (LockPast log (Strict log)) k) (brought k s.strict)
counted_brought log s st =
    counted_brings log (Strict log) (LockPast log (Strict log)) s.strict st.strict.thread st.strict.lock

-- what an event adds to the strict clock of its thread is counted
counted_adds : (log : List Event) (s : State) → StandsFor log s → (t : ThreadId) (k : Effect)
    → Counted log (Adds log t k) (extra t k s)
counted_adds log s st t (Accesses x k) = counted_under log s st x k t
counted_adds log s st t (Closes l) = counted_behind log s st t l
counted_adds log s st t (Opens l) = counted_brought log s st (Opens l)
counted_adds log s st t (Joins u) = counted_brought log s st (Joins u)
counted_adds log s st t (Forks u) = counted_brought log s st (Forks u)
counted_adds log s st t Inner = counted_brought log s st Inner

module _ (log : List Event) (e : Event) (s : State) (st : StandsFor log s) where
  fit : Fits log e (effect e s)
  fit = effect_fits log e s st

  -- the event's clock of happens-before counts what is below it
  pub hb_counted : Counted (log ++ e ∷ []) (λ i. Hb (log ++ e ∷ []) i (length log)) (hb_row e s)
  hb_counted = clock_counted log (Hb log) (LockPast log (Hb log)) s.hb st.hb.thread st.hb.lock st.own e
      (effect e s) (Hb (log ++ e ∷ []))
      (λ i. here) here (hb_to log e (effect e s) fit) (hb_from log e (effect e s) fit)

  -- its own number is that of its thread's events
  pub own_clock : hb_row e s e.thread.0 ≡ events_of log e.thread + 1
  own_clock = own_row log (Hb log) (LockPast log (Hb log)) s.hb st.hb.thread st.hb.lock st.own e.thread
      (effect e s)

  -- of a thread that it forks there is no event
  pub forked_clock : Orderly (log ++ e ∷ []) → (t : ThreadId) → e.op ≡ Fork t
      → hb_row e s t.0 ≡ events_of (log ++ e ∷ []) t
  forked_clock ord t o =
      forked_none log (Hb log) (LockPast log (Hb log)) s.hb st.hb.thread st.hb.lock st.own e (effect e s)
      (Hb (log ++ e ∷ []))
      (λ i. here) here (hb_to log e (effect e s) fit) (hb_from log e (effect e s) fit) ord t o

module _ (limits : Limits) (log : List Event) (e : Event) (s : State)
    (w : WellFormed limits (log ++ e ∷ []))
    (st : StandsFor log s) where
  ord : Orderly (log ++ e ∷ [])
  ord = orderly limits (log ++ e ∷ []) w

  same_hb : (i j : ℕ) → j < length log → Hb log i j ↔ Hb (log ++ e ∷ []) i j
  same_hb i j lt = (hb_too (longer log (e ∷ [])) lt, hb_too (back (longer log (e ∷ []))) lt)

  same_strict : (i j : ℕ) → j < length log → Strict log i j ↔ Strict (log ++ e ∷ []) i j
  same_strict i j lt = (strict_too (longer log (e ∷ [])) lt, strict_too (back (longer log (e ∷ []))) lt)

  -- the event's strict clock counts what strictly precedes it
  strict_counted : Counted (log ++ e ∷ []) (λ i. Strict (log ++ e ∷ []) i (length log)) (strict_row e s)
  strict_counted =
      counted_longer log e (λ i. Past log (Strict log) e.thread i ⊎ Adds log e.thread (effect e s) i)
      (λ i. Strict (log ++ e ∷ []) i (length log)) (strict_row e s)
      (strict_from log e ord (effect e s) (effect_fits log e s st))
      (λ i lt p. strict_to log e ord (effect e s) (effect_fits log e s st) i p) (λ i p. strict_forward p)
      (counted_join log (Past log (Strict log) e.thread) (Adds log e.thread (effect e s))
      (s.strict.thread e.thread.0) (extra e.thread (effect e s) s)
      (st.strict.thread e.thread) (counted_adds log s st e.thread (effect e s)))

  -- the rows of happens-before after the event are those of the longer log
  pub hb_stands : RowsStand (log ++ e ∷ []) (Hb (log ++ e ∷ []))
      (rows_after e.thread (effect e s) (hb_row e s) s.hb)
  hb_stands =
      rows_stand limits log e w ord (Hb log) (Hb (log ++ e ∷ [])) same_hb (λ i j h. hb_forward h)
      (λ i g j a b. hb_trans a b) (effect e s) (effect_fits log e s st) (hb_row e s) s.hb st.hb
      (hb_counted log e s st)

  -- the strict rows after the event are those of the longer log
  pub strict_stands : RowsStand (log ++ e ∷ []) (Strict (log ++ e ∷ []))
      (rows_after e.thread (effect e s) (strict_row e s) s.strict)
  strict_stands =
      rows_stand limits log e w ord (Strict log) (Strict (log ++ e ∷ [])) same_strict
      (λ i j h. (let lt : i < j = strict_forward h in omega arith))
      (λ i g j a b. rule_c_right a b)
      (effect e s) (effect_fits log e s st) (strict_row e s) s.strict st.strict strict_counted

  -- a thread's own number is that of its events
  module _ (t : ThreadId) where
    led : Leads e t → (rows_after e.thread (effect e s) (hb_row e s) s.hb).thread t.0 ≡ hb_row e s
    led = led_row limits log e w ord (Hb log) (Hb (log ++ e ∷ [])) same_hb (λ i j h. hb_forward h)
        (λ i g j a b. hb_trans a b) (effect e s) (effect_fits log e s st) t (hb_row e s) s.hb.thread

    other : (Leads e t → ⊥)
        → (rows_after e.thread (effect e s) (hb_row e s) s.hb).thread t.0 ≡ s.hb.thread t.0
    other = other_row limits log e w ord (Hb log) (Hb (log ++ e ∷ [])) same_hb (λ i j h. hb_forward h)
        (λ i g j a b. hb_trans a b) (effect e s) (effect_fits log e s st) t (hb_row e s) s.hb.thread

    -- each thread's own number is the number of its events in the longer log
    pub own_stands : (rows_after e.thread (effect e s) (hb_row e s) s.hb).thread t.0 t.0
        ≡ events_of (log ++ e ∷ []) t
    unfolding Leads
    own_stands = go (leads_cases e t)
      where
        mine : hb_row e s e.thread.0 ≡ events_of (log ++ e ∷ []) e.thread
        mine = own_clock log e s st ∙ sym (events_own log e)

        go : Leads e t ⊎ (Leads e t → ⊥)
            → (rows_after e.thread (effect e s) (hb_row e s) s.hb).thread t.0 t.0
            ≡ events_of (log ++ e ∷ []) t
        go (inl (inl a)) =
            ap (λ (row : ℕ → ℕ). row t.0) (led (inl a))
            ∙ subst (λ (v : ThreadId). hb_row e s v.0 ≡ events_of (log ++ e ∷ []) v) a mine
        go (inl (inr o)) =
            ap (λ (row : ℕ → ℕ). row t.0) (led (inr o)) ∙ forked_clock log e s st ord t o
        go (inr n) =
            ap (λ (row : ℕ → ℕ). row t.0) (other n) ∙ st.own t ∙ sym (events_other log e t (λ a. n (inl a)))
