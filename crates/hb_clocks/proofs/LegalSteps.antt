-- The step of a legal event keeps the meaning, and what a log gives in numbers alone.
use Rattle.std.proofs.Common.{◌≡◌, ℕ, ◌<◌, ◌+◌, List, [], ◌∷◌, ◌++◌, length, sym, ap, subst, ◌∙◌, inl, inr}
use Rattle.std.proofs.Common.{◌⊎◌, ◌↔◌}
use Rattle.event_core.specs.declared.ids.ThreadId.{ThreadId}
use Rattle.event_core.specs.declared.ids.LockId.{LockId}
use Rattle.event_core.specs.declared.events.Event.{Event}
use Rattle.event_core.specs.declared.events.Op.TheVariants.{Fork}
use Rattle.event_core.specs.declared.bounds.Limits.{Limits}
use Rattle.event_core.specs.Order.{Po, Hb, here}
use Rattle.event_core.specs.Orderly.{Orderly}
use Rattle.event_core.specs.Refusal.{WellFormed}
use Rattle.event_core.specs.Count.{events_of, Past, LockPast}
use Rattle.event_core.specs.Rows.{no_clock, with_row, to_child, Counted}
use Rattle.event_core.proofs.OrderProperties.{hb_forward, hb_trans}
use Rattle.event_core.proofs.CountedProperties.{counted_none, events_own, events_other}
use Rattle.event_core.proofs.RowsAfterProperties.{Leads, leads_cases, led_row, other_row, rows_stand}
use Rattle.event_core.proofs.OrderlyProperties.{orderly}
use Rattle.event_core.proofs.RelationsStay.{longer, back, hb_too}
use Rattle.event_core.proofs.EffectProperties.{Fits, fits}
use Rattle.hb_clocks.specs.State.{HbState, effect, without_locks, po_row, hb_row, after}
use Rattle.hb_clocks.specs.Standing.{StandsFor, StepStands}
use Rattle.event_core.proofs.ClockAfterProperties.{clock_counted, own_row, forked_none}
use Rattle.event_core.proofs.DepthAfterProperties.{depths_stand}
use Rattle.event_core.proofs.HbSteps.{hb_to, hb_from}
use Rattle.hb_clocks.proofs.PoSteps.{NoLock, po_to, po_from, led_counts, other_counts}

module _ (limits : Limits) (log : List Event) (e : Event) (w : WellFormed limits (log ++ e ∷ []))
    (s : HbState) (st : StandsFor log s) where
  ord : Orderly (log ++ e ∷ [])
  ord = orderly limits (log ++ e ∷ []) w

  fit : Fits log e (effect e s)
  fit = fits log e (s.depth e.thread.0) (λ l. st.depths e.thread l)

  same : (i j : ℕ) → j < length log → Hb log i j ↔ Hb (log ++ e ∷ []) i j
  same i j lt = (hb_too (longer log (e ∷ [])) lt, hb_too (back (longer log (e ∷ []))) lt)

  -- the rows of threads after the event
  module _ (g : ℕ → ℕ) (f : ℕ → ℕ → ℕ) where
    abbrev new_rows : ℕ → ℕ → ℕ
    new_rows = to_child (effect e s) g (with_row e.thread.0 g f)

    led : (t : ThreadId) → Leads e t → new_rows t.0 ≡ g
    led t l = led_row limits log e w ord (Hb log) (Hb (log ++ e ∷ [])) same (λ i j h. hb_forward h)
        (λ i h j a b. hb_trans a b) (effect e s) fit t g f l

    other : (t : ThreadId) → (Leads e t → ⊥) → new_rows t.0 ≡ f t.0
    other t n = other_row limits log e w ord (Hb log) (Hb (log ++ e ∷ [])) same (λ i j h. hb_forward h)
        (λ i h j a b. hb_trans a b) (effect e s) fit t g f n

    -- a thread's own number is that of its events
    own_stands : ((t : ThreadId) → f t.0 t.0 ≡ events_of log t) → g e.thread.0 ≡ events_of log e.thread + 1
        → ((t : ThreadId) → e.op ≡ Fork t → g t.0 ≡ events_of (log ++ e ∷ []) t)
        → (t : ThreadId) → new_rows t.0 t.0 ≡ events_of (log ++ e ∷ []) t
    unfolding Leads
    own_stands own mine forked t = go (leads_cases e t)
      where
        go : Leads e t ⊎ (Leads e t → ⊥) → new_rows t.0 t.0 ≡ events_of (log ++ e ∷ []) t
        go (inl (inl a)) =
            ap (λ r. r t.0) (led t (inl a))
            ∙ subst (λ (v : ThreadId). g v.0 ≡ events_of (log ++ e ∷ []) v) a (mine ∙ sym (events_own log e))
        go (inl (inr o)) = ap (λ r. r t.0) (led t (inr o)) ∙ forked t o
        go (inr n) = ap (λ r. r t.0) (other t n) ∙ own t ∙ sym (events_other log e t (λ a. n (inl a)))

  po_locks : (l : LockId) → Counted log (NoLock log e l) no_clock
  po_locks l = counted_none log (λ i. ⊥) (λ i b. b)

  po_clock : Counted (log ++ e ∷ []) (λ i. Po (log ++ e ∷ []) i (length log)) (po_row e s)
  po_clock = clock_counted log (Po log) (NoLock log e) (without_locks s.po) st.po po_locks st.po_own e
      (effect e s) (Po (log ++ e ∷ []))
      (λ i. here) here (po_to log e (effect e s) fit) (po_from log e (effect e s) fit)

  hb_clock : Counted (log ++ e ∷ []) (λ i. Hb (log ++ e ∷ []) i (length log)) (hb_row e s)
  hb_clock = clock_counted log (Hb log) (LockPast log (Hb log)) s.hb st.hb.thread st.hb.lock st.hb_own e
      (effect e s) (Hb (log ++ e ∷ []))
      (λ i. here) here (hb_to log e (effect e s) fit) (hb_from log e (effect e s) fit)

  po_stands : (t : ThreadId) → Counted (log ++ e ∷ []) (Past (log ++ e ∷ []) (Po (log ++ e ∷ [])) t)
      (new_rows (po_row e s) s.po t.0)
  po_stands t = go (leads_cases e t)
    where
      Goal : (ℕ → ℕ) → Type 0
      Goal = Counted (log ++ e ∷ []) (Past (log ++ e ∷ []) (Po (log ++ e ∷ [])) t)

      go : Leads e t ⊎ (Leads e t → ⊥) → Goal (new_rows (po_row e s) s.po t.0)
      go (inl l) = subst Goal (sym (led (po_row e s) s.po t l))
          (led_counts log e limits w ord t (po_row e s) l po_clock)
      go (inr n) = subst Goal (sym (other (po_row e s) s.po t n))
          (other_counts log e t (s.po t.0) n (st.po t))

  pub grown_stands : StandsFor (log ++ e ∷ []) (after e s)
  grown_stands = record {
    po = po_stands;
    hb = rows_stand limits log e w ord (Hb log) (Hb (log ++ e ∷ [])) same (λ i j h. hb_forward h)
        (λ i g j a b. hb_trans a b)
        (effect e s) fit (hb_row e s) s.hb st.hb hb_clock;
    po_own = own_stands (po_row e s) s.po st.po_own
        (own_row log (Po log) (NoLock log e) (without_locks s.po) st.po po_locks st.po_own e.thread
        (effect e s))
        (forked_none log (Po log) (NoLock log e) (without_locks s.po) st.po po_locks st.po_own e (effect e s)
        (Po (log ++ e ∷ []))
        (λ i. here) here (po_to log e (effect e s) fit) (po_from log e (effect e s) fit) ord);
    hb_own = own_stands (hb_row e s) s.hb.thread st.hb_own
        (own_row log (Hb log) (LockPast log (Hb log)) s.hb st.hb.thread st.hb.lock st.hb_own e.thread
        (effect e s))
        (forked_none log (Hb log) (LockPast log (Hb log)) s.hb st.hb.thread st.hb.lock st.hb_own e
        (effect e s) (Hb (log ++ e ∷ []))
        (λ i. here) here (hb_to log e (effect e s) fit) (hb_from log e (effect e s) fit) ord);
    depths = depths_stand log e ord s.depth st.depths;
  }

-- the law: the clocks after a legal event stand for the longer log
pub step_stands : StepStands
step_stands limits log e s w st = grown_stands limits log e w s st
