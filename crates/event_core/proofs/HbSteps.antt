-- One step of the clocks of happens-before, as sets: what is below the event that a log grows by.
use Rattle.std.proofs.Common.{ℕ, ◌<◌, List, [], ◌∷◌, ◌++◌, length, arith, inl, inr, ◌⊎◌}
use Rattle.event_core.specs.declared.events.Event.{Event}
use Rattle.event_core.specs.Order.{Hb}
use Rattle.event_core.specs.Count.{Past, LockPast}
use Rattle.event_core.specs.Effect.{Effect}
use Rattle.event_core.specs.Newest.{itself, by_thread, by_join, by_lock}
use Rattle.event_core.proofs.HbNewProperties.{hb_new, new_hb}
use Rattle.event_core.proofs.EffectProperties.{Fits, opens, joins}
use Rattle.event_core.proofs.ClockAfterProperties.{Brings, join_brings, acquire_brings}

module _ (log : List Event) (e : Event) where
  -- what happens before the new event is in its thread's past or is brought
  pub hb_to : (k : Effect) → Fits log e k → (i : ℕ) → i < length log → Hb (log ++ e ∷ []) i (length log)
      → Past log (Hb log) e.thread i ⊎ Brings log (Hb log) (LockPast log (Hb log)) k i
  hb_to k f i lt h = elim (hb_new log e i h) [
    | itself is ↦ absurd (omega arith)
    | by_thread p ↦ inl p
    | by_join u o p ↦ inr (join_brings log e (Hb log) (LockPast log (Hb log)) u i k f o p)
    | by_lock l o z p ↦ inr (acquire_brings log e (Hb log) (LockPast log (Hb log)) l i k f o z p)
  ]

  -- the past of the event's thread, and what the event is brought, happen before the event
  pub hb_from : (k : Effect) → Fits log e k → (i : ℕ)
      → Past log (Hb log) e.thread i ⊎ Brings log (Hb log) (LockPast log (Hb log)) k i
      → Hb (log ++ e ∷ []) i (length log)
  hb_from k f i (inl p) = new_hb log e i (by_thread p)
  hb_from _ (joins u o) i (inr p) = new_hb log e i (by_join u o p)
  hb_from _ (opens l o d) i (inr p) = new_hb log e i (by_lock l o d p)
  hb_from _ f i (inr p) = absurd p
