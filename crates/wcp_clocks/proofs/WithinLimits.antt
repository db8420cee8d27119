-- What a legal event names is within the limits.
use Rattle.std.proofs.Common.{◌≡◌, ◌<◌, List, [], ◌∷◌, ◌++◌, true, false, nat_le, ap, subst, sym}
use Rattle.std.proofs.lemmas.Bool.{ltb-true, leb-false, not-false}
use Rattle.event_core.specs.declared.bounds.Limits.{Limits}
use Rattle.event_core.specs.declared.events.Event.{Event}
use Rattle.event_core.specs.declared.events.Op.{Op}
use Rattle.event_core.specs.declared.events.Op.TheVariants.{Acquire, Release, Fork, Join}
use Rattle.event_core.specs.declared.ids.LockId.{LockId}
use Rattle.event_core.specs.declared.replies.Refusal.TheVariants.{ThreadRange, TargetRange}
use Rattle.event_core.specs.Bounds.{Bounds}
use Rattle.event_core.specs.Refusal.{Legal, WellFormed, refusal, reasons, in_range}
use Rattle.event_core.specs.Effect.{Effect, Closes}
use Rattle.event_core.proofs.WellFormedProperties.{well_formed_last}
use Rattle.event_core.proofs.OrderlyProperties.{AllNone, all_none, legal_reasons, when_none}
use Rattle.event_core.proofs.EffectProperties.{Fits, closes}
use Rattle.wcp_laws.specs.State.{State}
use Rattle.wcp_laws.specs.Standing.{StandsFor as StateStandsFor}
use Rattle.wcp_laws.specs.Step.{effect}
use Rattle.wcp_clocks.specs.Parts.{NamesWithin, width_of, limits_of, IsWithin, Parts}
use Rattle.wcp_laws.proofs.Clocks.{effect_fits}

-- the thread of a legal event is within the limits
pub thread_within : (limits : Limits) (log : List Event) (e : Event) → WellFormed limits (log ++ e ∷ [])
    → e.thread.0 < limits.threads
unfolding refusal AllNone
thread_within limits log e w =
    let legal : Legal limits log e = well_formed_last limits log e w in
    let all : AllNone (reasons limits log legal.call)
    = all_none (reasons limits log legal.call) legal.allowed in
    let out : nat_le limits.threads legal.call.thread.0 ≡ false = when_none _ ThreadRange all.0 in
    subst (λ (x : Event). x.thread.0 < limits.threads) (sym legal.is)
    (leb-false limits.threads legal.call.thread.0 out)

-- so is what a legal event names
target_in_range : (limits : Limits) (log : List Event) (e : Event) → WellFormed limits (log ++ e ∷ [])
    → in_range limits e.op ≡ true
target_in_range limits log e w =
    not-false _ (when_none _ TargetRange
    (legal_reasons limits log e (well_formed_last limits log e w)).on_table)

-- a legal event names numbers within the limits of the clocks
pub within_where_legal : (limits : Limits) (log : List Event) (e : Event) (p : Parts)
    → WellFormed limits (log ++ e ∷ []) → width_of p ≡ limits.threads → limits_of p ≡ limits
    → IsWithin p e.thread e.op
within_where_legal limits log e p w width same = (
  subst (λ n. e.thread.0 < n) (sym width) (thread_within limits log e w),
  named e.op (target_in_range limits log e w),
)
  where
    locks : p.queues.limits.locks ≡ limits.locks
    locks = ap (λ (b : Bounds). b.locks) same

    named : (o : Op) → in_range limits o ≡ true → NamesWithin p o
    named (Acquire l) is = subst (λ n. l.0 < n) (sym locks) (ltb-true l.0 limits.locks is)
    named (Release l) is = subst (λ n. l.0 < n) (sym locks) (ltb-true l.0 limits.locks is)
    named (Fork u) is = subst (λ n. u.0 < n) (sym width) (ltb-true u.0 limits.threads is)
    named (Join u) is = subst (λ n. u.0 < n) (sym width) (ltb-true u.0 limits.threads is)
    named _ is = tt

-- the lock that is closed
pub closed_within : (limits : Limits) (log : List Event) (e : Event) (s : State)
    → WellFormed limits (log ++ e ∷ []) → StateStandsFor log s
    → (l : LockId) → effect e s ≡ Closes l → l.0 < limits.locks
closed_within limits log e s w st l is =
    ltb-true l.0 limits.locks
    (subst (λ (o : Op). in_range limits o ≡ true) (releases (effect e s) (effect_fits log e s st) is)
    (target_in_range limits log e w))
  where
    releases : (k : Effect) → Fits log e k → k ≡ Closes l → e.op ≡ Release l
    releases _ (closes m o d) q = let same : m ≡ l = cc in subst (λ (n : LockId). e.op ≡ Release n) same o
    releases _ _ q = cc
