-- A thread that has been joined has no more events.
use Rattle.std.proofs.Common.{◌≡◌, ℕ, ◌<◌, List, false, refl, sym, ap, subst, ◌∙◌, take}
use Rattle.std.proofs.lemmas.Bool.{cases_order, eq-eqb, both_ways}
use Rattle.std.proofs.lemmas.Map.Keys.{any_passes_from_place}
use Rattle.std.specs.List.{list_any}
use mathlib.Core.Logic.{inl, inr}
use Rattle.event_core.proofs.Words.{ThreadId, Event, Join, Limits, Ended, SelfTarget}
use Rattle.event_core.specs.Log.{Does, Of}
use Rattle.event_core.specs.Refusal.{joins, op_joins, WellFormed}
use Rattle.event_core.proofs.LogProperties.{of_does, of_one}
use Rattle.event_core.proofs.OrderlyProperties.{legal_reasons, when_none, reasons_at, at_take}

-- each event of a thread comes before the thread's join
pub ended_rest : (m : Limits) (log : List Event) (u w : ThreadId) (j k : ℕ) → WellFormed m log
    → Does log j w (Join u) → Of log k u → k < j
ended_rest m log u w j k f d o = elim (cases_order k j) [
  | inl same ↦ absurd (not_self (of_one o (subst (λ i. Of log i w) (sym same) (of_does d))))
  | inr a ↦ elim a [ inl lt ↦ lt | inr gt ↦ absurd (later gt) ]
]
  where
    not_self : u ≡ w → ⊥
    not_self same =
        both_ways _ (when_none _ SelfTarget (reasons_at m log j w (Join u) f d).no_self)
        (eq-eqb u.0 w.0 (ap (λ (t : ThreadId). t.0) same))

    later : j < k → ⊥
    later lt =
        both_ways _
        (subst (λ t. list_any (joins t) (take k log) ≡ false) o.thread
        (when_none _ Ended (legal_reasons m (take k log) o.event (f.legal k o.event o.at)).not_ended))
        (any_passes_from_place (joins u) (take k log) j d.event (at_take log j k d.event lt d.at)
        (ap (op_joins u) d.does ∙ eq-eqb u.0 u.0 refl))
