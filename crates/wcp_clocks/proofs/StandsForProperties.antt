-- Clocks that stand for a log stand for the longer one after a step.
use Rattle.std.proofs.Common.{◌≡◌, ℕ, List, [], ◌∷◌, ◌++◌, sym, subst}
use Rattle.std.specs.List.{IsDistinct}
use Rattle.event_core.specs.declared.bounds.Limits.{Limits}
use Rattle.event_core.specs.declared.events.Event.{Event}
use Rattle.event_core.specs.Refusal.{WellFormed}
use Rattle.hb_clocks.specs.State as hb
use Rattle.hb_clocks.specs.Standing as hb_stands
use Rattle.hb_clocks.proofs.StandsForProperties as hb_conditions
use Rattle.hb_clocks.proofs.LegalSteps as hb_steps
use Rattle.wcp_laws.specs.State.{State, empty}
use Rattle.wcp_laws.specs.Step.{effect, after}
use Rattle.wcp_laws.specs.Standing.{StandsFor as StateStandsFor}
use Rattle.wcp_laws.specs.Conditions.{found_at}
use Rattle.wcp_laws.specs.Found.{FoundFits}
use Rattle.wcp_laws.proofs.EmptyState as laws_empty
use Rattle.wcp_laws.proofs.LegalSteps as laws_steps
use Rattle.wcp_laws.proofs.FoundProperties.{nothing_found_fits, found_step}
use Rattle.wcp_clocks.specs.Parts.{Parts, hb_of, state_of, found_in}
use Rattle.wcp_clocks.specs.Standing.{StandsFor, SameStand, AreDistinct}
use Rattle.wcp_clocks.proofs.HeldLocks.{distinct_step}

-- what a log's numbers are stands for it, by whichever name
renamed : (log : List Event) (p : Parts) (h : hb.HbState) (s : State) (f : ℕ → ℕ → ℕ)
    → hb_of p ≡ h → state_of p ≡ s → found_in p ≡ f
    → hb_stands.StandsFor log h → StateStandsFor log s → FoundFits log s f → AreDistinct s.held
    → StandsFor log p
renamed log p h s f is_h is_s is_f stands_h stands_s stands_f distinct = record {
  hb = subst (hb_stands.StandsFor log) (sym is_h) stands_h;
  strict = subst (StateStandsFor log) (sym is_s) stands_s;
  found = subst (λ (x : State). FoundFits log x (found_in p)) (sym is_s)
      (subst (FoundFits log s) (sym is_f) stands_f);
  distinct = subst (λ (x : State). AreDistinct x.held) (sym is_s) distinct;
}

-- parts without numbers stand for the empty log
pub empty_stands : (p : Parts) → state_of p ≡ empty → hb_of p ≡ hb.empty → found_in p ≡ (λ _ _. 0)
    → StandsFor [] p
unfolding IsDistinct
empty_stands p is_s is_h is_f =
    renamed [] p hb.empty empty (λ _ _. 0) is_h is_s is_f hb_conditions.empty_stands laws_empty.empty_stands
    nothing_found_fits (λ t. tt)

-- the law: parts with the same numbers stand for the same log
pub same_stand : SameStand
same_stand log old new same st =
    renamed log new (hb_of old) (state_of old) (found_in old) same.hb same.state same.found st.hb st.strict
    st.found st.distinct

-- the numbers after a legal event stand for the longer log
pub step_stands : (limits : Limits) (log : List Event) (e : Event) (old new : Parts)
    → WellFormed limits (log ++ e ∷ []) → hb_of new ≡ hb.after e (hb_of old)
    → state_of new ≡ after e (state_of old)
    → found_in new ≡ found_at e.thread (effect e (state_of old)) (state_of old) (found_in old)
    → StandsFor log old → StandsFor (log ++ e ∷ []) new
step_stands limits log e old new w is_h is_s is_f st =
    renamed (log ++ e ∷ []) new (hb.after e (hb_of old)) (after e (state_of old))
    (found_at e.thread (effect e (state_of old)) (state_of old) (found_in old)) is_h is_s is_f
    (hb_steps.step_stands limits log e (hb_of old) w st.hb)
    (laws_steps.step_stands limits log e (state_of old) w st.strict)
    (found_step limits log e (state_of old) (found_in old) w st.strict st.found)
    (distinct_step log e (state_of old) st.strict st.distinct)
