-- Passes of which any two meet: what one of them has seen begins with what each has seen.
use Rattle.std.proofs.Common.{◌≡◌, ℕ, suc, List, [], ◌∷◌, Some, slice_get, refl, sym}
use Rattle.std.proofs.Common.{subst}
use Rattle.std.specs.List.{AllByRecursion}
use mathlib.Core.Logic.{inl, inr}
use mathlib.Core.List.{IsPrefix}
use Rattle.event_core.specs.declared.bounds.Limits.{Limits}
use Rattle.event_core.specs.declared.steps.Step.{Step}
use Rattle.event_core.specs.Steps.{log_of, Formed}
use Rattle.log_pass.specs.declared.views.PassView.{PassView}
use Rattle.log_pass.specs.Kinds.{Met}
use Rattle.log_pass.specs.Passes.{seeing, IsPass}
use Rattle.log_pass.proofs.Prefixes.{prefix_self, prefix_trans}
use Rattle.live_monitor.proofs.LogOfProperties.{log_begins}
use Rattle.one_log.specs.Laws.{Meet, AllMeet, StandInOneLog}
use Rattle.one_log.specs.OneLog.{StandsAmong}
use Rattle.one_log.proofs.Beginnings.{all_both, all_at, one_list}
use Rattle.one_log.proofs.Places.{have_places}

-- what a pass that has seen these steps has of its thread
pass_among : (m : Limits) (steps : List Step) (p : PassView) → IsPass m (seeing steps p)
    → IsPrefix p.seen steps → StandsAmong steps p
pass_among m steps p is begins = record {
  begins = begins;
  own = is.own;
  in_log = record { begins = log_begins p.seen steps begins; own = is.own_events };
}

itself_among : (m : Limits) (p : PassView) → IsPass m p → StandsAmong p.seen p
itself_among m p is = pass_among m p.seen p is (prefix_self p.seen)

-- the first of two passes that meet, where the second has seen as much
first_among : (m : Limits) (p q : PassView) → Meet m p q → IsPrefix p.seen q.seen → StandsAmong q.seen p
first_among m p q meet begins =
    let first = meet.0 in
    let met : Met m p q meet.0 meet.1 = meet.2 in
    let seen : first.seen ≡ q.seen = elim met.longer [
      | inr e ↦ e
      | inl e ↦ one_list first.seen q.seen (subst (λ l. IsPrefix l q.seen) (sym e) begins) met.second_begins
    ] in
    let is : IsPass m (seeing first.seen p) = subst (IsPass m) met.first_same met.first_is in
    pass_among m q.seen p (subst (λ l. IsPass m (seeing l p)) seen is) begins

-- and the second, where the first has seen as much
second_among : (m : Limits) (p q : PassView) → Meet m p q → IsPrefix q.seen p.seen → StandsAmong p.seen q
second_among m p q meet begins =
    let first = meet.0 in
    let met : Met m p q meet.0 meet.1 = meet.2 in
    let seen : first.seen ≡ p.seen = elim met.longer [
      | inl e ↦ e
      | inr e ↦ one_list first.seen p.seen (subst (λ l. IsPrefix l p.seen) (sym e) begins) met.first_begins
    ] in
    let is : IsPass m (seeing first.seen q) = subst (IsPass m) met.second_same met.second_is in
    pass_among m p.seen q (subst (λ l. IsPass m (seeing l q)) seen is) begins

-- one of the passes, among whose steps all stand
record Longest (m : Limits) (passes : List PassView) : Type 0 where
  pub pass : PassView
  pub index : ℕ
  pub at : slice_get passes index ≡ Some pass
  pub is : IsPass m pass
  pub stand : AllByRecursion (StandsAmong pass.seen) passes

longest : (m : Limits) (p : PassView) (ps : List PassView) → AllByRecursion (IsPass m) (p ∷ ps)
    → AllMeet m (p ∷ ps) → Longest m (p ∷ ps)
longest m p [] is meet =
    record { pass = p; index = 0; at = refl; is = is.0; stand = (itself_among m p is.0, tt) }
longest m p (q ∷ qs) is meet = go (longest m q qs is.1 meet.1)
  where
    go : Longest m (q ∷ qs) → Longest m (p ∷ q ∷ qs)
    go l =
        let with_p : Meet m p l.pass = all_at (Meet m p) (q ∷ qs) l.index l.pass meet.0 l.at in
        elim with_p.2.one [
          | inl shorter ↦ record {
            pass = l.pass;
            index = suc l.index;
            at = l.at;
            is = l.is;
            stand = (first_among m p l.pass with_p shorter, l.stand);
          }
          | inr longer ↦ record {
            pass = p;
            index = 0;
            at = refl;
            is = is.0;
            stand = (
              itself_among m p is.0,
              all_both (Meet m p) (StandsAmong l.pass.seen) (StandsAmong p.seen) (q ∷ qs)
                  (λ r meets stands. second_among m p r meets
                  (prefix_trans r.seen l.pass.seen p.seen stands.begins longer)) meet.0 l.stand,
            );
          }
        ]

-- so they stand in one log
pub met_passes : (m : Limits) (passes : List PassView) → AllByRecursion (IsPass m) passes → AllMeet m passes
    → StandInOneLog m passes
met_passes m [] is meet = record {
  steps = [];
  formed = none;
  stand = tt;
  replies = have_places m [];
}
  where
    none : Formed m []
    none = record {
      are_steps = tt;
      well_formed = record { legal = λ i e at. absurd (cc) };
    }
met_passes m (p ∷ ps) is meet =
    let l = longest m p ps is meet in
    record {
      steps = l.pass.seen;
      formed = l.is.formed;
      stand = l.stand;
      replies = have_places m (log_of l.pass.seen);
    }
