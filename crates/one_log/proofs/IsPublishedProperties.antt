-- The rule of the published word, over all passes at the table.
use Rattle.std.proofs.Common.{◌≡◌, ℕ, suc, ◌+◌, List, [], ◌∷◌, ◌++◌, length, refl, ap, ◌∙◌}
use Rattle.std.proofs.Common.{arith, length-append}
use Rattle.std.specs.List.{AllByRecursion}
use mathlib.Core.Option.{some}
use lib.ListN.{get_elem?}
use Rattle.atomic_table.specs.Table.{State}
use Rattle.event_core.specs.declared.ids.ThreadId.{ThreadId}
use Rattle.event_core.specs.declared.bounds.Limits.{Limits}
use Rattle.event_core.specs.declared.steps.Step.{Step}
use Rattle.event_core.specs.Steps.{log_of, Formed}
use Rattle.event_core.proofs.StepsProperties.{own_logs}
use Rattle.log_pass.specs.declared.views.PassView.{PassView}
use Rattle.log_pass.specs.declared.views.SeatView.{SeatView}
use Rattle.log_pass.specs.Rule.{Fits, Sees, IsPublished}
use Rattle.log_pass.specs.Views.{claims, claims_of, keepers, total}
use Rattle.live_monitor.proofs.LogOfProperties.{log_begins}
use Rattle.one_log.specs.Joined.{IsJoinedIntoOne}
use Rattle.one_log.specs.Laws.{passes_at, lists_at, IsOneLog}
use Rattle.one_log.specs.OneLog.{StandsAmong}
use Rattle.one_log.proofs.Beginnings.{all_append, all_map, all_at}
use Rattle.one_log.proofs.IsJoinedIntoProperties.{stands_among}
use Rattle.one_log.proofs.Places.{have_places}

abbrev EachSees : List Step → List SeatView → Type 0
EachSees all views = (seat : ℕ) (v : SeatView) → get_elem? views seat ≡ some v → Sees all v

passes_fit : (all : List Step) (views : List SeatView) → EachSees all views
    → AllByRecursion (Fits all) (passes_at views)
passes_fit all [] h = tt
passes_fit all (v ∷ vs) h =
    all_append (Fits all) v.passes (passes_at vs) (h 0 v refl).passes
    (passes_fit all vs (λ i w at. h (suc i) w at))

lists_are : (all : List Step) (views : List SeatView) → EachSees all views
    → AllByRecursion (λ ds. ds ≡ all) (lists_at views)
lists_are all [] h = tt
lists_are all (v ∷ vs) h =
    all_append (λ ds. ds ≡ all) v.kept (lists_at vs) (h 0 v refl).kept
    (lists_are all vs (λ i w at. h (suc i) w at))

lists_counted : (views : List SeatView) → length (lists_at views) ≡ total keepers views
lists_counted [] = refl
lists_counted (v ∷ vs) =
    length-append v.kept (lists_at vs) ∙ ap (λ n. length v.kept + n) (lists_counted vs)

one_of : (all : List Step) (lists : List (List Step)) → length lists ≡ 1
    → AllByRecursion (λ ds. ds ≡ all) lists → lists ≡ all ∷ []
one_of all [] e a = absurd (omega (arith, e))
one_of all (ds ∷ []) e a = ap (λ l. l ∷ []) a.0
one_of all (ds ∷ es ∷ more) e a = absurd (let n : length (ds ∷ es ∷ more) ≡ 1 = e in omega (arith, n))

claims_append : (t : ThreadId) (ps qs : List PassView)
    → claims_of t (ps ++ qs) ≡ claims_of t ps + claims_of t qs
claims_append t [] qs = omega arith
claims_append t (p ∷ ps) qs = let r = claims_append t ps qs in omega (arith, r)

claims_counted : (t : ThreadId) (views : List SeatView)
    → claims_of t (passes_at views) ≡ total (claims t) views
claims_counted t [] = refl
claims_counted t (v ∷ vs) =
    claims_append t v.passes (passes_at vs) ∙ ap (λ n. claims_of t v.passes + n) (claims_counted t vs)

fits_among : (m : Limits) (all : List Step) (p : PassView) → Formed m all → Fits all p → StandsAmong all p
fits_among m all p formed fits = record {
  begins = fits.begins;
  own = fits.own_all;
  in_log = record {
    begins = log_begins p.seen all fits.begins;
    own = ap log_of fits.own_all ∙ own_logs p.thread all formed.are_steps;
  };
}

joined_among : (m : Limits) (all : List Step) (passes : List PassView) (child : PassView) → Formed m all
    → AllByRecursion (Fits all) passes → IsJoinedIntoOne passes child → StandsAmong all child
joined_among m all passes child formed fits j =
    let of : Fits all j.pass = all_at (Fits all) passes j.index j.pass fits j.at in
    stands_among m all child j.pass formed of.begins j.joined

-- so all passes stand in one log
pub one_log : (m : Limits) (s : State (Unit {0}) SeatView) (joined : List PassView) → IsPublished m s
    → AllByRecursion (IsJoinedIntoOne (passes_at s.views)) joined → IsOneLog m s joined
one_log m s joined r into =
    let formed = r.views.formed in
    let fits = passes_fit r.all s.views r.views.each in
    let at_table : AllByRecursion (StandsAmong r.all) (passes_at s.views)
    = all_map (Fits r.all) (StandsAmong r.all) (passes_at s.views)
    (λ p f. fits_among m r.all p formed f) fits in
    let others : AllByRecursion (StandsAmong r.all) joined
    = all_map (IsJoinedIntoOne (passes_at s.views)) (StandsAmong r.all) joined
    (λ child j. joined_among m r.all (passes_at s.views) child formed fits j) into in
    record {
      all = record {
        steps = r.all;
        formed = formed;
        stand = all_append (StandsAmong r.all) (passes_at s.views) joined at_table others;
        replies = have_places m (log_of r.all);
      };
      kept = one_of r.all (lists_at s.views) (lists_counted s.views ∙ r.views.keeper)
          (lists_are r.all s.views r.views.each);
      word = r.word;
      apart = λ t. (
          let once = r.views.once t in
          let same = claims_counted t s.views in
          omega (arith, once, same));
    }
