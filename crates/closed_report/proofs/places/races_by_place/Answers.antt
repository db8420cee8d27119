use Rattle.std.proofs.Common.{◌≡◌, List, [], rules, subst, arith}
use Rattle.std.proofs.lemmas.List.{take_all}
use Rattle.verdict_list.specs.declared.verdicts.Race.{Race}
use Rattle.closed_report.specs.Places.{AreByPlace}
use Rattle.closed_report.proofs.PlacesProperties.{added, few, none_yet, rises}
use Rattle.closed_report.proofs.places.races_by_place.Goals as goal

pub loop-race-init : goal.loop-race-init
loop-race-init c =
    let none : c.new-found.result.items ≡ [] = search rules in
    none_yet c.args.closed.now.log c.new-found.result.items none

pub add_race-requires : goal.add_race-requires
add_race-requires c = record {
  few = λ i q at.
      let le = few c.args.closed.now.log c.races-race-items.result.now c.loop-race.race-index
      c.loop-race.found.items i q c.loop-race.invariant at in
      let within = c.loop-race-test.true in
      omega arith;
}

pub loop-race-preserved : goal.loop-race-preserved
loop-race-preserved c =
    let races = c.races-race-items.result.now in
    added races c.loop-race.race-index _ c.loop-race-test.true
    (rises races c.verdicts.result.now.verdicts c.races-race-items.ensures)
    c.loop-race.invariant c.log-log.ensures.log c.place_of.ensures c.in_ok-add_race.ensures.ok

pub returns : goal.returns
returns c =
    let races = c.races-race-items.result.now in
    record {
      races = races;
      are = record {
        verdicts = c.verdicts.result.now.verdicts;
        judged = c.verdicts.ensures;
        all = c.races-race-items.ensures;
      };
      by_place = subst (λ (rs : List Race). AreByPlace c.args.closed.now.log rs c.loop-race.found.items)
          (take_all c.loop-race.race-index races c.loop-race-test.false) c.loop-race.invariant;
    }
