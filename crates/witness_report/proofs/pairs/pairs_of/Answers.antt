use Rattle.std.proofs.Common.{◌≡◌, ◌∙◌, ◌≤◌, [], All, arith, rules, subst, sym}
use Rattle.std.proofs.lemmas.List.Elements.{All-nil}
use Rattle.std.proofs.lemmas.Option.{get_or_from_slice_get, slice_get_within}
use Rattle.witness_report.specs.declared.pairs.Pair.{Pair}
use Rattle.witness_report.proofs.PairsProperties.{few_races, pairs_of_none, race_added}
use Rattle.witness_report.proofs.pairs.pairs_of.Goals as goal

pub loop-race-init : goal.loop-race-init
loop-race-init c =
    let log = c.args.log.now.events in
    let none : c.new-pairs.result.items ≡ [] = search rules in
    record {
      pairs = none ∙ sym (pairs_of_none log);
      few = subst (All (λ (p : Pair). p.races ≤ 0)) (sym (pairs_of_none log))
          (All-nil (λ (p : Pair). p.races ≤ 0));
    }

pub add_race-requires : goal.add_race-requires
add_race-requires c = record {
  few = λ i p at.
      let log = c.args.log.now.events in
      let pairs = c.loop-race.pairs.items in
      let all : All (λ (q : Pair). q.races ≤ c.loop-race.race-index) pairs
      = subst (All (λ (q : Pair). q.races ≤ c.loop-race.race-index)) (sym c.loop-race.invariant.pairs)
      c.loop-race.invariant.few in
      let here = all i p (slice_get_within pairs i p at) in
      let is = get_or_from_slice_get pairs i p p at in
      let le : p.races ≤ c.loop-race.race-index
      = subst (λ (q : Pair). q.races ≤ c.loop-race.race-index) is here in
      let within = c.loop-race-test.true in
      omega arith;
}

pub loop-race-preserved : goal.loop-race-preserved
loop-race-preserved c = record {
  pairs = race_added c.args.log.now.events c.args.races.now c.loop-race.race-index _ c.loop-race-test.true
      c.loop-race.invariant.pairs c.sites_of.ensures c.in_ok-add_race.ensures.ok;
  few = few_races c.args.log.now.events c.args.races.now c.loop-race.race-index c.loop-race-test.true
      c.loop-race.invariant.few;
}
