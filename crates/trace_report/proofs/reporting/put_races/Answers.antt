use Rattle.std.proofs.Common.{ap, ◌∙◌}
use Rattle.std.proofs.lemmas.List.{take_all}
use Rattle.std.proofs.lemmas.Option.{slice_get-get_or}
use Rattle.rapid_text.proofs.PutsProperties.{put_same}
use Rattle.event_core.specs.declared.replies.Verdict.TheVariants.{Racy}
use Rattle.verdict_list.specs.declared.verdicts.Race.{Race}
use Rattle.trace_report.specs.Reports.{race_line}
use Rattle.trace_report.proofs.Races.{lines_of, put_more, races_lines, races_within}
use Rattle.trace_report.proofs.reporting.put_races.Goals as goal

pub put_race-requires : goal.put_race-requires
put_race-requires g c =
    let within = races_within c.loop-race.race-index c.requires.verdicts c.races-race-items.ensures
    (slice_get-get_or c.races-race-items.result.now c.loop-race.race-index _ c.loop-race-test.true) in
    record { within = within.0; earlier = within.1; named = c.requires.named }

pub loop-race-preserved : goal.loop-race-preserved
loop-race-preserved g c = record {
  lines =
      put_more (λ (r : Race). race_line c.args.names.now c.args.log.now.events r.event (Racy r.with))
      c.races-race-items.result.now c.loop-race.race-index _ c.loop-race-test.true
      c.loop-race.invariant.lines c.in_ok-put_race.ensures.ok;
  healthy = c.in_ok-put_race.ensures.healthy ∙ c.loop-race.invariant.healthy;
}

pub returns-clause-ok : goal.returns-clause-ok
returns-clause-ok g c =
    let names = c.args.names.now in
    let log = c.args.log.now.events in
    let all = take_all c.loop-race.race-index c.races-race-items.result.now c.loop-race-test.false
    ∙ c.races-race-items.ensures in
    put_same (ap (lines_of names log) all ∙ races_lines names log 0 c.args.verdicts.now.verdicts)
    c.loop-race.invariant.lines
