use Rattle.std.proofs.Common.{ap, subst, sym, ◌∙◌}
use Rattle.rapid_text.proofs.PutsProperties.{put_same}
use Rattle.trace_report.proofs.Races.{put_more, put_all}
use Rattle.trace_report.proofs.listing.put_lines.Goals as goal

pub put-requires : goal.put-requires
put-requires g c = record {
  within = subst (g.L.Line.is_within c.args.log.now.events) (sym c.line-item.is)
      (c.requires.within c.loop-line.line-index _ c.loop-line-test.true);
  named = c.requires.named;
}

pub loop-line-preserved : goal.loop-line-preserved
loop-line-preserved g c =
    let line = g.L.Line.line c.args.names.now c.args.log.now.events in
    record {
      lines = put_more line c.args.shown.now c.loop-line.line-index _ c.loop-line-test.true
          c.loop-line.invariant.lines
          (put_same (ap line c.line-item.is) c.in_ok-put.ensures.ok);
      healthy = c.in_ok-put.ensures.healthy ∙ c.loop-line.invariant.healthy;
    }

pub returns-clause-ok : goal.returns-clause-ok
returns-clause-ok g c =
    put_all (g.L.Line.line c.args.names.now c.args.log.now.events) c.args.shown.now c.loop-line.line-index
    c.loop-line-test.false c.loop-line.invariant.lines
