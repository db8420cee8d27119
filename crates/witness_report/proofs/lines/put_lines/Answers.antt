use Rattle.std.proofs.Common.{◌∙◌}
use Rattle.trace_report.proofs.Races.{put_more, put_all}
use Rattle.witness_report.specs.Lines.{line_at}
use Rattle.witness_report.proofs.lines.put_lines.Goals as goal

pub loop-index-preserved : goal.loop-index-preserved
loop-index-preserved g c = record {
  lines =
      put_more (line_at c.args.names.now c.args.log.now.events) c.args.events.now c.loop-index.index-index _
      c.loop-index-test.true c.loop-index.invariant.lines c.in_ok-put_line.ensures.ok;
  healthy = c.in_ok-put_line.ensures.healthy ∙ c.loop-index.invariant.healthy;
}

pub returns-clause-ok : goal.returns-clause-ok
returns-clause-ok g c =
    put_all (line_at c.args.names.now c.args.log.now.events) c.args.events.now c.loop-index.index-index
    c.loop-index-test.false c.loop-index.invariant.lines
