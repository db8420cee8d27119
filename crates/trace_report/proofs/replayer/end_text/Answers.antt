use Rattle.rapid_line.specs.Lines.{to_come}
use Rattle.std.proofs.Common.{[]}
use Rattle.trace_report.proofs.FeedLaws.{lines_stop, lines_whole, text_ended}
use Rattle.trace_report.proofs.replayer.end_text.Goals as goal

pub returns-clause-ok : goal.returns-clause-ok
returns-clause-ok c =
    text_ended c.args.text.now c.args.lines.now c.finish_lines.new.sink c.in_default-finish_lines.ensures.ok

pub returns-in-Err-clause-fault : goal.returns-in-Err-clause-fault
returns-in-Err-clause-fault c none =
    lines_stop c.args.text.now c.args.lines.now (to_come c.args.lines.now []) c.in-Err.fault
    c.in-Err.ensures.fault

pub returns-in-Err-clause-whole : goal.returns-in-Err-clause-whole
returns-in-Err-clause-whole c read =
    let whole = lines_whole c.args.text.now c.args.lines.now (to_come c.args.lines.now []) c.in-Err.fault
    c.in-Err.ensures.fault in
    absurd cc
