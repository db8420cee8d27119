use Rattle.rapid_line.specs.Lines.{to_come}
use Rattle.std.proofs.Common.{◌++◌, []}
use Rattle.trace_report.proofs.FeedLaws.{lines_stop, lines_whole, piece_taken}
use Rattle.trace_report.proofs.replayer.feed_piece.Goals as goal

pub returns-clause-ok : goal.returns-clause-ok
returns-clause-ok c =
    piece_taken c.args.text.now c.args.lines.now c.feed_lines.new.sink c.feed_lines.new.cutter
    c.args.piece.now c.in_default.ensures.ok

pub returns-in-Err-clause-fault : goal.returns-in-Err-clause-fault
returns-in-Err-clause-fault c more =
    lines_stop c.args.text.now c.args.lines.now (to_come c.args.lines.now (c.args.piece.now ++ more))
    c.in-Err.fault (c.in-Err.ensures.fault more)

pub returns-in-Err-clause-read : goal.returns-in-Err-clause-read
returns-in-Err-clause-read c read =
    let whole = lines_whole c.args.text.now c.args.lines.now
    (to_come c.args.lines.now (c.args.piece.now ++ [])) c.in-Err.fault (c.in-Err.ensures.fault []) in
    absurd cc
