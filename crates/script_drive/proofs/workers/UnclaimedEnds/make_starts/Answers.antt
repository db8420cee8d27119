use Rattle.std.proofs.Common.{◌∙◌, ap, take_all}
use Rattle.std.proofs.lemmas.List.{get_or_default}
use Rattle.script_drive.specs.Workers.{forked}
use Rattle.script_drive.proofs.LinkLines.{contains_link, forked_pushed}
use Rattle.script_drive.proofs.workers.UnclaimedEnds.make_starts.Goals as goal

pub add_start-requires : goal.add_start-requires
add_start-requires g c =
    let lines = c.args.lines.now in
    let i = c.loop-line.line-index in
    let below = c.loop-line-test.true in
    contains_link g.S.DriveName.lines lines i _ c.requires (get_or_default lines i _ _ below) below

pub loop-line-preserved : goal.loop-line-preserved
loop-line-preserved g c =
    let lines = c.args.lines.now in
    let i = c.loop-line.line-index in
    let below = c.loop-line-test.true in
    forked_pushed lines i _ _ _ (get_or_default lines i _ _ below) below c.in_ok-add_start.ensures
    c.loop-line.invariant

pub returns : goal.returns
returns g c =
    let whole = take_all c.loop-line.line-index c.args.lines.now c.loop-line-test.false in
    c.loop-line.invariant ∙ ap forked whole
