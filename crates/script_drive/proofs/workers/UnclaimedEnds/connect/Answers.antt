use Rattle.std.proofs.Common.{rules, sym, subst, ◌∙◌, take_all}
use Rattle.std.proofs.lemmas.List.{get_or_default}
use Rattle.script_drive.specs.Lines.{lines_by}
use Rattle.script_drive.specs.Workers.{Serves}
use Rattle.script_drive.proofs.LinkLines.{contains_link, serves_all}
use Rattle.script_drive.proofs.HasDoneProperties.{other_taken, served_more}
use Rattle.script_drive.proofs.workers.UnclaimedEnds.connect.Goals as goal

pub loop-line-preserved : goal.loop-line-preserved
loop-line-preserved g c =
    let lines = c.args.lines.now in
    let i = c.loop-line.line-index in
    let below = c.loop-line-test.true in
    served_more c.args.thread lines i _ (get_or_default lines i _ _ below) below
    (sym c.is_of.ensures ∙ c.if-not-is_of.false) c.loop-line.links c.add_join.new.links
    c.loop-line.invariant (search rules) (search rules)

-- another thread's line is passed over
pub loop-line-preserved-then-not-is_of : goal.loop-line-preserved-then-not-is_of
loop-line-preserved-then-not-is_of g c =
    let lines = c.args.lines.now in
    let i = c.loop-line.line-index in
    let below = c.loop-line-test.true in
    subst (Serves c.loop-line.links)
    (sym (other_taken c.args.thread lines i _ (get_or_default lines i _ _ below) below
    (sym c.is_of.ensures ∙ c.if-not-is_of.true)))
    c.loop-line.invariant

pub add_join-requires : goal.add_join-requires
add_join-requires g c =
    let lines = c.args.lines.now in
    let i = c.loop-line.line-index in
    let below = c.loop-line-test.true in
    contains_link g.S.DriveName.lines lines i _ c.requires (get_or_default lines i _ _ below) below

pub returns : goal.returns
returns g c =
    let whole = take_all c.loop-line.line-index c.args.lines.now c.loop-line-test.false in
    serves_all c.args.thread g.S.DriveName.lines c.loop-line.links
    (subst (λ ls. Serves c.loop-line.links (lines_by c.args.thread ls)) (whole ∙ c.requires)
    c.loop-line.invariant)
