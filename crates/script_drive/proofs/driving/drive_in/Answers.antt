use Rattle.std.proofs.Common.{rules, subst}
use Rattle.std.specs.List.{All}
use Rattle.log_pass.specs.Passes.{main}
use Rattle.event_core.specs.Steps.{own_events}
use Rattle.script_text.specs.Scripts.{AllReached}
use Rattle.script_drive.specs.Ends.{IsThrough}
use Rattle.script_drive.specs.Lines.{Follows, lines_by}
use Rattle.script_drive.proofs.Ends.{all_passed, unjoined_made}
use Rattle.script_drive.proofs.Joins.{joined_made}
use Rattle.script_drive.proofs.driving.drive_in.Goals as goal

pub returns-in-Ok-run_all-clause-joined : goal.returns-in-Ok-run_all-clause-joined
returns-in-Ok-run_all-clause-joined g c =
    let script = g.S.DriveName.lines in
    let log = c.close.result.log in
    let made : Follows (own_events main log) (lines_by main script) = search rules in
    λ u from. joined_made script log c.close.ensures.keeps main u made from

pub returns-in-Ok-run_all-clause-unjoined : goal.returns-in-Ok-run_all-clause-unjoined
returns-in-Ok-run_all-clause-unjoined g c =
    let script = g.S.DriveName.lines in
    let log = c.close.result.log in
    let last = c.in-Ok-run_all.last in
    let made : Follows (own_events main log) (lines_by main script) = search rules in
    let reached : AllReached script
    = subst AllReached c.requires.lines c.all_workers.ensures.script.reached in
    unjoined_made script g.G.Gate.admitted g.G.Gate.told last reached
    (subst (All (IsThrough script g.G.Gate.admitted g.G.Gate.told last)) c.in-Ok.ensures.all
    c.in-Ok-run_all.ensures.through)
    log c.close.ensures.keeps c.close.ensures.begins made

pub returns-in-Ok-run_all-clause-passed : goal.returns-in-Ok-run_all-clause-passed
returns-in-Ok-run_all-clause-passed g c =
    let script = g.S.DriveName.lines in
    let last = c.in-Ok-run_all.last in
    let reached : AllReached script
    = subst AllReached c.requires.lines c.all_workers.ensures.script.reached in
    all_passed script g.G.Gate.admitted g.G.Gate.told last reached
    (subst (All (IsThrough script g.G.Gate.admitted g.G.Gate.told last)) c.in-Ok.ensures.all
    c.in-Ok-run_all.ensures.through)
    c.in-Ok-run_all.ensures.passed

-- want of memory is a fault of each script
pub returns-in_default-clause-fault : goal.returns-in_default-clause-fault
returns-in_default-clause-fault g c = ∣ tt ∣₁
