use Rattle.std.proofs.Common.{rules, ◌≡◌, sym, subst}
use Rattle.std.specs.List.{All, filter_map}
use Rattle.script_drive.specs.Ends.{end_fault}
use Rattle.script_drive.specs.Faults.{IsFaultOf}
use Rattle.script_drive.proofs.Ends.{faults_fit}
use Rattle.script_drive.proofs.driving.finish.Goals as goal

pub outcome-requires-clause-faults : goal.outcome-requires-clause-faults
outcome-requires-clause-faults g c =
    let same : c.as_slice-2.result.now ≡ filter_map end_fault c.args.ends.items = search rules in
    subst (All (IsFaultOf g.S.Name.limits g.S.DriveName.ahead g.S.DriveName.lines)) (sym same)
    (faults_fit g.S.Name.limits g.S.DriveName.ahead g.S.DriveName.lines c.args.ends.items c.requires.halts)
