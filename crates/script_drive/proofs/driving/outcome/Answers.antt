use Rattle.std.proofs.Common.{rules, ◌≡◌, Err, subst}
use Rattle.std.specs.Prelude.{IfErr}
use Rattle.script_drive.specs.Faults.{IsHaltOf}
use Rattle.script_drive.proofs.ScriptFaults.{answer_fits, first_fits}
use Rattle.script_drive.proofs.driving.outcome.Goals as goal

pub returns-in-Err-default-clause-fault : goal.returns-in-Err-default-clause-fault
returns-in-Err-default-clause-fault g c =
    let m = g.S.Name.limits in
    let ahead = g.S.DriveName.ahead in
    let script = g.S.DriveName.lines in
    let halt = c.in-Err-default.halt in
    let is : c.args.main ≡ Err halt = search rules in
    answer_fits m ahead script halt c.first_fault.result c.answer.result
    (subst (λ end. IfErr end (IsHaltOf m ahead script)) is c.requires.halt)
    (first_fits m ahead script c.args.faults.now c.first_fault.result c.first_fault.ensures.first
    c.requires.faults)
    c.answer.ensures
