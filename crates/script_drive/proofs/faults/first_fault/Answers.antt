use Rattle.std.proofs.Common.{rules, ◌≤◌, subst}
use Rattle.std.specs.List.{All}
use Rattle.std.proofs.lemmas.List.{take_all}
use Rattle.script_drive.specs.Faults.{rank}
use Rattle.script_drive.proofs.ScriptFaults.{first_more}
use Rattle.script_drive.proofs.faults.first_fault.Goals as goal

pub loop-fault-preserved : goal.loop-fault-preserved
loop-fault-preserved c =
    first_more c.args.faults.now c.loop-fault.fault-index _ c.loop-fault.first c.or_earlier-first.result
    (search rules) c.loop-fault.invariant.0 c.loop-fault.invariant.1 c.or_earlier-first.ensures

pub returns-clause-first : goal.returns-clause-first
returns-clause-first c = record {
  one = c.loop-fault.invariant.0;
  first = subst (All (λ other. rank c.loop-fault.first ≤ rank other))
      (take_all c.loop-fault.fault-index c.args.faults.now (search rules)) c.loop-fault.invariant.1;
}
