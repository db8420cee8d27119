use Rattle.std.proofs.Common.{take, drop}
use Rattle.script_drive.specs.Ends.{PassedGate}
use Rattle.script_drive.specs.Lines.{lines_by}
use Rattle.script_drive.specs.Workers.{HasDone, SawRun, Serves}
use Rattle.script_drive.proofs.lines.run_lines.Given as goal

abbrev pub invariant-loop-line : goal.invariant-loop-line
invariant-loop-line g l =
    let t = l.fn.pass.thread in
    HasDone t l.pass (lines_by t (take l.line-index l.line-items))
    × Serves l.links (lines_by t (drop l.line-index l.line-items))
    × SawRun g.S.Name.limits g.S.DriveName.lines l.pass
    × PassedGate g.G.Gate.admitted g.G.Gate.told (lines_by t (take l.line-index l.line-items))
