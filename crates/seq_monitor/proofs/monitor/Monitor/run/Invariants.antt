use Rattle.std.proofs.Common.{◌-◌, vec_len}
use Rattle.std.specs.Prelude.{vec_capacity}
use Rattle.event_core.specs.Verdict.{IsRun}
use Rattle.seq_monitor.proofs.RunAnswersProperties.{HasRun}
use Rattle.seq_monitor.proofs.monitor.Monitor.run.Given as goal

abbrev pub invariant-loop-call : goal.invariant-loop-call
invariant-loop-call l =
    HasRun IsRun l.fn.self l.self l.calls l.call-index l.fn.outcomes.items l.outcomes.items
    (vec_capacity l.outcomes - vec_len l.outcomes)
