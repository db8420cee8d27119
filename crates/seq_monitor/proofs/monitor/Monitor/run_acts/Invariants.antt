use Rattle.std.proofs.Common.{◌-◌, vec_len}
use Rattle.std.specs.Prelude.{vec_capacity}
use Rattle.event_core.specs.Acts.{IsActRun}
use Rattle.seq_monitor.proofs.RunAnswersProperties.{HasRun}
use Rattle.seq_monitor.proofs.monitor.Monitor.run_acts.Given as goal

abbrev pub invariant-loop-act : goal.invariant-loop-act
invariant-loop-act l =
    HasRun IsActRun l.fn.self l.self l.acts l.act-index l.fn.answers.items l.answers.items
    (vec_capacity l.answers - vec_len l.answers)
