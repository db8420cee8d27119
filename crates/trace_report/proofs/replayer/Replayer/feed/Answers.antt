use Rattle.trace_report.proofs.replayer.Replayer.feed.Goals as goal

pub invariant_of-self-in_default : goal.invariant_of-self-in_default
invariant_of-self-in_default c none = c.in_default.ensures.ok.named (c.self.invariant none)
