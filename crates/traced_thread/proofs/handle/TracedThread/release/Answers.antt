use Rattle.std.proofs.Common.{ap, refl, sym, ◌∙◌}
use Rattle.traced_thread.specs.Handles.{pass_of}
use Rattle.traced_thread.proofs.IsReleasedProperties.{holder_has_ended}
use Rattle.traced_thread.proofs.handle.TracedThread.release.Goals as goal

pub returns-clause-ended : goal.returns-clause-ended
returns-clause-ended g c =
    let is = sym (ap pass_of c.take-pass.ensures) ∙ c.self.view_is in
    let does = c.perform-pass.ensures in
    rw (← is)
    (holder_has_ended c.args.lock c.args.site c.perform-pass.result.1 does.answers
    (does.release c.args.lock refl))
