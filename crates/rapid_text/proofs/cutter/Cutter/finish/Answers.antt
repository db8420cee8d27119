use Rattle.std.proofs.Common.{sym, subst, ◌∙◌}
use Rattle.rapid_text.specs.declared.causes.TextFault.{TextFault}
use Rattle.rapid_text.specs.Cutting.{Cutting, ClosesAt}
use Rattle.rapid_text.proofs.PushesProperties.{live, closes_at}
use Rattle.rapid_text.proofs.cutter.Cutter.finish.Goals as goal

pub returns-in-Err-clause-fault : goal.returns-in-Err-clause-fault
returns-in-Err-clause-fault c =
    let inside = c.self.inside in
    let start = sym (live inside.names inside.lines inside.line inside.failed c.in_default.is) ∙
    c.self.view_is in
    let line = c.in-Some-last_line.line.number in
    let cause = c.in-Err.cause in
    subst (λ (f : TextFault). ClosesAt c.args.self.now f f.cause) (sym c.fail.ensures.fault)
    (subst (λ (s : Cutting). ClosesAt s (record { line = line; cause = cause }) cause) start
    (closes_at inside.names inside.line line cause c.in-Some-last_line.ensures.number
    c.in-Some-last_line.ensures.line
    (rw c.line.ensures.bytes at c.in-Err.ensures.fault) (rw c.line.ensures.bytes at c.in-Err.ensures.memory)))
