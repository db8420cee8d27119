use Rattle.std.proofs.Common.{◌≡◌, Some, ap, subst, ◌∙◌}
use Rattle.rapid_line.specs.Reading.{named_of}
use Rattle.rapid_text.specs.declared.causes.Kind.{Kind}
use Rattle.rapid_text.specs.declared.causes.Kind.TheVariants as kinds
use Rattle.rapid_text.specs.Tables.{Tables, number_in}
use Rattle.rapid_text.specs.Events.{named_event}
use Rattle.rapid_text.proofs.NameGrowth.{numbered_ok}
use Rattle.rapid_line.proofs.ReadingProperties.{where_err}
use Rattle.rapid_text.proofs.NewNames.{read_after_first, read_after_second}
use Rattle.rapid_text.proofs.event_lines.number_names.Goals as goal

pub returns-in_err-target-clause-same : goal.returns-in_err-target-clause-same
returns-in_err-target-clause-same c =
    let names = c.args.names.now in
    let next = c.number_in_line.new.names in
    let e = named_of c.args.line.now in
    let first = numbered_ok kinds.Thread (number_in names kinds.Thread e.thread) (c.in_ok-thread.thread, next)
    c.in_ok-thread.ensures.ok in
    where_err c.from_residual-in_err-target.result
    (ap (λ (t : Tables). named_event t e) c.in_err-target.ensures.same
    ∙ read_after_first names next e c.in_ok-thread.thread first)

pub returns-in_err-site-clause-same : goal.returns-in_err-site-clause-same
returns-in_err-site-clause-same c =
    let names = c.args.names.now in
    let next = c.number_in_line.new.names in
    let last = c.number_in_line-2.new.names in
    let e = named_of c.args.line.now in
    let first = numbered_ok kinds.Thread (number_in names kinds.Thread e.thread) (c.in_ok-thread.thread, next)
    c.in_ok-thread.ensures.ok in
    let second = numbered_ok c.kind_at.result (number_in next c.kind_at.result e.argument)
    (c.in_ok-target.target, last) c.in_ok-target.ensures.ok in
    where_err c.from_residual-in_err-site.result
    (ap (λ (t : Tables). named_event t e) c.in_err-site.ensures.same
    ∙ read_after_second names next last e c.in_ok-thread.thread c.in_ok-target.target first
    (subst (λ (k : Kind). number_in next k e.argument ≡ Some (c.in_ok-target.target, last)) c.kind_at.ensures
    second))
