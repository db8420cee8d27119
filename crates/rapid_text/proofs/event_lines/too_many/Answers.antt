use Rattle.std.proofs.Common.{Err, ◌∙◌, ap, sym, subst, Result}
use Rattle.std.proofs.lemmas.Bool.{both_ways}
use Rattle.event_core.specs.declared.events.Event.{Event}
use Rattle.rapid_line.specs.Reading.{named_of}
use Rattle.rapid_text.specs.declared.causes.Cause.{Cause}
use Rattle.rapid_text.specs.declared.causes.Cause.TheVariants.{TooManyNames}
use Rattle.rapid_text.specs.declared.causes.Kind.{Kind}
use Rattle.rapid_text.specs.Tables.{Tables}
use Rattle.rapid_text.proofs.NewNames.{PassesLimit, thread_too_many, target_too_many, site_too_many, all_fit}
use Rattle.rapid_text.proofs.event_lines.too_many.Goals as goal

pub returns-then-passes_limit-clause-some : goal.returns-then-passes_limit-clause-some
returns-then-passes_limit-clause-some c =
    thread_too_many c.args.names.now (named_of c.args.line.now) c.args.known c.requires
    (c.passes_limit.ensures.0 c.if-passes_limit.true)

pub returns-then-passes_limit-2-clause-some : goal.returns-then-passes_limit-2-clause-some
returns-then-passes_limit-2-clause-some c =
    let names = c.args.names.now in
    let is_kind = c.kind_at-kind.ensures in
    target_too_many names (named_of c.args.line.now) c.args.known c.added.result c.requires
    c.added.ensures.two c.added.ensures.one
    (λ passes. both_ways _ c.if-passes_limit.false (c.passes_limit.ensures.1 passes))
    (subst (λ (k : Kind). PassesLimit names k c.args.known.target c.added.result) is_kind
    (c.passes_limit-2.ensures.0 c.if-passes_limit-2.true))
    ∙ ap (λ (k : Kind). let r : Result (Event × Tables) Cause = Err (TooManyNames k) in r) (sym is_kind)

pub returns-then-passes_limit-3-clause-some : goal.returns-then-passes_limit-3-clause-some
returns-then-passes_limit-3-clause-some c =
    let names = c.args.names.now in
    site_too_many names (named_of c.args.line.now) c.args.known c.added.result c.requires
    c.added.ensures.two c.added.ensures.one
    (λ passes. both_ways _ c.if-passes_limit.false (c.passes_limit.ensures.1 passes))
    (λ passes. both_ways _ c.if-passes_limit-2.false (c.passes_limit-2.ensures.1
    (subst (λ (k : Kind). PassesLimit names k c.args.known.target c.added.result) (sym c.kind_at-kind.ensures)
    passes)))
    (c.passes_limit-3.ensures.0 c.if-passes_limit-3.true)

pub returns-clause-none : goal.returns-clause-none
returns-clause-none c = λ _.
    let names = c.args.names.now in
    all_fit names (named_of c.args.line.now) c.args.known c.added.result c.requires
    c.added.ensures.two c.added.ensures.one
    (λ passes. both_ways _ c.if-passes_limit.false (c.passes_limit.ensures.1 passes))
    (λ passes. both_ways _ c.if-passes_limit-2.false (c.passes_limit-2.ensures.1
    (subst (λ (k : Kind). PassesLimit names k c.args.known.target c.added.result) (sym c.kind_at-kind.ensures)
    passes)))
    (λ passes. both_ways _ c.if-passes_limit-3.false (c.passes_limit-3.ensures.1 passes))
