use Rattle.std.proofs.Common.{sym, ◌∙◌, refl}
use Rattle.witness.proofs.IsCountProperties.{next_of}
use Rattle.witness.proofs.next.is_next.Goals as goal

pub returns-then-has_fork-clause-next : goal.returns-then-has_fork-clause-next
returns-then-has_fork-clause-next c = λ t before count.
    let e = c.in-Some.event in
    let at = sym c.get.ensures ∙ c.in-Some.is in
    let place = c.requires.places c.args.index e.thread (record { event = e; at = at; thread = refl }) in
    let same = c.if-count_of-place.false in
    next_of c.args.index e at count (sym c.count_of.ensures ∙ same ∙ c.place_at-place.ensures.is ∙ place)
    (c.has_fork.ensures c.if-has_fork.true before count) (c.may_join.ensures t before count)
