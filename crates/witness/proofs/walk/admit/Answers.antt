use Rattle.std.proofs.Common.{ℕ, List, Option, None, ap, sym, ◌∙◌, refl, get_or}
use Rattle.event_core.proofs.LogProperties.{does_op}
use Rattle.witness.proofs.IsWalkProperties.{next_after, walked}
use Rattle.witness.proofs.walk.admit.Goals as goal

pub returns-clause-next : goal.returns-clause-next
returns-clause-next c = λ t before w.
    (next_after c.deref.result.now c.deref.ensures.value w
    (c.is_next.ensures.next c.if-not-is_next.false before)).next

pub returns-clause-reads : goal.returns-clause-reads
returns-clause-reads c = λ t before w u x d.
    let e = c.in-Some.event in
    let at = sym c.get.ensures ∙ c.in-Some.is in
    let op = does_op (record { event = e; at = at; thread = refl; does = refl }) d in
    sym (w.stores x) ∙ sym (ap (λ (xs : List (Option ℕ)). get_or xs x.0 None) c.deref-2.ensures.value)
    ∙ c.reads_alike.ensures c.if-not-reads_alike.false x op
    ∙ c.requires.reads c.args.index u x d

pub returns-clause-walk : goal.returns-clause-walk
returns-clause-walk c = λ t before w.
    let e = c.in-Some.event in
    let at = sym c.get.ensures ∙ c.in-Some.is in
    let next = next_after c.deref.result.now c.deref.ensures.value w
    (c.is_next.ensures.next c.if-not-is_next.false before) in
    walked c.args.index e at w next c.in_ok-count_one.ensures c.in_ok-note_store.ensures
    (c.in_ok-perform.ensures.stands c.if-not-branch.false _ w.stands)
