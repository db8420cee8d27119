use Rattle.std.proofs.Common.{Option, sym, subst, ◌∙◌, rules, IsSome}
use Rattle.event_core.specs.declared.events.Event.{Event}
use Rattle.event_core.proofs.DepthProperties.{event_at}
use Rattle.witness.proofs.tables.event_at.Goals as goal

pub unwrap-requires : goal.unwrap-requires
unwrap-requires c =
    let x = event_at c.args.log.now.events c.args.index c.requires in
    subst (λ (o : Option Event). IsSome o) (sym (c.get.ensures ∙ x.1)) (search rules)
