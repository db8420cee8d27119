use Rattle.rapid_text.proofs.NumberedProperties.{named_after}
use Rattle.rapid_text.proofs.names.Names.search_or_add.Goals as goal

pub invariant_of-self : goal.invariant_of-self
invariant_of-self c =
    named_after _ c.in-Thread.is c.args.name.now c.search_or_add.result c.search_or_add.new.self
    c.self.invariant c.search_or_add.ensures.ok c.search_or_add.ensures.err c.requires

pub invariant_of-self-in-Lock : goal.invariant_of-self-in-Lock
invariant_of-self-in-Lock c =
    named_after _ c.in-Lock.is c.args.name.now c.search_or_add-in-Lock.result
    c.search_or_add-in-Lock.new.self c.self.invariant c.search_or_add-in-Lock.ensures.ok
    c.search_or_add-in-Lock.ensures.err c.requires

pub invariant_of-self-in-Variable : goal.invariant_of-self-in-Variable
invariant_of-self-in-Variable c =
    named_after _ c.in-Variable.is c.args.name.now c.search_or_add-in-Variable.result
    c.search_or_add-in-Variable.new.self c.self.invariant c.search_or_add-in-Variable.ensures.ok
    c.search_or_add-in-Variable.ensures.err c.requires

pub invariant_of-self-in-Site : goal.invariant_of-self-in-Site
invariant_of-self-in-Site c =
    named_after _ c.in-Site.is c.args.name.now c.search_or_add-in-Site.result
    c.search_or_add-in-Site.new.self c.self.invariant c.search_or_add-in-Site.ensures.ok
    c.search_or_add-in-Site.ensures.err c.requires
