use Rattle.std.proofs.Common.{◌<◌, length}
use Rattle.rapid_text.proofs.SpaceLaws.{inserted}
use Rattle.rapid_text.proofs.NumberCacheProperties.{right_numbered}
use Rattle.rapid_text.proofs.interner.Interner.insert.Goals as goal

pub invariant_of-self : goal.invariant_of-self
invariant_of-self c = (c.self.invariant.0, rw c.as_slice.ensures.keys at c.prepare.ensures)

pub invariant_of-self-in_err-stored : goal.invariant_of-self-in_err-stored
invariant_of-self-in_err-stored c = (c.self.invariant.0, rw c.as_slice.ensures.keys at c.prepare.ensures)

pub invariant_of-self-in_err-number : goal.invariant_of-self-in_err-number
invariant_of-self-in_err-number c =
    rw c.in_err-number.ensures.err (c.self.invariant.0, rw c.as_slice.ensures.keys at c.prepare.ensures)

pub invariant_of-self-2 : goal.invariant_of-self-2
invariant_of-self-2 c =
    let names = c.self.inside.names.keys in
    let less : length names < c.self.inside.limit = rw (← c.self.view_is) at c.requires in
    let is = inserted c.self.inside.limit names c.insert_full.new.self.keys c.in_ok-stored.stored
    c.args.name.now c.in_ok-number.number c.in_ok-stored.ensures less
    c.in_ok-number.ensures.index c.in_ok-number.ensures.keys in
    right_numbered c.self.inside.limit names c.insert_full.new.self.keys c.args.name.now
    c.in_ok-number.number c.prepare.new.cache c.put.new.self less is
    (rw c.as_slice.ensures.keys at c.prepare.ensures) c.put.ensures

pub returns-clause-ok : goal.returns-clause-ok
returns-clause-ok c =
    let names = c.self.inside.names.keys in
    let less : length names < c.self.inside.limit = rw (← c.self.view_is) at c.requires in
    rw (← c.self.view_is) (inserted c.self.inside.limit names c.insert_full.new.self.keys
    c.in_ok-stored.stored c.args.name.now c.in_ok-number.number c.in_ok-stored.ensures less
    c.in_ok-number.ensures.index c.in_ok-number.ensures.keys)
