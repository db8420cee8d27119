use Rattle.std.proofs.Common.{◌+◌, ◌*◌, length, refl, sym, ap, ◌∙◌, arith}
use Rattle.lock_queues.proofs.OptionProperties.{where_err}
use Rattle.lock_queues.proofs.SameMeaningProperties.{Found, found_at, same_tables, slot_made, slots_same}
use Rattle.lock_queues.proofs.SameMeaningProperties.{grown_tables, grown_queues}
use Rattle.lock_queues.proofs.AreKeptProperties.{kept_larger, kept_alike, kept_set, numbers_fit}
use Rattle.lock_queues.proofs.queues.Queues.make_room.Goals as goal

pub grow-requires : goal.grow-requires
grow-requires c = record {
  wide = λ m within. c.self.invariant.wide m within ∙ sym c.threads-width.ensures.is;
}

pub invariant_of-self : goal.invariant_of-self
invariant_of-self c = kept_larger c.self.invariant c.prepare.ensures.same c.prepare.ensures.larger

pub invariant_of-self-in_err-grow : goal.invariant_of-self-in_err-grow
invariant_of-self-in_err-grow c =
    kept_alike (kept_larger c.self.invariant c.prepare.ensures.same c.prepare.ensures.larger)
    c.grow.ensures.same c.threads-width.ensures.is c.grow.ensures.wide c.grow.ensures.slots

-- the queue that is read, where a slot is refused and where it is made
refused : (c : goal.After-from_residual-in_err-prepare-2)
    → Found c.self.inside.queues.items c.grow.new.queues.items c.args.lock.0 c.index_mut-queue.result.now
refused c =
    let ok = c.in_ok-grow.ensures.ok in
    found_at c.args.lock.0 c.grow.ensures.same (omega arith) c.index_mut-queue.ensures.value

made : (c : goal.After-self-2-1)
    → Found c.self.inside.queues.items c.grow.new.queues.items c.args.lock.0 c.index_mut-queue.result.now
made c =
    let ok = c.in_ok-grow.ensures.ok in
    found_at c.args.lock.0 c.grow.ensures.same (omega arith) c.index_mut-queue.ensures.value

pub invariant_of-self-in_err-prepare-2 : goal.invariant_of-self-in_err-prepare-2
invariant_of-self-in_err-prepare-2 c =
    let grown = kept_alike (kept_larger c.self.invariant c.prepare.ensures.same c.prepare.ensures.larger)
    c.grow.ensures.same c.threads-width.ensures.is c.grow.ensures.wide c.grow.ensures.slots in
    let same = c.prepare-2.ensures.same in
    let slots = ap length c.in_err-prepare-2.ensures.err in
    kept_set c.args.lock.0 c.prepare-2.new.self c.self.inside.slots grown (refused c).within
    c.index_mut-queue.ensures.value same.width same.entries (omega arith) grown.spare

pub invariant_of-self-2 : goal.invariant_of-self-2
invariant_of-self-2 c =
    let grown = kept_alike (kept_larger c.self.invariant c.prepare.ensures.same c.prepare.ensures.larger)
    c.grow.ensures.same c.threads-width.ensures.is c.grow.ensures.wide c.grow.ensures.slots in
    let same = c.prepare-2.ensures.same in
    let one = c.in_ok-prepare-2.ensures.more in
    let spare = c.in_ok-prepare.ensures.ok in
    let times = ap (λ w. (c.self.inside.slots + 1) * w) c.threads-width.ensures.is in
    kept_set c.args.lock.0 c.prepare-2.new.self _ grown (made c).within c.index_mut-queue.ensures.value
    same.width same.entries (omega arith) (omega (arith, spare, times))

pub returns-in_err-prepare-2-clause-same : goal.returns-in_err-prepare-2-clause-same
returns-in_err-prepare-2-clause-same c =
    rw (← c.self.view_is) (same_tables c.prepare-2.new.self (refused c) c.self.inside.limits
    c.prepare.ensures.same c.prepare-2.ensures.same)

pub returns-in_err-prepare-2-clause-err : goal.returns-in_err-prepare-2-clause-err
returns-in_err-prepare-2-clause-err c =
    where_err c.from_residual-in_err-prepare-2.result _
    (rw (← c.self.view_is) (slots_same c.prepare-2.new.self (refused c) c.in_err-prepare-2.ensures.err))

pub returns-clause-same : goal.returns-clause-same
returns-clause-same c =
    rw (← c.self.view_is) (same_tables c.prepare-2.new.self (made c) c.self.inside.limits
    c.prepare.ensures.same c.prepare-2.ensures.same)

pub returns-clause-ok : goal.returns-clause-ok
returns-clause-ok c =
    rw (← c.self.view_is) (slot_made c.prepare-2.new.self (made c) c.args.thread.0
    c.in_ok-prepare-2.ensures.ok)

pub returns-in_err-prepare-clause-grown : goal.returns-in_err-prepare-clause-grown
returns-in_err-prepare-clause-grown c =
    rw (← c.self.view_is) (grown_queues c.self.inside.limits c.args.thread.0 c.args.lock.0
    (λ m. (refl, refl, refl, refl)) c.prepare.ensures.same (omega arith) (omega arith)
    (numbers_fit c.self.inside.queues.items _ _ c.self.invariant.slots refl c.threads-width.ensures.is
    c.prepare.ensures.most))

pub returns-in_err-grow-clause-grown : goal.returns-in_err-grow-clause-grown
returns-in_err-grow-clause-grown c =
    rw (← c.self.view_is) (grown_queues c.self.inside.limits c.args.thread.0 c.args.lock.0
    c.grow.ensures.same c.prepare.ensures.same c.grow.ensures.most c.grow.ensures.room
    (numbers_fit c.self.inside.queues.items _ _ c.self.invariant.slots refl c.threads-width.ensures.is
    c.prepare.ensures.most))

pub returns-in_err-prepare-2-clause-grown : goal.returns-in_err-prepare-2-clause-grown
returns-in_err-prepare-2-clause-grown c =
    rw (← c.self.view_is) (grown_tables c.prepare-2.new.self (refused c) c.self.inside.limits c.args.thread.0
    c.prepare.ensures.same c.grow.ensures.most c.prepare-2.ensures.most c.grow.ensures.room
    (numbers_fit c.self.inside.queues.items _ _ c.self.invariant.slots refl c.threads-width.ensures.is
    c.prepare.ensures.most)
    c.prepare-2.ensures.places)

pub returns-clause-grown : goal.returns-clause-grown
returns-clause-grown c =
    rw (← c.self.view_is) (grown_tables c.prepare-2.new.self (made c) c.self.inside.limits c.args.thread.0
    c.prepare.ensures.same c.grow.ensures.most c.prepare-2.ensures.most c.grow.ensures.room
    (numbers_fit c.self.inside.queues.items _ _ c.self.invariant.slots refl c.threads-width.ensures.is
    c.prepare.ensures.most)
    c.prepare-2.ensures.places)
