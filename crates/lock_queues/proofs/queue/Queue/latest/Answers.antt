use Rattle.std.proofs.Common.{◌-◌, ◌<◌, length, ap, subst, arith}
use Rattle.std.proofs.lemmas.List.{get_or_read}
use Rattle.lock_queues.specs.Sections.{section_of, entry_at}
use Rattle.lock_queues.specs.Queue.{OneQueue}
use Rattle.lock_queues.specs.Searched.{IsSection}
use Rattle.lock_queues.proofs.IsKeptProperties.{seen_within, found_read}
use Rattle.lock_queues.proofs.queue.Queue.latest.Goals as goal

pub index-number-requires : goal.index-number-requires
index-number-requires c =
    let lt = seen_within c.args.thread.0 c.self.view_is c.self.invariant c.requires.slot in
    let len = c.self.inside.found.ok.0 in
    omega arith

pub section-requires-clause-within : goal.section-requires-clause-within
section-requires-clause-within c =
    let lt = seen_within c.args.thread.0 c.self.view_is c.self.invariant c.requires.slot in
    let is = get_or_read c.self.inside.found.items c.args.thread.0 _ lt c.index-number.ensures 0 in
    let le = c.self.invariant.within c.args.thread.0 in
    let some : 0 < c.index-number.result.now = omega (arith, c.if-number-eq0.false) in
    let entries = ap (λ (k : OneQueue). length k.entries) c.self.view_is in
    omega arith

pub returns : goal.returns
returns c =
    let is = found_read c.args.thread.0 c.index-number.result.now c.self.view_is c.self.invariant
    c.requires.slot c.index-number.ensures in
    let some : 0 < c.index-number.result.now = omega (arith, c.if-number-eq0.false) in (
      omega arith,
      subst (λ n. IsSection c.section.result c.args.self.now.width
          (section_of c.args.releases.now.numbers (entry_at c.args.self.now.entries (n - 1)))) is
          c.section.ensures,
    )
