use Rattle.std.proofs.Common.{arith}
use Rattle.std.proofs.lemmas.Option.{slice_get_within}
use Rattle.witness.proofs.Forks.{fork_noted}
use Rattle.witness.proofs.tables.find_forks.Goals as goal

pub events-preserved : goal.events-preserved
events-preserved c =
    fork_noted c.requires.formed.0 c.args.log.now.events c.events.index c.event_at-event.result
    c.events.forks.items c.note_fork.new.forks.items
    c.requires.formed.1 c.event_at-event.ensures c.events.invariant c.in_ok-note_fork.ensures

pub returns : goal.returns
returns c = λ k v u d.
    let within = slice_get_within c.args.log.now.events k d.event d.at in
    let over = c.events-test.false in
    let b = c.len-index-end.ensures in
    c.events.invariant k (omega arith) v u d
