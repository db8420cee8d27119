use Rattle.section_sum.specs.LockSums.{IsFitted}
use Rattle.section_sum.proofs.MakeRoomLaws.{Grown}
use Rattle.section_sum.proofs.summaries.Summaries.make_room_for.Given as goal

abbrev pub invariant-loop-lock : goal.invariant-loop-lock
invariant-loop-lock l = record {
  grown : Grown l.held l.var.0 l.lock-index l.fn.self l.self-inside.cells l.self-inside.locks.items;
  fitted : IsFitted l.self-inside.locks;
}
