use Rattle.std.proofs.Common.{◌≡◌, length, take}
use Rattle.section_sum.specs.LockSums.{AreKept, IsFitted}
use Rattle.section_sum.specs.Entries.{entries_of}
use Rattle.section_sum.specs.Locks.{HaveNoted}
use Rattle.section_sum.proofs.locks.note_held.Given as goal

abbrev pub invariant-loop-lock : goal.invariant-loop-lock
invariant-loop-lock l = record {
  kept : AreKept l.cells l.locks.items;
  noted : HaveNoted l.thread.0 (take l.lock-index l.held) l.var.0 l.kind
      (entries_of l.fn.cells l.fn.locks.items) (entries_of l.cells l.locks.items);
  places : l.cells.places ≡ l.fn.cells.places;
  count : length l.locks.items ≡ length l.fn.locks.items;
  fitted : IsFitted l.fn.locks → IsFitted l.locks;
}
