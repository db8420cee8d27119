use Rattle.std.proofs.Common.{◌≡◌, length, vec_capacity}
use Rattle.section_sum.proofs.CloseLaws.{Closing}
use Rattle.section_sum.proofs.lock.Lock.close.Given as goal

abbrev pub invariant-closing : goal.invariant-closing
invariant-closing l = record {
  closing : Closing l.fn.lock.0 l.fn.self.by l.number l.fn.cells l.cells l.self-inside.listed.items;
  by : l.self-inside.by.0 ≡ l.fn.self.by;
  count : l.self-inside.count ≡ l.fn.self.count;
  most : vec_capacity l.self-inside.listed ≡ l.fn.self.most;
  sought : l.self-inside.sought ≡ l.fn.self.sought;
}

abbrev pub decreases-closing : goal.decreases-closing
decreases-closing l = length l.self-inside.listed.items
