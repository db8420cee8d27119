use Rattle.std.proofs.Common.{arith}
use Rattle.hb_clocks.proofs.HasGrownProperties.{row_grown, none_grown}
use Rattle.hb_clocks.proofs.hb.HbClocks.make_thread.Goals as goal

pub returns-in_err-make_row-clause-grown : goal.returns-in_err-make_row-clause-grown
returns-in_err-make_row-clause-grown c t op lt named = rw (← c.self.view_is) (record {
  po = row_grown lt named c.make_row.ensures.most c.make_row.ensures.others;
  hb = none_grown c.self.inside.hb.items;
  lock = none_grown c.self.inside.locks.items;
  holds = omega arith;
  thread_room = omega (arith, lt, c.make_row.ensures.room);
  lock_room = omega arith;
})

pub returns-clause-grown : goal.returns-clause-grown
returns-clause-grown c t op lt named = rw (← c.self.view_is) (record {
  po = row_grown lt named c.make_row.ensures.most c.make_row.ensures.others;
  hb = row_grown lt named c.make_row-2.ensures.most c.make_row-2.ensures.others;
  lock = none_grown c.self.inside.locks.items;
  holds = omega arith;
  thread_room = omega (arith, lt, c.make_row.ensures.room, c.make_row-2.ensures.room);
  lock_room = omega arith;
})
