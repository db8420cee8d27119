use Rattle.std.proofs.Common.{arith}
use Rattle.hb_clocks.proofs.HasGrownProperties.{row_grown, none_grown}
use Rattle.hb_clocks.proofs.hb.HbClocks.make_lock.Goals as goal

pub returns-in_err-grow_to-clause-grown : goal.returns-in_err-grow_to-clause-grown
returns-in_err-grow_to-clause-grown c t op lt named = rw (← c.self.view_is) (record {
  po = none_grown c.self.inside.po.items;
  hb = none_grown c.self.inside.hb.items;
  lock = none_grown c.self.inside.locks.items;
  holds = omega (arith, lt, c.grow_to.ensures.most);
  thread_room = omega arith;
  lock_room = omega (arith, lt, c.grow_to.ensures.room);
})

pub returns-clause-grown : goal.returns-clause-grown
returns-clause-grown c t op lt named = rw (← c.self.view_is) (record {
  po = none_grown c.self.inside.po.items;
  hb = none_grown c.self.inside.hb.items;
  lock = row_grown lt named c.make_row.ensures.most c.make_row.ensures.others;
  holds = omega (arith, lt, c.grow_to.ensures.most);
  thread_room = omega arith;
  lock_room = omega (arith, lt, c.grow_to.ensures.room, c.make_row.ensures.room);
})
