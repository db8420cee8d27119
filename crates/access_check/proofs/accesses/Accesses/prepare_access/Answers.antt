use Rattle.std.proofs.Common.{refl, rules, arith}
use Rattle.access_check.proofs.IsReadyForProperties.{room_for}
use Rattle.access_check.proofs.accesses.Accesses.prepare_access.Goals as goal

pub returns-clause-same : goal.returns-clause-same
returns-clause-same c = rw (← c.self.view_is) (record {
  limits = refl;
  counts = c.grow_to.ensures.same 0 (λ count given. search rules);
  accesses = c.prepare_at.ensures.same;
  room = λ t o had. record {
    thread = omega (arith, had.thread, c.grow_to.ensures.more);
    access = room_for _ _ t (c.prepare_at.ensures.more t) o had.access;
  };
})
