use Rattle.std.proofs.Common.{ap, sym, subst, ◌∙◌}
use Rattle.event_core.specs.declared.bounds.Limits.{Limits}
use Rattle.event_core.specs.Refusal.{WellFormed}
use Rattle.traced_mem.specs.Tables.{meaning, cells_of, lock_of, MemoryTables}
use Rattle.traced_mem.specs.Room.{IsReady}
use Rattle.traced_mem.proofs.GrownProperties.{below_grown, ready_grown}
use Rattle.traced_mem.proofs.memory.Memory.prepare_for.Goals as goal

pub invariant_of-self : goal.invariant_of-self
invariant_of-self c = record {
  kept = c.self.invariant.kept;
  sum = c.self.invariant.sum ∙ sym c.grow.ensures.total;
  held = below_grown _ _ c.grow.ensures.threads.more c.grow.ensures.locks c.self.invariant.held;
}

pub returns-clause-same : goal.returns-clause-same
returns-clause-same c =
    (λ i. record {
      length = c.self.inside.length;
      holds = c.self.inside.holds;
      thread = c.grow.ensures.threads.rows i;
      lock = λ l. lock_of (c.grow.ensures.locks i l);
      cell = cells_of (c.grow.ensures.cells i);
    })
    ∙ ap meaning c.self.view_is

pub returns-clause-kept : goal.returns-clause-kept
returns-clause-kept c u o r =
    ready_grown c.grow.ensures.threads c.grow.ensures.more_locks c.grow.ensures.more_cells u o
    (subst (λ (s : MemoryTables). IsReady s u o) (sym c.self.view_is) r)

pub returns-clause-stands : goal.returns-clause-stands
returns-clause-stands c log s = record {
  well_formed = subst (λ (k : Limits). WellFormed k log) (ap (λ (t : MemoryTables). t.limits)
      (sym c.self.view_is))
      s.well_formed;
  means = returns-clause-same c ∙ s.means;
}
