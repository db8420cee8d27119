use Rattle.std.proofs.Common.{List, [], ◌∷◌, ◌++◌, sym, ap, subst, ◌∙◌, arith, max, vec_capacity}
use Rattle.std.proofs.lemmas.Grind.{common_steps}
use Rattle.std.proofs.lemmas.List.{with_items_is}
use Rattle.std.specs.Vec.{with_items}
use Rattle.hb_clocks.specs.declared.holds.Hold.{Hold}
use Rattle.hb_clocks.specs.Holds.{holds_after}
use Rattle.hb_clocks.specs.Standing.{StandsFor}
use Rattle.hb_clocks.specs.Tables.{ClockTables, state_of, IsReady, SameMemory}
use Rattle.hb_clocks.proofs.LegalSteps.{step_stands}
use Rattle.hb_clocks.proofs.TableSteps.{IsStepped, stepped, written_rows}
use Rattle.hb_clocks.proofs.hb.HbClocks.advance.Goals as goal

pub returns-clause-exact : goal.returns-clause-exact
returns-clause-exact c = grind (arith, common_steps)

pub returns-clause-stands : goal.returns-clause-stands
returns-clause-stands c limits log w st =
    subst (StandsFor (log ++ c.args.event.now ∷ [])) (sym (returns-clause-exact c))
    (step_stands limits log c.args.event.now (state_of c.args.self.now) w st)

-- the tables as the step finds and as it leaves them
abbrev found : goal.After-self-4-1 → ClockTables
found c = record {
  width = c.self.inside.width;
  po = c.self.inside.po.items;
  hb = c.self.inside.hb.items;
  lock = c.self.inside.locks.items;
  holds = c.self.inside.holds.items;
  thread_room = max (vec_capacity c.self.inside.po) (vec_capacity c.self.inside.hb);
  lock_room = max (vec_capacity c.self.inside.locks) (vec_capacity c.self.inside.holds);
}

abbrev left : goal.After-self-4-1 → ClockTables
left c = let f : ClockTables = found c in record f {
  po = (with_items c.self.inside.po c.advance_tables.new.po).items;
  hb = (with_items c.self.inside.hb c.advance_tables.new.hb).items;
  lock = (with_items c.self.inside.locks c.advance_tables.new.locks).items;
  holds = (with_items c.self.inside.holds c.advance_tables.new.holds).items;
}

step : (c : goal.After-self-4-1) → IsStepped c.self.inside.zeros (found c) (left c)
step c =
    let s = c.self.inside in
    let a = c.advance_tables in
    let t = c.args.event.now.thread in
    let op = c.args.event.now.op in
    stepped s.zeros (found c) (left c).po (left c).hb (left c).lock (left c).holds t op
    (written_rows s.po _ a.new.po c.deref_mut.ensures.len c.deref_mut.ensures.value a.auto.po
    a.ensures.po_widths)
    (written_rows s.hb _ a.new.hb c.deref_mut-2.ensures.len c.deref_mut-2.ensures.value a.auto.hb
    a.ensures.hb_widths)
    (written_rows s.locks _ a.new.locks c.deref_mut-3.ensures.len c.deref_mut-3.ensures.value a.auto.locks
    a.ensures.lock_widths)
    (with_items_is s.holds a.new.holds (a.auto.holds ∙ c.deref_mut-4.ensures.len) ∙ a.ensures.holds
    ∙ ap (λ (xs : List Hold). holds_after t.0 op xs) c.deref_mut-4.ensures.value)
    c.self.invariant

pub invariant_of-self : goal.invariant_of-self
invariant_of-self c = (step c).tables

pub returns-clause-memory : goal.returns-clause-memory
returns-clause-memory c = subst (λ (v : ClockTables). SameMemory v (left c)) c.self.view_is (step c).memory

pub returns-clause-kept : goal.returns-clause-kept
returns-clause-kept c t op ready =
    (step c).kept t op (subst (λ (v : ClockTables). IsReady v t op) (sym c.self.view_is) ready)
