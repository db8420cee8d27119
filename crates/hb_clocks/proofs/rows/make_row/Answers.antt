use Rattle.std.proofs.Common.{rules, [], set, sym, ◌∙◌, arith}
use Rattle.hb_clocks.specs.Counts.{counts_of}
use Rattle.hb_clocks.proofs.MadeRows.{Remade, remade, remade_kept, remade_made, remade_wide}
use Rattle.hb_clocks.proofs.rows.make_row.Goals as goal

pub returns-else-width-eq0-clause-same : goal.returns-else-width-eq0-clause-same
returns-else-width-eq0-clause-same c i t =
    counts_of (c.in_ok-grow_to.ensures.same [] (λ row unmade. search rules) t i)

made : (c : goal.After-drop-index_mut)
    → Remade c.args.width c.args.at c.args.rows.now.items
    (set c.grow_to.new.list.items c.args.at c.in_ok-rows.field-0)
made c =
    remade c.args.width c.args.at c.args.rows.now.items c.grow_to.new.list.items c.index.result.now
    c.in_ok-rows.field-0 (c.in_ok-grow_to.ensures.same [] (λ row unmade. search rules))
    (omega (arith, c.in_ok-grow_to.ensures.ok)) c.index.ensures (sym c.width.ensures ∙ c.if-width-eq0.true)
    c.in_ok-rows.ensures

pub returns-in_ok-rows-clause-same : goal.returns-in_ok-rows-clause-same
returns-in_ok-rows-clause-same c = (made c).same

pub returns-in_ok-rows-clause-wide : goal.returns-in_ok-rows-clause-wide
returns-in_ok-rows-clause-wide c = remade_wide _ _ _ _ (made c) c.requires.wide

pub returns-in_ok-rows-clause-kept : goal.returns-in_ok-rows-clause-kept
returns-in_ok-rows-clause-kept c = remade_kept _ _ _ _ (made c)

pub returns-in_ok-rows-clause-others : goal.returns-in_ok-rows-clause-others
returns-in_ok-rows-clause-others c = (made c).others

pub returns-in_ok-rows-clause-made : goal.returns-in_ok-rows-clause-made
returns-in_ok-rows-clause-made c = remade_made _ _ _ _ (made c)
