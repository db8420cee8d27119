use Rattle.std.proofs.Common.{◌≡◌, sym, ◌∙◌, subst, refl, inr, true}
use Rattle.event_core.specs.declared.ids.ThreadId.{ThreadId}
use Rattle.script_text.specs.Marks.{is_marked}
use Rattle.script_text.proofs.MarksProperties.{own_named, child_named, sets}
use Rattle.script_text.proofs.reached.mark.Goals as goal

pub bounds-marks-thread : goal.bounds-marks-thread
bounds-marks-thread c = rw c.thread.ensures (c.requires _ (own_named c.args.line.now))

pub bounds-marks-child : goal.bounds-marks-child
bounds-marks-child c = c.requires c.in-Some.child.0
    (child_named c.args.line.now c.in-Some.child (sym c.fork.ensures ∙ c.in-Some.is))

pub bounds-marks-child-2 : goal.bounds-marks-child-2
bounds-marks-child-2 c = c.requires c.in-Some.child.0
    (child_named c.args.line.now c.in-Some.child (sym c.fork.ensures ∙ c.in-Some.is))

pub returns : goal.returns
returns c =
    let is = sym c.fork.ensures ∙ c.in-Some.is in
    let own = subst (λ (t : ThreadId). is_marked c.args.marks.now t.0 ≡ true) c.thread.ensures
    c.if-not-marks-thread.false in
    inr (
      refl,
      sets c.args.line.now c.in-Some.child c.args.marks.now is own c.if-marks-child.false
          (c.requires c.in-Some.child.0 (child_named c.args.line.now c.in-Some.child is)),
    )
