use Rattle.std.proofs.Common.{◌≡◌, ◌<◌, ℕ, Bool, true, Some, ap, sym, ◌∙◌, subst}
use Rattle.std.specs.Prelude.{if◌then◌else◌}
use Rattle.std.proofs.lemmas.Option.{slice_get-get_or}
use Rattle.script_text.proofs.MarksProperties.{marks_reached, keeps_line, pass_line, pass_ends}
use Rattle.script_text.proofs.reached.spread.Goals as goal
use Rattle.script_text.proofs.reached.spread.Goals.{then-mark, else-mark}

pub lines-preserved : goal.lines-preserved
lines-preserved c =
    let at = slice_get-get_or c.args.lines.now c.lines.line-index _ c.lines-test.true
    ∙ ap Some (sym (c.get.ensures ∙ c.line-item.is)) in
    let is : c.if-mark.changed ≡ (if c.mark.result then true else c.lines.changed) =
    elim c.if-mark.branch [
      | then-mark w ↦ w.changed-is ∙ w.if-mark.true
          ∙ sym (ap (λ (b : Bool). if b then true else c.lines.changed) w.if-mark.true)
      | else-mark w ↦ w.changed-is
          ∙ sym (ap (λ (b : Bool). if b then true else c.lines.changed) w.if-mark.false)
    ] in
    record {
      sound = marks_reached c.args.lines.now c.lines.line-index _ c.lines.marks c.mark.new.marks c.mark.result
          at
          c.lines.invariant.sound c.mark.ensures;
      keeps = keeps_line _ c.args.marks.now c.lines.marks c.mark.new.marks c.mark.result
          c.lines.invariant.keeps
          c.mark.ensures;
      passed = pass_line c.args.lines.now _ c.args.marks.now c.lines.marks c.mark.new.marks c.lines.line-index
          c.lines.changed c.mark.result c.if-mark.changed c.lines.invariant.passed at c.mark.ensures is;
    }

pub returns-clause-closed : goal.returns-clause-closed
returns-clause-closed c = λ isnt.
    pass_ends c.args.lines.now c.args.marks.now c.lines.marks c.lines.line-index c.lines.changed
    c.lines-test.false
    c.lines.invariant.passed isnt

pub mark-requires : goal.mark-requires
mark-requires c = λ u named.
    let at = slice_get-get_or c.args.lines.now c.lines.line-index _ c.lines-test.true
    ∙ ap Some (sym (c.get.ensures ∙ c.line-item.is)) in
    subst (λ (n : ℕ). u < n) (sym c.lines.auto.marks) (c.requires.below c.lines.line-index _ u at named)
