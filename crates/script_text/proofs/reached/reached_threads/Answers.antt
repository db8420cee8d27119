use Rattle.std.proofs.Common.{◌≡◌, List, Bool, true, false, sym, subst, ◌∙◌, arith, ap, rules, set}
use Rattle.std.specs.Prelude.{replicate}
use Rattle.script_text.specs.Marks.{is_marked}
use Rattle.script_text.proofs.MarksProperties.{all_marked, written, written_len, main_reached, main_marked}
use Rattle.script_text.proofs.reached.reached_threads.Goals as goal

pub returns-clause-all : goal.returns-clause-all
returns-clause-all c = λ some u r.
    let value = c.as_mut_slice-in-spreads.ensures.value in
    let first = c.spread.ensures.keeps 0
    (subst (λ (m : List Bool). is_marked m 0 ≡ true) (sym value) (c.spreads.invariant.first some)) in
    let all = all_marked c.args.lines.now c.spread.new.marks
    (c.spread.ensures.closed c.spreads-test.false) first u r in
    subst (λ (m : List Bool). is_marked m u ≡ true)
    (sym (written c.spread.auto.marks value (sym c.spreads.marks.ok.0))) all

pub returns-clause-len : goal.returns-clause-len
returns-clause-len c =
    written_len c.spread.new.marks c.spread.auto.marks c.as_mut_slice-in-spreads.ensures.value
    (sym c.spreads.marks.ok.0) c.spreads.invariant.len

pub spreads-preserved : goal.spreads-preserved
spreads-preserved c =
    let value = c.as_mut_slice-in-spreads.ensures.value in
    let ok = sym c.spreads.marks.ok.0 in
    let is = written c.spread.auto.marks value ok in
    record {
      len = written_len c.spread.new.marks c.spread.auto.marks value ok c.spreads.invariant.len;
      sound = λ u m. c.spread.ensures.sound u (subst (λ (m : List Bool). is_marked m u ≡ true) is m);
      first = λ some. subst (λ (m : List Bool). is_marked m 0 ≡ true) (sym is)
          (c.spread.ensures.keeps 0
          (subst (λ (m : List Bool). is_marked m 0 ≡ true) (sym value) (c.spreads.invariant.first some)));
    }

pub spreads-init : goal.spreads-init
spreads-init c =
    let n = c.args.threads in
    let value = c.as_mut_slice.ensures.value in
    let set_one = c.mark_main.ensures ∙ ap (λ (m : List Bool). set m 0 true) value in
    let none : c.in-Ok.marks.items ≡ replicate c.args.threads false = search rules in
    let ok = sym c.in-Ok.marks.ok.0 in
    let is = written c.mark_main.auto.marks value ok ∙ set_one ∙ ap (λ (m : List Bool). set m 0 true) none in
    record {
      len = written_len c.mark_main.new.marks c.mark_main.auto.marks value ok
          (omega (arith, ok, c.in-Ok.ensures.len));
      sound = λ u marked. main_reached c.args.lines.now n u
          (subst (λ (m : List Bool). is_marked m u ≡ true) is marked);
      first = λ some. subst (λ (m : List Bool). is_marked m 0 ≡ true) (sym is) (main_marked n some);
    }
