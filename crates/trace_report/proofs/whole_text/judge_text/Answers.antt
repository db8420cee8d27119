use Rattle.std.proofs.Common.{[], sym, subst}
use Rattle.trace_report.specs.declared.judged_text.JudgedText.{JudgedText}
use Rattle.trace_report.proofs.WholeTexts.{cut_says_nothing, fault_found, fault_whole, trace_found}
use Rattle.trace_report.proofs.WholeTexts.{truncated_text}
use Rattle.trace_report.proofs.whole_text.judge_text.Goals as goal

pub returns-in-Err-clause-fault : goal.returns-in-Err-clause-fault
returns-in-Err-clause-fault g c =
    let after = g.J.Judge.is_after in
    fault_found (λ (t : JudgedText g.row.J.Denot). t.names) (λ (t : JudgedText g.row.J.Denot). after t.judge)
    c.args.limits c.new-text.result c.new-text.ensures.names
    (subst (λ j. after j c.args.limits []) (sym c.new-text.ensures.judge) c.requires.begins) c.in-Err.fault
    c.in-Err.ensures.fault

pub returns-in-Err-clause-truncated : goal.returns-in-Err-clause-truncated
returns-in-Err-clause-truncated g c =
    let after = g.J.Judge.is_after in
    fault_whole (λ (t : JudgedText g.row.J.Denot). t.names) (λ (t : JudgedText g.row.J.Denot). after t.judge)
    c.args.limits c.new-text.result c.new-text.ensures.names
    (subst (λ j. after j c.args.limits []) (sym c.new-text.ensures.judge) c.requires.begins) c.in-Err.fault
    c.in-Err.ensures.fault

pub returns-in-Some-clause-fault : goal.returns-in-Some-clause-fault
returns-in-Some-clause-fault g c =
    cut_says_nothing c.args.limits (g.I.Input.left c.args.reader.now) c.in-Some.line

pub returns-in-Some-clause-truncated : goal.returns-in-Some-clause-truncated
returns-in-Some-clause-truncated g c read =
    let after = g.J.Judge.is_after in
    truncated_text (λ (t : JudgedText g.row.J.Denot). t.names)
    (λ (t : JudgedText g.row.J.Denot). after t.judge) c.args.limits c.new-text.result c.new-text.ensures.names
    (subst (λ j. after j c.args.limits []) (sym c.new-text.ensures.judge) c.requires.begins) c.in-Some.line
    c.take_text.new.sink (rw c.in-Some.is at c.in-Ok.ensures.truncated)

pub returns-clause-trace : goal.returns-clause-trace
returns-clause-trace g c =
    let after = g.J.Judge.is_after in
    trace_found (λ (t : JudgedText g.row.J.Denot). t.names) (λ (t : JudgedText g.row.J.Denot). after t.judge)
    c.args.limits c.new-text.result c.new-text.ensures.names
    (subst (λ j. after j c.args.limits []) (sym c.new-text.ensures.judge) c.requires.begins)
    c.take_text.new.sink (rw c.in_default.is at c.in-Ok.ensures.whole)
