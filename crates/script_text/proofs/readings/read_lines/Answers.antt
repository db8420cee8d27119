use Rattle.std.proofs.Common.{◌≡◌, Ok, subst, sym}
use Rattle.std.specs.Prelude.{IfSome}
use Rattle.rapid_text.specs.Turns.{IsCutShort}
use Rattle.script_text.specs.Scripts.{IsDraft, Parsed, script_of}
use Rattle.script_text.proofs.IsFaultProperties.{read_draft, read_fault, read_script, stopped_fault}
use Rattle.script_text.proofs.readings.read_lines.Goals as goal

pub returns-in-Err-clause-fault : goal.returns-in-Err-clause-fault
returns-in-Err-clause-fault g c =
    let left = g.I.Input.left in
    let input = c.take_text.new.input in
    stopped_fault c.args.limits (left c.args.reader.now) (left input)
    (IsCutShort c.args.turns (g.I.Input.failed input) (g.I.Input.pulls c.args.reader.now)
    (g.I.Input.pulls input)) c.in-Err.fault
    (rw (c.new.ensures, c.new-2.ensures.items) at c.in-Err.ensures.fault)

pub returns-in-Some-clause-fault : goal.returns-in-Some-clause-fault
returns-in-Some-clause-fault g c =
    let left = g.I.Input.left in
    let input = c.take_text.new.input in
    read_fault c.args.limits (left c.args.reader.now) (left input)
    (IsCutShort c.args.turns (g.I.Input.failed input) (g.I.Input.pulls c.args.reader.now)
    (g.I.Input.pulls input)) c.in-Some.line c.take_text.new.sink
    (rw (c.in-Some.is, c.new.ensures, c.new-2.ensures.items) at c.in-Ok.ensures.truncated)

pub returns-clause-ok : goal.returns-clause-ok
returns-clause-ok g c =
    let left = g.I.Input.left c.args.reader.now in
    subst (λ (s : Parsed). IfSome left (λ text. script_of c.args.limits text ≡ Ok s)) (sym c.draft.view_is)
    (read_script c.args.limits left c.take_text.new.sink
    (rw (c.in_default.is, c.new.ensures, c.new-2.ensures.items) at c.in-Ok.ensures.whole))

pub returns-clause-draft : goal.returns-clause-draft
returns-clause-draft g c =
    let left = g.I.Input.left c.args.reader.now in
    subst IsDraft (sym c.draft.view_is)
    (read_draft c.args.limits left c.take_text.new.sink
    (rw (c.in_default.is, c.new.ensures, c.new-2.ensures.items) at c.in-Ok.ensures.whole))
