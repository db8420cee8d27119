use Rattle.std.proofs.Common.{List, subst}
use Rattle.rapid_text.specs.Turns.{IsCutShort}
use Rattle.script_text.specs.declared.lines.ScriptLine.{ScriptLine}
use Rattle.script_text.specs.Scripts.{IsScript}
use Rattle.script_text.specs.Readings.{Incomplete}
use Rattle.script_text.proofs.IsFaultProperties.{incomplete_fault}
use Rattle.script_text.proofs.script.Script.read.Goals as goal

pub invariant_of-result : goal.invariant_of-result
invariant_of-result g c =
    subst (λ (ls : List ScriptLine). IsScript (record { names = c.in_ok-names.names; lines = ls }))
    c.as_slice.ensures.value c.in_default.ensures.ok

pub returns-in-Err-clause-fault : goal.returns-in-Err-clause-fault
returns-in-Err-clause-fault g c =
    let reader = c.read_lines.new.reader in
    incomplete_fault c.args.limits (g.I.Input.left c.args.reader.now) (g.I.Input.left reader)
    (IsCutShort c.args.turns (g.I.Input.failed reader) (g.I.Input.pulls c.args.reader.now)
    (g.I.Input.pulls reader)) (record { names = c.in_ok-names.names; lines = c.in_ok-names.lines.items })
    c.in-Err.fault c.in_ok-names.ensures.ok
    (subst (λ (ls : List ScriptLine). Incomplete ls c.in-Err.fault) c.as_slice.ensures.value
    c.in-Err.ensures.fault)
