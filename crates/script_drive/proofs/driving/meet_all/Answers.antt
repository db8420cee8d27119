use Rattle.std.proofs.Common.{rules, ◌≡◌, ◌∷◌, ◌++◌, [], Err, None, Ok, Some, length, subst, sym}
use Rattle.std.specs.Prelude.{IfErr}
use Rattle.std.specs.List.{All}
use Rattle.std.proofs.lemmas.Iterator.Adapters.{YieldsList-from_vec}
use Rattle.std.proofs.lemmas.Iterator.Consumers.{YieldsList-turn}
use Rattle.std.proofs.lemmas.List.Elements.{All-push, All-weaker}
use Rattle.log_pass.proofs.Prefixes.{prefix_trans}
use Rattle.script_drive.specs.Ends.{EndMet, WorkerEnd}
use Rattle.script_drive.specs.Faults.{IsHaltOf}
use Rattle.script_drive.proofs.Ends.{met_later, met_now, seeing_more}
use Rattle.script_drive.proofs.ScriptFaults.{answer_fits}
use Rattle.script_drive.proofs.driving.meet_all.Goals as goal

pub loop-end-preserved-in-Ok-Some : goal.loop-end-preserved-in-Ok-Some
loop-end-preserved-in-Ok-Some g c =
    let met = c.meet.ensures in
    let p = c.loop-end.pass in
    let q = c.meet.result.0 in
    let last = c.in-Ok-Some.last in
    let before = c.loop-end.invariant in
    let is : c.in-Some.end ≡ Ok (Some last) = search rules in (
      seeing_more c.args.pass p q before.0 met.first,
      prefix_trans c.args.pass.seen p.seen q.seen before.1 met.first_begins,
      subst (λ (end : WorkerEnd). All (EndMet q) (c.loop-end.yielded ++ end ∷ [])) (sym is)
          (All-push (EndMet q) c.loop-end.yielded (Ok (Some last))
          (All-weaker (EndMet p) (EndMet q) (λ end. met_later p q end met.first_begins) c.loop-end.yielded
          before.2)
          (met_now g.S.Name.limits q c.meet.result.1 last met.second met.second_is_pass)),
    )

pub loop-end-preserved : goal.loop-end-preserved
loop-end-preserved g c =
    let p = c.loop-end.pass in
    let before = c.loop-end.invariant in
    let is : c.in-Some.end ≡ Ok None = search rules in (
      before.0,
      before.1,
      subst (λ (end : WorkerEnd). All (EndMet p) (c.loop-end.yielded ++ end ∷ [])) (sym is)
          (All-push (EndMet p) c.loop-end.yielded (Ok None) before.2 tt),
    )

pub returns-in-Err-clause-fault : goal.returns-in-Err-clause-fault
returns-in-Err-clause-fault g c =
    let m = g.S.Name.limits in
    let ahead = g.S.DriveName.ahead in
    let script = g.S.DriveName.lines in
    let turn = YieldsList-turn (YieldsList-from_vec {s = c.into_iter-end-iterator.result} c.args.ends.items
    (search rules) (search rules)) c.loop-end.yielded c.loop-end.end-iterator c.loop-end.yielded_by
    c.next.result c.next.new.self c.in-Some.end c.in-Some.is c.next.ensures.steps in
    let halt : IfErr c.in-Some.end (IsHaltOf m ahead script)
    = subst (λ (end : WorkerEnd). IfErr end (IsHaltOf m ahead script)) (sym turn.1)
    (c.requires.halts (length c.loop-end.yielded) c.in-Some.end turn.0) in
    let is : c.in-Some.end ≡ Err c.in-Err.halt = search rules in
    answer_fits m ahead script c.in-Err.halt None c.answer.result
    (subst (λ (end : WorkerEnd). IfErr end (IsHaltOf m ahead script)) is halt) tt c.answer.ensures
