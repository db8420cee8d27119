use Rattle.std.proofs.Common.{◌∙◌, sym, ap, refl, subst}
use Rattle.std.proofs.lemmas.Bool.{false≢true}
use Rattle.event_core.specs.declared.events.Op.TheVariants.{Fork, Join}
use Rattle.script_drive.specs.Faults.{IsFaultOf}
use Rattle.script_drive.specs.Workers.{Done}
use Rattle.script_drive.proofs.ReachProperties.{next_forked, next_joined}
use Rattle.script_drive.proofs.IsRunOfProperties.{call_does, joins_none, may_add, may_join, may_swap}
use Rattle.script_drive.proofs.IsRunOfProperties.{names_none}
use Rattle.script_drive.proofs.ScriptFaults.{acquires_none, act_fits, act_halts, held_back, held_used_up}
use Rattle.script_drive.proofs.ScriptFaults.{join_waits, line_refusal, swap_refusal_of}
use Rattle.script_drive.proofs.lines.make_call.Goals as goal

-- what a line's call adds to a run of the script makes it a longer one
pub perform-requires : goal.perform-requires
perform-requires g c = record {
  no_fork_no_join = names_none c.in-One.call.op c.in_default.not-Fork c.in_default.not-Join;
  keeps = may_add c.requires.next _ c.in-One.is refl refl (joins_none c.in-One.call.op c.in_default.not-Join);
}

pub acquire_within-pass-requires : goal.acquire_within-pass-requires
acquire_within-pass-requires g c = record {
  keeps = may_add c.requires.next 0 c.in-One.is c.in-Acquire.is refl (λ u. refl);
}

pub swap-requires : goal.swap-requires
swap-requires g c = record { keeps = may_swap c.requires.next c.in-Swap.is }

pub fork-requires : goal.fork-requires
fork-requires g c =
    let is = next_forked c.in-One.is c.in-Fork.is c.requires.serves.1 c.next_fork-sender.ensures.forks in
    record {
      keeps = may_add c.requires.next 0 c.in-One.is (c.in-Fork.is ∙ ap Fork (sym is)) refl
          (λ u. refl);
    }

pub join-requires : goal.join-requires
join-requires g c =
    let is = next_joined c.in-One.is c.in-Join.is c.requires.serves.1 c.next_join-receiver.ensures.joins in
    let done : Done g.S.DriveName.lines c.in-Join.field-0 c.in_ok-child-in-Join.child
    = subst (λ t. Done g.S.DriveName.lines t c.in_ok-child-in-Join.child) is
    c.in_ok-child-in-Join.ensures.done in
    record { keeps = may_join c.requires.next c.in-One.is c.in-Join.is done }

-- an act that is declined is so by the definition
pub returns-in_default-clause-halt : goal.returns-in_default-clause-halt
returns-in_default-clause-halt g c =
    let did = c.perform.ensures in
    act_halts c.requires.next did.answers.later did.keeps g.S.DriveName.ahead _ c.perform.result.1
    c.answered-in_default.result did.answers.declined
    (line_refusal _ c.args.line.now _ _ c.in-One.is refl c.requires.next.done.thread)
    c.answered-in_default.ensures.refused
    (λ is. absurd (false≢true (sym (acquires_none c.in-One.call.op c.in_default.not-Acquire) ∙ is)))

pub await_end-requires-clause-waits : goal.await_end-requires-clause-waits
await_end-requires-clause-waits g c = join_waits c.requires.next c.in-One.is c.in-Join.is

pub stuck-requires-clause-waits : goal.stuck-requires-clause-waits
stuck-requires-clause-waits g c = λ _.
    let did = c.acquire_within-pass.ensures in
    held_back c.requires.next did.answers.later did.keeps c.in-One.is c.in-Acquire.is did.answers.declined
    (c.is_held.ensures.held c.if-is_held.true)

pub stuck-requires-clause-used_up : goal.stuck-requires-clause-used_up
stuck-requires-clause-used_up g c =
    held_used_up c.acquire_within-pass.new.tries c.acquire_within-pass.result.1
    c.acquire_within-pass.ensures.tries.used_up (c.is_held.ensures.held c.if-is_held.true)

pub returns-else-is_held-clause-halt : goal.returns-else-is_held-clause-halt
returns-else-is_held-clause-halt g c =
    let did = c.acquire_within-pass.ensures in
    act_halts c.requires.next did.answers.later did.keeps g.S.DriveName.ahead _ c.acquire_within-pass.result.1
    c.answered.result did.answers.declined
    (line_refusal _ c.args.line.now _ _ c.in-One.is c.in-Acquire.is c.requires.next.done.thread)
    c.answered.ensures.refused (λ _. c.is_held.ensures.told c.if-is_held.false)

pub returns-in_default-Err-clause-halt : goal.returns-in_default-Err-clause-halt
returns-in_default-Err-clause-halt g c =
    let is = next_forked c.in-One.is c.in-Fork.is c.requires.serves.1 c.next_fork-sender.ensures.forks in
    subst (IsFaultOf g.S.Name.limits g.S.DriveName.ahead g.S.DriveName.lines) (sym c.refused.ensures)
    (act_fits c.requires.next c.fork.ensures.later c.fork.ensures.keeps g.S.DriveName.ahead
    (rw c.in_default-Err.is-1 at c.fork.ensures.declined)
    (line_refusal _ c.args.line.now _ _ c.in-One.is (c.in-Fork.is ∙ ap Fork (sym is))
    c.requires.next.done.thread)
    (λ is. absurd (false≢true is)))

pub returns-in_default-Err-join-clause-halt : goal.returns-in_default-Err-join-clause-halt
returns-in_default-Err-join-clause-halt g c =
    let is = next_joined c.in-One.is c.in-Join.is c.requires.serves.1 c.next_join-receiver.ensures.joins in
    subst (IsFaultOf g.S.Name.limits g.S.DriveName.ahead g.S.DriveName.lines)
    (sym c.refused-in_default-Err-join.ensures)
    (act_fits c.requires.next c.join.ensures.later c.join.ensures.keeps g.S.DriveName.ahead
    (rw c.in_default-Err-join.is-1 at c.join.ensures.declined)
    (line_refusal _ c.args.line.now _ _ c.in-One.is
    (c.in-Join.is ∙ ap Join (sym (c.in_ok-child-in-Join.ensures.done.thread ∙ is)))
    c.requires.next.done.thread)
    (λ is. absurd (false≢true is)))

pub returns-in-Swap-clause-halt : goal.returns-in-Swap-clause-halt
returns-in-Swap-clause-halt g c =
    let did = c.swap.ensures in
    act_halts c.requires.next did.answers.later did.keeps g.S.DriveName.ahead _ c.swap.result.1
    c.answered-in-Swap.result did.answers.declined
    (swap_refusal_of _ c.args.line.now c.in-Swap.is c.requires.next.done.thread)
    c.answered-in-Swap.ensures.refused (λ is. absurd (false≢true is))

-- and one that is accepted does the line
pub returns-in_default-Ok-clause-does : goal.returns-in_default-Ok-clause-does
returns-in_default-Ok-clause-does g c =
    let is = next_forked c.in-One.is c.in-Fork.is c.requires.serves.1 c.next_fork-sender.ensures.forks in
    call_does c.requires.next 0 c.in-One.is (c.in-Fork.is ∙ ap Fork (sym is)) refl c.fork.ensures.later
    (rw c.in_default-Ok.is-1 at c.fork.ensures.accepted)

pub returns-in_default-Ok-join-clause-does : goal.returns-in_default-Ok-join-clause-does
returns-in_default-Ok-join-clause-does g c =
    let is = next_joined c.in-One.is c.in-Join.is c.requires.serves.1 c.next_join-receiver.ensures.joins in
    call_does c.requires.next 0 c.in-One.is
    (c.in-Join.is ∙ ap Join (sym (c.in_ok-child-in-Join.ensures.done.thread ∙ is))) refl c.join.ensures.later
    (rw c.in_default-Ok-join.is-1 at c.join.ensures.accepted)
