use Rattle.std.proofs.Common.{inl, refl, arith}
use Rattle.std.proofs.lemmas.Result.{on_ok_weaker}
use Rattle.hb_clocks.proofs.HasGrownProperties.{thread_stays, ready_lock, ready_thread}
use Rattle.hb_clocks.proofs.HasGrownProperties.{grown_then, lock_grown, thread_grown}
use Rattle.hb_clocks.proofs.hb.HbClocks.prepare_for.Goals as goal

pub returns-in-Acquire-clause-kept : goal.returns-in-Acquire-clause-kept
returns-in-Acquire-clause-kept c t op ready =
    c.make_lock.ensures.kept t op (c.in_ok-make_thread.ensures.kept t op ready)

pub returns-in-Fork-clause-kept : goal.returns-in-Fork-clause-kept
returns-in-Fork-clause-kept c t op ready =
    c.make_thread-in-Fork.ensures.kept t op (c.in_ok-make_thread.ensures.kept t op ready)

pub returns-in-Acquire-clause-ready : goal.returns-in-Acquire-clause-ready
returns-in-Acquire-clause-ready c =
    on_ok_weaker c.make_lock.result (λ has. ready_lock c.make_lock.new.self c.args.thread c.args.op
    c.in-Acquire.lock c.in-Acquire.is (thread_stays c.make_thread.new.self c.make_lock.new.self c.args.thread
    c.make_lock.ensures.kept c.in_ok-make_thread.ensures.made) has.1 has.0) c.make_lock.ensures.made

pub returns-in-Fork-clause-ready : goal.returns-in-Fork-clause-ready
returns-in-Fork-clause-ready c =
    let more = c.make_thread-in-Fork in
    on_ok_weaker more.result (ready_thread more.new.self c.args.thread c.args.op c.in-Fork.child c.in-Fork.is
    (thread_stays c.make_thread.new.self more.new.self c.args.thread more.ensures.kept
    c.in_ok-make_thread.ensures.made)) more.ensures.made

pub returns-in_err-make_thread-clause-grown : goal.returns-in_err-make_thread-clause-grown
returns-in_err-make_thread-clause-grown c =
    c.make_thread.ensures.grown c.args.thread c.args.op (omega arith) (inl refl)

pub returns-in-Load-clause-grown : goal.returns-in-Load-clause-grown
returns-in-Load-clause-grown c =
    c.make_thread.ensures.grown c.args.thread c.args.op (omega arith) (inl refl)

pub returns-in-Acquire-clause-grown : goal.returns-in-Acquire-clause-grown
returns-in-Acquire-clause-grown c =
    let t = c.args.thread in
    let op = c.args.op in
    grown_then _ _ _ t op (c.make_thread.ensures.grown t op (omega arith) (inl refl))
    (lock_grown _ _ t op c.in-Acquire.lock c.in-Acquire.is (c.make_lock.ensures.grown t))

pub returns-in-Fork-clause-grown : goal.returns-in-Fork-clause-grown
returns-in-Fork-clause-grown c =
    let t = c.args.thread in
    let op = c.args.op in
    grown_then _ _ _ t op (c.make_thread.ensures.grown t op (omega arith) (inl refl))
    (thread_grown _ _ t op c.in-Fork.child c.in-Fork.is (c.make_thread-in-Fork.ensures.grown t))
