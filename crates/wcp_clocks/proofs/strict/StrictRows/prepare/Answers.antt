use Rattle.std.proofs.Common.{inl, inr, refl}
use Rattle.std.proofs.lemmas.Result.{on_ok_weaker}
use Rattle.wcp_clocks.proofs.RowsGrown.{thread_grown, lock_grown, thread_named, grown_then, keeps_then}
use Rattle.wcp_clocks.proofs.RowsGrown.{lock_ready, thread_ready}
use Rattle.wcp_clocks.proofs.strict.StrictRows.prepare.Goals as goal

pub returns-in-Acquire-clause-kept : goal.returns-in-Acquire-clause-kept
returns-in-Acquire-clause-kept c = keeps_then c.in_ok-make_thread.ensures.kept c.make_lock.ensures.kept

pub returns-in-Fork-clause-kept : goal.returns-in-Fork-clause-kept
returns-in-Fork-clause-kept c =
    keeps_then c.in_ok-make_thread.ensures.kept c.make_thread-in-Fork.ensures.kept

pub returns-in-Acquire-clause-ready : goal.returns-in-Acquire-clause-ready
returns-in-Acquire-clause-ready c =
    on_ok_weaker c.make_lock.result (λ has. lock_ready c.args.thread c.args.op c.in-Acquire.lock
    c.in-Acquire.is (c.make_lock.ensures.kept.thread _ c.in_ok-make_thread.ensures.made) has)
    c.make_lock.ensures.made

pub returns-in-Fork-clause-ready : goal.returns-in-Fork-clause-ready
returns-in-Fork-clause-ready c =
    let more = c.make_thread-in-Fork in
    on_ok_weaker more.result (λ has. thread_ready c.args.thread c.args.op c.in-Fork.child c.in-Fork.is
    (more.ensures.kept.thread _ c.in_ok-make_thread.ensures.made) has) more.ensures.made

pub returns-in_err-make_thread-clause-grown : goal.returns-in_err-make_thread-clause-grown
returns-in_err-make_thread-clause-grown c =
    thread_grown c.args.thread c.args.op _ (inl refl) c.make_thread.ensures.grown

pub returns-in-Load-clause-grown : goal.returns-in-Load-clause-grown
returns-in-Load-clause-grown c =
    thread_grown c.args.thread c.args.op _ (inl refl) c.make_thread.ensures.grown

pub returns-in-Acquire-clause-grown : goal.returns-in-Acquire-clause-grown
returns-in-Acquire-clause-grown c =
    grown_then (thread_grown c.args.thread c.args.op _ (inl refl) c.make_thread.ensures.grown)
    (lock_grown c.args.thread c.args.op _ c.in-Acquire.is c.make_lock.ensures.grown)

pub returns-in-Fork-clause-grown : goal.returns-in-Fork-clause-grown
returns-in-Fork-clause-grown c =
    grown_then (thread_grown c.args.thread c.args.op _ (inl refl) c.make_thread.ensures.grown)
    (thread_grown c.args.thread c.args.op _ (inr (thread_named _ c.in-Fork.is))
    c.make_thread-in-Fork.ensures.grown)
