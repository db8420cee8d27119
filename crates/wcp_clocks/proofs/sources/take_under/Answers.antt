use Rattle.std.proofs.Common.{ℕ, ◌≤◌, length, refl, sym, ap, subst, ◌∙◌, arith}
use Rattle.std.proofs.lemmas.List.{length-map}
use Rattle.event_core.specs.declared.events.AccessKind.{AccessKind}
use Rattle.event_core.specs.declared.events.AccessKind.TheVariants.{Read, Write}
use Rattle.event_core.specs.Rows.{join, with_row}
use Rattle.hb_clocks.specs.Rows.{rows_of}
use Rattle.lock_queues.specs.Queues.{closed_of}
use Rattle.section_sum.specs.Sources.{most_sources}
use Rattle.section_sum.specs.Sums.{sources_of}
use Rattle.wcp_clocks.specs.declared.source_clocks.SourceClocks.{SourceClocks}
use Rattle.wcp_clocks.specs.MetReleases.{Released, rest, most_threads}
use Rattle.wcp_clocks.proofs.RowsKept.{thread_kept}
use Rattle.wcp_clocks.proofs.TakeLaws.{IsTakingAll, taking_begins, taking_on, taking_next, taking_ends}
use Rattle.wcp_clocks.proofs.sources.take_under.Goals as goal

at_most_two : (k : AccessKind) → most_sources k ≤ 2
at_most_two Read = omega arith
at_most_two Write = omega arith

pub loop-release-init : goal.loop-release-init
loop-release-init c =
    let lent = c.sources_under-release-items in
    let numbers = sources_of c.args.sums.now c.args.lock.0 c.args.var.0 c.args.kind c.args.thread.0 in
    let many = ap length lent.ensures.rest ∙ length-map numbers _ in
    let few : length numbers ≤ 2
    = (let most = lent.ensures.at_most in let two = at_most_two c.args.kind in omega arith) in
    subst (λ (r : SourceClocks). IsTakingAll c.args.sums.now (closed_of c.args.queues.now) c.args.lock.0
    c.args.var.0 c.args.thread.0 c.args.kind c.args.rows.now c.args.rows.now c.args.work.now c.args.work.now
    (rest r) (most_threads r) c.args.queues.now.limits.threads)
    (sym c.into_iter-release-iterator.ensures.into_iter_gives)
    (record {
      numbers = numbers;
      are = sym lent.ensures.rest;
      taking = taking_begins numbers refl few;
      threads = lent.ensures.threads;
    })

pub take_release-requires-clause-room : goal.take_release-requires-clause-room
take_release-requires-clause-room c =
    thread_kept c.loop-release.invariant.taking.kept _ c.requires.room

pub take_release-requires-clause-within : goal.take_release-requires-clause-within
take_release-requires-clause-within c =
    let is = c.loop-release.invariant in
    let width = is.taking.kept.width in
    let within = c.in-Some.ensures.steps.within in
    let threads = is.threads in
    let wide = c.requires.wide in
    omega arith

pub take_release-requires-clause-few : goal.take_release-requires-clause-few
take_release-requires-clause-few c =
    let joins = c.loop-release.invariant.taking.joins in let few = c.requires.few in omega arith

pub loop-release-preserved : goal.loop-release-preserved
loop-release-preserved c =
    let rows : ℕ → ℕ → ℕ = rows_of c.loop-release.rows.thread in
    let t : ℕ = c.args.thread.0 in
    let e = c.take_release.ensures in
    let steps = c.in-Some.ensures.steps in
    let next = taking_next _ _ c.loop-release.invariant steps.first in
    record {
      numbers = next.others;
      are = next.there;
      taking = taking_on next.taking
          (e.threads ∙ ap (λ (r : Released). with_row t (join (rows t) r.clock) rows) (sym next.here))
          e.locks e.kept e.work;
      threads = steps.threads ∙ c.loop-release.invariant.threads;
    }

pub returns : goal.returns
returns c =
    let done = taking_ends c.loop-release.invariant c.in-None.ensures.steps.first.0 in
    let joins = done.joins in
    let made = done.made in
    let own : ℕ → ℕ → ℕ = rows_of c.args.rows.now.thread in
    record {
      threads = done.shape ∙ ap (λ (g : ℕ → ℕ). with_row c.args.thread.0 g own) (λ i u. done.joined u i);
      locks = done.lock;
      kept = done.kept;
      joins = omega arith;
      joins_exact = omega arith;
      comparisons = done.comparisons;
    }
