use Rattle.std.proofs.Common.{◌≡◌, ℕ, ◌<◌, ◌≤◌, ◌+◌, Bool, refl, sym, ap, subst, ◌∙◌, arith}
use Rattle.event_core.specs.declared.ids.ThreadId.{ThreadId}
use Rattle.event_core.specs.declared.bounds.TheConstants.{MOST_EVENTS}
use Rattle.event_core.specs.declared.events.Op.{Op}
use Rattle.event_core.specs.Rows.{clock_after, brought, with_row, to_child, to_lock}
use Rattle.event_core.specs.Effect.{Effect}
use Rattle.hb_clocks.specs.Holds.{effect_by}
use Rattle.hb_clocks.specs.State.{without_locks, joins_of}
use Rattle.hb_clocks.specs.Work.{Done}
use Rattle.hb_clocks.specs.Tables.{hb_rows, HasThread, HasClocks}
use Rattle.hb_clocks.specs.Rows.{rows_of, widths_of}
use Rattle.hb_clocks.proofs.TableSteps.{child_step, lock_step, own_few, brought_few, depth_few, exact_step}
use Rattle.hb_clocks.proofs.TableSteps.{effect_told, thread_kept, clocks_kept}
use Rattle.hb_clocks.proofs.MadeRows.{row_within}
use Rattle.hb_clocks.proofs.step.advance_tables.Goals as goal

pub count_depth-outer-requires-clause-few : goal.count_depth-outer-requires-clause-few
count_depth-outer-requires-clause-few c =
    depth_few c.args.po.now c.args.hb.now c.args.locks.now c.args.holds.now c.requires.few

pub bump_row-requires-clause-within : goal.bump_row-requires-clause-within
bump_row-requires-clause-within c =
    let t : ℕ = c.args.event.now.thread.0 in
    let e : widths_of c.take.new.po t ≡ widths_of c.args.po.now t =
    ap (λ (f : ℕ → ℕ). f t) c.take.ensures.po_widths in
    subst (λ n. t < n) (sym e) c.requires.thread.within

pub bump_row-requires-clause-room : goal.bump_row-requires-clause-room
bump_row-requires-clause-room c =
    row_within c.take.new.po c.args.event.now.thread.0 (omega (arith, bump_row-requires-clause-within c))

pub bump_row-requires-clause-few : goal.bump_row-requires-clause-few
bump_row-requires-clause-few c =
    let t : ThreadId = c.args.event.now.thread in
    let f : ℕ → ℕ → ℕ = rows_of c.args.po.now in
    let k : Effect = effect_by c.args.event.now.op c.count_depth-outer.result in
    let h : rows_of c.take.new.po t.0 t.0 ≤ MOST_EVENTS =
    own_few t.0 MOST_EVENTS (brought k (without_locks f)) f (rows_of c.take.new.po) c.take.ensures.po
    (c.requires.few.po t t) (brought_few MOST_EVENTS (without_locks f) c.requires.few.po
    (λ l u. omega arith) k t) in
    omega arith

pub bump_row-requires-2-clause-within : goal.bump_row-requires-2-clause-within
bump_row-requires-2-clause-within c =
    let t : ℕ = c.args.event.now.thread.0 in
    let e : widths_of c.take.new.hb t ≡ widths_of c.args.hb.now t =
    ap (λ (f : ℕ → ℕ). f t) c.take.ensures.hb_widths in
    subst (λ n. t < n) (sym (e ∙ c.requires.thread.hb_made.wide)) c.requires.thread.within

pub bump_row-requires-2-clause-room : goal.bump_row-requires-2-clause-room
bump_row-requires-2-clause-room c =
    row_within c.take.new.hb c.args.event.now.thread.0 (omega (arith, bump_row-requires-2-clause-within c))

pub bump_row-requires-2-clause-few : goal.bump_row-requires-2-clause-few
bump_row-requires-2-clause-few c =
    let t : ThreadId = c.args.event.now.thread in
    let f : ℕ → ℕ → ℕ = rows_of c.args.hb.now in
    let r = hb_rows c.args.hb.now c.args.locks.now in
    let k : Effect = effect_by c.args.event.now.op c.count_depth-outer.result in
    let h : rows_of c.take.new.hb t.0 t.0 ≤ MOST_EVENTS =
    own_few t.0 MOST_EVENTS (brought k r) f (rows_of c.take.new.hb) c.take.ensures.hb
    (c.requires.few.hb t t) (brought_few MOST_EVENTS r c.requires.few.hb c.requires.few.lock k t) in
    omega arith

pub give-requires-clause-thread : goal.give-requires-clause-thread
give-requires-clause-thread c =
    let t : ℕ = c.args.event.now.thread.0 in
    let p = c.bump_row.ensures.widths ∙ c.take.ensures.po_widths in
    let h = c.bump_row-2.ensures.widths ∙ c.take.ensures.hb_widths in
    subst (λ w. HasThread w c.bump_row.new.rows c.bump_row-2.new.rows t) (sym (ap (λ (f : ℕ → ℕ). f t) p))
    (thread_kept (widths_of c.args.po.now t) t c.args.po.now c.args.hb.now c.bump_row.new.rows
    c.bump_row-2.new.rows p h c.requires.thread)

pub give-requires-clause-clocks : goal.give-requires-clause-clocks
give-requires-clause-clocks c =
    let t : ℕ = c.args.event.now.thread.0 in
    let op : Op = c.args.event.now.op in
    let p = c.bump_row.ensures.widths ∙ c.take.ensures.po_widths in
    let h = c.bump_row-2.ensures.widths ∙ c.take.ensures.hb_widths in
    subst (λ w. HasClocks w c.bump_row.new.rows c.bump_row-2.new.rows c.args.locks.now op)
    (sym (ap (λ (f : ℕ → ℕ). f t) p))
    (clocks_kept (widths_of c.args.po.now t) c.args.po.now c.args.hb.now c.args.locks.now
    c.bump_row.new.rows c.bump_row-2.new.rows
    c.args.locks.now op p h refl c.requires.clocks)

pub returns-clause-work : goal.returns-clause-work
returns-clause-work c =
    let op : Op = c.args.event.now.op in
    let done : Effect → Done =
    λ k. record { comparisons = c.args.work.now.comparisons; joins = c.args.work.now.joins + joins_of k } in
    c.take.ensures.work
    ∙ ap done (ap (effect_by op) c.count_depth-outer.ensures.outer
    ∙ sym (effect_told c.args.po.now c.args.hb.now c.args.locks.now c.args.holds.now c.args.event.now
    c.requires.admits))

pub returns-clause-exact : goal.returns-clause-exact
returns-clause-exact c =
    let t : ℕ = c.args.event.now.thread.0 in
    let op : Op = c.args.event.now.op in
    let k : Effect = effect_by op c.count_depth-outer.result in
    let f : ℕ → ℕ → ℕ = rows_of c.args.po.now in
    let g : ℕ → ℕ → ℕ = rows_of c.args.hb.now in
    let locks = hb_rows c.args.hb.now c.args.locks.now in
    let e = c.count_depth-outer.ensures.outer in
    exact_step c.args.po.now c.args.hb.now c.args.locks.now c.args.holds.now c.args.event.now
    c.give.new.po c.give.new.hb c.give.new.locks c.count_depth-outer.new.holds c.requires.hold
    c.requires.admits
    (subst (λ (b : Bool). rows_of c.give.new.po ≡ to_child (effect_by op b)
    (clock_after c.args.event.now.thread (effect_by op b) (without_locks f))
    (with_row t (clock_after c.args.event.now.thread (effect_by op b) (without_locks f)) f)) e
    (child_step t (brought k (without_locks f)) f (rows_of c.take.new.po)
    (rows_of c.bump_row.new.rows) c.take.ensures.po c.bump_row.ensures.rows k
    (rows_of c.give.new.po) c.give.ensures.po))
    (subst (λ (b : Bool). rows_of c.give.new.hb ≡ to_child (effect_by op b)
    (clock_after c.args.event.now.thread (effect_by op b) locks)
    (with_row t (clock_after c.args.event.now.thread (effect_by op b) locks) g)) e
    (child_step t (brought k locks) g (rows_of c.take.new.hb)
    (rows_of c.bump_row-2.new.rows) c.take.ensures.hb c.bump_row-2.ensures.rows k
    (rows_of c.give.new.hb) c.give.ensures.hb))
    (subst (λ (b : Bool). rows_of c.give.new.locks ≡ to_lock (effect_by op b)
    (clock_after c.args.event.now.thread (effect_by op b) locks) (rows_of c.args.locks.now)) e
    (lock_step t (brought k locks) g (rows_of c.take.new.hb)
    (rows_of c.bump_row-2.new.rows) c.take.ensures.hb c.bump_row-2.ensures.rows k
    (rows_of c.args.locks.now) (rows_of c.give.new.locks) c.give.ensures.lock))
    c.count_depth-outer.ensures.holds
