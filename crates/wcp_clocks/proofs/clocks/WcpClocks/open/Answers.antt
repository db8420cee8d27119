use Rattle.std.proofs.Common.{◌≡◌, ℕ, ◌<◌, ap, sym, subst, ◌∙◌, arith, refl}
use Rattle.event_core.specs.Rows.{with_row}
use Rattle.event_core.specs.Effect.{Effect, Opens}
use Rattle.hb_clocks.specs.Work.{Done}
use Rattle.lock_queues.specs.Queues.{opened_of}
use Rattle.wcp_laws.specs.Step.{hb_row}
use Rattle.wcp_clocks.specs.Met.{met_clocks, AreNumbers}
use Rattle.wcp_clocks.specs.Parts.{hb_of, state_of, parts_of}
use Rattle.wcp_clocks.proofs.ReleaseAtProperties.{counts_itself}
use Rattle.wcp_clocks.proofs.EffectWords.{own_happens_before, own_opened}
use Rattle.wcp_clocks.proofs.OtherSteps.{joins_told}
use Rattle.wcp_clocks.proofs.Memory.{sums_stay}
use Rattle.wcp_clocks.proofs.IsStepProperties.{kept_within, due_within, seen_step}
use Rattle.wcp_clocks.proofs.PartsWithin.{within}
use Rattle.wcp_clocks.specs.Stepping.{IsStepBy}
use Rattle.wcp_clocks.proofs.clocks.WcpClocks.open.Goals as goal

pub advance-requires-clause-work : goal.advance-requires-clause-work
advance-requires-clause-work c =
    let w = ap (λ (d : Done). d.joins) c.take_lock.ensures.work in
    let few = (due_within c.self.view_is c.requires).fits.joins in omega arith

pub mark-requires-clause-some : goal.mark-requires-clause-some
mark-requires-clause-some c =
    let e = c.args.event.now in
    let old = hb_of (within c.self.inside) in
    subst (λ (f : ℕ → ℕ). 0 < f e.thread.0) (sym (own_happens_before e old _ c.advance.ensures.exact))
    (counts_itself e old)

pub mark-requires-clause-few : goal.mark-requires-clause-few
mark-requires-clause-few c =
    let due = due_within c.self.view_is c.requires in
    let e = c.args.event.now in
    let old = hb_of (within c.self.inside) in
    let next = own_opened e c.args.lock old _ due.effect c.advance.ensures.exact in
    let few = due.fits.few_counts e.thread.0 in
    let at_lock = due.fits.few_at_lock c.args.lock in
    omega arith

-- the parts as the step leaves them
step : (c : goal.After-add) → IsStepBy c.args.event.now (Opens c.args.lock) (within c.self.inside)
    (parts_of c.advance.new.self c.take_lock.new.self c.self.inside.sums c.enter.new.self
    c.add.new.self c.advance.new.work)
step c =
    let due = due_within c.self.view_is c.requires in
    let e = c.args.event.now in
    let old = within c.self.inside in
    let k : Effect = Opens c.args.lock in
    let t : ℕ = e.thread.0 in
    let taken = c.take_lock in
    let position : c.mark.result.position ≡ hb_row e (state_of old) t =
    ap (λ m. m.position) c.mark.ensures.exact
    ∙ ap (λ (f : ℕ → ℕ). f t) (own_happens_before e (hb_of old) _ c.advance.ensures.exact) in
    let w = ap (λ (d : Done). d.joins) taken.ensures.work in
    let j = joins_told e k old taken.new.work c.advance.new.work due.effect c.advance.ensures.work in
    record {
      hb = c.advance.ensures.exact;
      order_room = c.advance.ensures.kept;
      threads = taken.ensures.threads;
      locks = taken.ensures.locks;
      opened = c.enter.ensures.opened
          ∙ ap (λ (n : ℕ). with_row t (with_row c.args.lock.0 n (opened_of old.queues t))
          (opened_of old.queues))
          position;
      held = c.add.ensures.held;
      noted = refl;
      met = ap (met_clocks old.sums) c.enter.ensures.closed;
      numbers = subst (AreNumbers old.sums) (sym c.enter.ensures.closed) c.self.invariant.numbers;
      closed = c.enter.ensures.closed;
      found = c.enter.ensures.found;
      joins = omega arith;
      joins_exact = omega arith;
      comparisons = ap (λ (d : Done). d.comparisons) c.advance.ensures.work
          ∙ ap (λ (d : Done). d.comparisons) taken.ensures.work;
      no_fewer = tt;
      memory = record {
        order = c.advance.ensures.memory;
        rows = taken.ensures.kept;
        sums = sums_stay old.sums;
        queues = c.enter.ensures.memory.places;
        numbers = λ other. c.enter.ensures.memory.numbers;
        held = c.add.ensures.places;
      };
      limits = record { width = c.advance.ensures.width; limits = c.enter.ensures.limits };
      kept = tt;
    }

pub invariant_of-self : goal.invariant_of-self
invariant_of-self c = kept_within (due_within c.self.view_is c.requires) (step c) c.self.invariant

pub returns : goal.returns
returns c = seen_step c.self.view_is (step c)
