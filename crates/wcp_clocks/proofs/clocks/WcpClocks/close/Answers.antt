use Rattle.std.proofs.Common.{◌≡◌, ℕ, suc, ◌≤◌, ◌<◌, ◌++◌, ◌∷◌, [], List, length, length-append, ap, ap₂, sym}
use Rattle.std.proofs.Common.{subst, ◌∙◌, arith, rules}
use Rattle.event_core.specs.declared.bounds.TheConstants.{MOST_EVENTS}
use Rattle.event_core.specs.Closed.{Closed, Has}
use Rattle.event_core.specs.Rows.{with_row}
use Rattle.event_core.specs.Effect.{Effect, Closes}
use Rattle.event_core.proofs.RowsAfterProperties.{row_same}
use Rattle.hb_clocks.specs.Counts.{counts_of}
use Rattle.hb_clocks.specs.Work.{Done}
use Rattle.event_core.specs.declared.events.AccessKind.{AccessKind}
use Rattle.lock_queues.specs.Queues.{closed_of, opened_of, found_of}
use Rattle.hb_clocks.specs.Releases.{before}
use Rattle.wcp_clocks.specs.Met.{met_clocks}
use Rattle.wcp_laws.specs.Step.{hb_row}
use Rattle.wcp_clocks.specs.Parts.{hb_of, state_of, parts_of}
use Rattle.wcp_clocks.proofs.RowsKept.{room_then, thread_kept, lock_kept}
use Rattle.wcp_clocks.proofs.EffectWords.{own_happens_before, closed_noted}
use Rattle.wcp_clocks.proofs.ReleaseAtProperties.{closing_clocks, closing_numbers, before_closing}
use Rattle.wcp_clocks.proofs.ReleaseAtProperties.{counts_itself}
use Rattle.wcp_clocks.proofs.OtherSteps.{own_written, joins_told}
use Rattle.wcp_clocks.proofs.Memory.{tables_then}
use Rattle.wcp_clocks.proofs.IsStepProperties.{kept_within, due_within, seen_step}
use Rattle.wcp_clocks.proofs.PartsWithin.{within}
use Rattle.wcp_clocks.specs.Stepping.{IsStepBy}
use Rattle.wcp_clocks.proofs.clocks.WcpClocks.close.Goals as goal

pub count-requires : goal.count-requires
count-requires c =
    let due = due_within c.self.view_is c.requires in
    let l : ℕ = c.args.lock.0 in
    let few = due.fits.few_closed c.args.lock due.effect in
    let was = ap (λ (f : ℕ → List Closed). length (f l)) c.take_closed.ensures.found.closed in
    let at = ap (λ (f : ℕ → List Closed). length (f l)) c.leave.ensures.closed
    ∙ ap (λ (qs : List Closed). length qs) (row_same l _ (closed_of c.take_closed.new.queues))
    ∙ length-append (closed_of c.take_closed.new.queues l) _ in
    omega arith

pub leave-requires-clause-entered : goal.leave-requires-clause-entered
leave-requires-clause-entered c =
    let due = due_within c.self.view_is c.requires in
    subst (λ (f : ℕ → ℕ → ℕ). 0 < f c.args.event.now.thread.0 c.args.lock.0)
    (sym c.take_closed.ensures.found.opened) (due.fits.sound.opened c.args.lock due.effect)

pub leave-requires-clause-above : goal.leave-requires-clause-above
leave-requires-clause-above c q u has =
    let due = due_within c.self.view_is c.requires in
    subst (λ (g : ℕ → ℕ). q.release u ≤ g u)
    (sym (c.hb-clock.ensures.exact
    ∙ own_happens_before c.args.event.now (hb_of (within c.self.inside)) _ c.advance.ensures.exact))
    (due.fits.sound.above_closed c.args.lock q (record { 0 = u }) due.effect
    (subst (λ (f : ℕ → List Closed). Has q (f c.args.lock.0))
    c.take_closed.ensures.found.closed has))

pub leave-requires-clause-counted : goal.leave-requires-clause-counted
leave-requires-clause-counted c =
    let e = c.args.event.now in
    let old = hb_of (within c.self.inside) in
    subst (λ (f : ℕ → ℕ). 0 < f e.thread.0)
    (sym (c.hb-clock.ensures.exact ∙ own_happens_before e old _ c.advance.ensures.exact))
    (counts_itself e old)

pub leave-requires-clause-few : goal.leave-requires-clause-few
leave-requires-clause-few c u =
    let due = due_within c.self.view_is c.requires in
    let e = c.args.event.now in
    let old = hb_of (within c.self.inside) in
    subst (λ (f : ℕ → ℕ). before e.thread.0 f u < MOST_EVENTS)
    (sym (c.hb-clock.ensures.exact ∙ own_happens_before e old _ c.advance.ensures.exact))
    (let same = before_closing e old c.args.lock due.effect u in
    let few = due.fits.few_counts u in
    omega arith)

pub give_lock-requires-clause-room : goal.give_lock-requires-clause-room
give_lock-requires-clause-room c =
    thread_kept c.take_closed.ensures.kept _ (due_within c.self.view_is c.requires).ready.rows.thread

pub give_lock-requires-clause-lock_room : goal.give_lock-requires-clause-lock_room
give_lock-requires-clause-lock_room c = lock_kept c.take_closed.ensures.kept _ (search rules)

-- the parts as the step leaves them
step : (c : goal.After-remove) → IsStepBy c.args.event.now (Closes c.args.lock) (within c.self.inside)
    (parts_of c.advance.new.self c.give_lock.new.self c.close.new.self c.leave.new.self
    c.remove.new.self c.advance.new.work)
step c =
    let due = due_within c.self.view_is c.requires in
    let e = c.args.event.now in
    let old = within c.self.inside in
    let k : Effect = Closes c.args.lock in
    let t : ℕ = e.thread.0 in
    let l : ℕ = c.args.lock.0 in
    let taken = c.take_closed in
    let left = c.leave.ensures in
    let own = own_written e k old taken.new.rows taken.ensures.threads in
    let g = c.hb-clock.ensures.exact ∙ own_happens_before e (hb_of old) _ c.advance.ensures.exact in
    let q : Closed = record {
      thread = t;
      position = opened_of taken.new.queues t l;
      release = counts_of c.hb-clock.result.now;
    } in
    let longer : closed_of c.leave.new.self
    ≡ with_row l (closed_of old.queues l ++ q ∷ []) (closed_of old.queues)
    = left.closed ∙ ap (λ (f : ℕ → List Closed). with_row l (f l ++ q ∷ []) f) taken.ensures.found.closed in
    let next : c.count.result ≡ suc (length (closed_of old.queues l))
    = (let w = ap (λ (f : ℕ → List Closed). length (f l)) longer
    ∙ ap (λ (qs : List Closed). length qs) (row_same l (closed_of old.queues l ++ q ∷ [])
    (closed_of old.queues))
    ∙ length-append (closed_of old.queues l) (q ∷ []) in
    omega arith) in
    let above : (x : ℕ) (k : AccessKind) (v u : ℕ)
    → met_clocks old.sums (closed_of old.queues) l x k v u ≤ hb_row e (state_of old) u
    = λ x k v u. due.fits.sound.above_met c.args.lock (record { 0 = x }) k (record { 0 = v })
    (record { 0 = u }) due.effect in
    let j = joins_told e k old taken.new.work c.advance.new.work due.effect c.advance.ensures.work in
    let d = ap (λ (d : Done). d.comparisons) c.advance.ensures.work in
    let n = ap (λ (f : ℕ → ℕ → ℕ). f l t) (left.found ∙ taken.ensures.found.found)
    ∙ ap (λ (f : ℕ → ℕ). f t) (row_same l _ (found_of old.queues))
    ∙ row_same t _ (found_of old.queues l) in
    record {
      hb = c.advance.ensures.exact;
      order_room = c.advance.ensures.kept;
      threads = c.give_lock.ensures.threads ∙ taken.ensures.threads;
      locks = c.give_lock.ensures.locks
          ∙ ap₂ (λ (a : ℕ → ℕ) (f : ℕ → ℕ → ℕ). with_row l a f) own taken.ensures.locks;
      opened = left.opened
          ∙ ap (λ (f : ℕ → ℕ → ℕ). with_row t (with_row l 0 (f t)) f) taken.ensures.found.opened;
      held = c.remove.ensures.held;
      noted = closed_noted old.sums c.close.new.self (hb_of old).depth e.thread c.args.lock
          c.close.ensures.noted;
      met = closing_clocks old.sums c.close.new.self t l c.count.result q (closed_of old.queues)
          (closed_of c.leave.new.self) c.self.invariant.numbers next longer c.close.ensures.others
          (hb_row e (state_of old)) g above;
      numbers = closing_numbers old.sums c.close.new.self t l c.count.result q (closed_of old.queues)
          (closed_of c.leave.new.self) c.self.invariant.numbers next longer c.close.ensures.others;
      closed = left.closed
          ∙ ap₂ (λ (f : ℕ → List Closed) (q : Closed). with_row l
          (f l ++ q ∷ []) f) taken.ensures.found.closed
          (ap₂ (λ (n : ℕ) (a : ℕ → ℕ). record { thread = t; position = n; release = a })
          (ap (λ (f : ℕ → ℕ → ℕ). f t l) taken.ensures.found.opened) g);
      found = left.found ∙ taken.ensures.found.found;
      joins = (let w = taken.ensures.joins in omega arith);
      joins_exact = (let w = taken.ensures.joins_exact in omega arith);
      comparisons = (let w = taken.ensures.comparisons in omega arith);
      no_fewer = (let w = taken.ensures.no_fewer in omega arith);
      memory = record {
        order = c.advance.ensures.memory;
        rows = room_then taken.ensures.kept c.give_lock.ensures.kept;
        sums = c.close.ensures.memory;
        queues = tables_then taken.ensures.memory.places left.places;
        numbers = λ other. absurd (other tt);
        held = c.remove.ensures.places;
      };
      limits = record { width = c.advance.ensures.width; limits = left.limits ∙ taken.ensures.found.limits };
      kept = tt;
    }

pub invariant_of-self : goal.invariant_of-self
invariant_of-self c = kept_within (due_within c.self.view_is c.requires) (step c) c.self.invariant

pub returns : goal.returns
returns c = seen_step c.self.view_is (step c)
