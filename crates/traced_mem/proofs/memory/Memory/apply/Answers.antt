use Rattle.std.proofs.Common.{◌≡◌, ℕ, ◌+◌, ◌≤◌, max, length, List, [], ◌∷◌, ◌++◌, None, ap, sym, subst, refl}
use Rattle.std.proofs.Common.{◌∙◌, arith}
use Rattle.event_core.specs.declared.bounds.Limits.{Limits}
use Rattle.event_core.specs.Refusal.{refusal, event_of, WellFormed}
use Rattle.event_core.proofs.WellFormedProperties.{well_formed_grown}
use Rattle.traced_mem.specs.Meaning.{Meaning}
use Rattle.traced_mem.specs.Refusals.{refusal_at}
use Rattle.traced_mem.specs.After.{holds_after, after, value_at}
use Rattle.traced_mem.specs.Tables.{MemoryTables, total, locks_of, threads_of, thread_at, meaning}
use Rattle.traced_mem.specs.Room.{HoldsFit, IsReady, cells_for}
use Rattle.traced_mem.proofs.AfterProperties.{after_law}
use Rattle.traced_mem.proofs.AllowsProperties.{fits_inside}
use Rattle.traced_mem.proofs.RefusalsProperties.{same_refusal, same_value}
use Rattle.traced_mem.proofs.IsReadyProperties.{given_back, still_ready, lent_whole}
use Rattle.traced_mem.proofs.memory.Memory.apply.Goals as goal
use Rattle.traced_mem.proofs.memory.Memory.apply.Goals.{in-Load, in-Store, in_default}

pub count_holds-self-inside-requires : goal.count_holds-self-inside-requires
count_holds-self-inside-requires c =
    subst (λ (s : MemoryTables). HoldsFit s.holds c.args.call.now.op) c.self.view_is
    (fits_inside _ _ c.self.view_is c.self.invariant (omega arith) c.requires.allowed).fits_holds

pub apply_rows-requires-clause-fits : goal.apply_rows-requires-clause-fits
apply_rows-requires-clause-fits c =
    rw c.deref_mut-2.ensures.value
    (fits_inside _ _ c.self.view_is c.self.invariant (omega arith) c.requires.allowed).depth

pub invariant_of-self : goal.invariant_of-self
invariant_of-self c =
    let fits = fits_inside _ _ c.self.view_is c.self.invariant (omega arith) c.requires.allowed in
    let threads = given_back c.apply_rows.new.threads c.deref_mut.ensures.value c.deref_mut.ensures.len
    c.apply_rows.ensures.same_threads in
    let locks = given_back c.apply_rows.new.locks c.deref_mut-2.ensures.value c.deref_mut-2.ensures.len
    c.apply_rows.ensures.same_locks in
    let holds : c.count_holds-self-inside.result ≡ holds_after c.args.call.now.op c.self.inside.holds
    = c.count_holds-self-inside.ensures
    ∙ ap (λ (s : MemoryTables). holds_after c.args.call.now.op s.holds) (sym c.self.view_is) in
    rw (threads, locks) (record {
      kept = omega (arith, fits.kept);
      sum = holds
          ∙ ap (holds_after c.args.call.now.op) (c.self.invariant.sum
          ∙ ap total (sym c.deref_mut-2.ensures.value))
          ∙ sym c.apply_rows.ensures.total;
      held = c.apply_rows.ensures.below
          (rw (c.deref_mut.ensures.value, c.deref_mut-2.ensures.value) c.self.invariant.held);
    })

pub returns-clause-value : goal.returns-clause-value
returns-clause-value c =
    elim c.match-call.branch [
      | in-Load w ↦ grind arith
      | in-Store w ↦ grind arith
      | in_default w ↦ grind arith
    ]

pub returns-clause-means : goal.returns-clause-means
returns-clause-means c =
    let threads = given_back c.apply_rows.new.threads c.deref_mut.ensures.value c.deref_mut.ensures.len
    c.apply_rows.ensures.same_threads in
    let locks = given_back c.apply_rows.new.locks c.deref_mut-2.ensures.value c.deref_mut-2.ensures.len
    c.apply_rows.ensures.same_locks in
    let call = c.args.call.now in
    (λ i. record {
      length = c.self.inside.length + 1;
      holds = (c.count_holds-self-inside.ensures
          ∙ ap (λ (s : MemoryTables). holds_after call.op s.holds) (sym c.self.view_is)) i;
      thread = (ap threads_of threads ∙ c.apply_rows.ensures.threads) i;
      lock = (ap locks_of locks ∙ c.apply_rows.ensures.locks) i;
      cell = c.apply_rows.ensures.cells i;
    })
    ∙ ap (λ (s : MemoryTables). after call.thread call.op call.arg (meaning s))
    (lent_whole c.self.view_is c.deref_mut.ensures.value c.deref_mut-2.ensures.value)

pub returns-clause-kept : goal.returns-clause-kept
returns-clause-kept c u o free r =
    let threads = given_back c.apply_rows.new.threads c.deref_mut.ensures.value c.deref_mut.ensures.len
    c.apply_rows.ensures.same_threads in
    let locks = given_back c.apply_rows.new.locks c.deref_mut-2.ensures.value c.deref_mut-2.ensures.len
    c.apply_rows.ensures.same_locks in
    rw (threads, locks)
    (still_ready _ c.args.call.now.thread c.args.call.now.op u o free
    c.apply_rows.ensures.same_threads c.apply_rows.ensures.same_locks c.apply_rows.ensures.same_cells
    c.apply_rows.ensures.same_room c.apply_rows.ensures.threads
    (subst (λ (s : MemoryTables). IsReady s u o)
    (sym (lent_whole c.self.view_is c.deref_mut.ensures.value c.deref_mut-2.ensures.value)) r))

pub returns-clause-memory : goal.returns-clause-memory
returns-clause-memory c =
    let threads = given_back c.apply_rows.new.threads c.deref_mut.ensures.value c.deref_mut.ensures.len
    c.apply_rows.ensures.same_threads in
    let locks = given_back c.apply_rows.new.locks c.deref_mut-2.ensures.value c.deref_mut-2.ensures.len
    c.apply_rows.ensures.same_locks in
    let whole = lent_whole c.self.view_is c.deref_mut.ensures.value c.deref_mut-2.ensures.value in
    let cells : List ℕ = c.apply_rows.new.cells.items in
    rw (threads, locks) (record {
      threads = c.apply_rows.ensures.same_threads ∙ ap (λ (s : MemoryTables). length s.threads) whole;
      locks = c.apply_rows.ensures.same_locks ∙ ap (λ (s : MemoryTables). length s.locks) whole;
      cells = subst (λ (s : MemoryTables). length cells ≤ max (length s.cells) (cells_for c.args.call.now.op))
          whole c.apply_rows.ensures.most_cells;
      thread_room = ap (λ (s : MemoryTables). s.thread_room) whole;
      lock_room = ap (λ (s : MemoryTables). s.lock_room) whole;
      cell_room = c.apply_rows.ensures.same_cells ∙ ap (λ (s : MemoryTables). s.room) whole;
      held = λ v. c.apply_rows.ensures.same_room v
          ∙ ap (λ (s : MemoryTables). (thread_at s.threads v).held.capacity) whole;
    })

pub returns-clause-last : goal.returns-clause-last
returns-clause-last c log s =
    let call = c.args.call.now in
    returns-clause-value c ∙ ap (λ (m : Meaning). value_at m call.op call.arg) s.means
    ∙ same_value log call.op call.arg

pub returns-clause-stands : goal.returns-clause-stands
returns-clause-stands c log s =
    let k = c.args.self.now.limits in
    let call = c.args.call.now in
    let none : refusal k log call ≡ None
    = sym (same_refusal k log call s.well_formed)
    ∙ ap (λ (m : Meaning). refusal_at k m call.thread call.op) (sym s.means) ∙ c.requires.allowed in
    record {
      well_formed = subst (λ (l : Limits). WellFormed l (log ++ event_of log call ∷ []))
          (ap (λ (t : MemoryTables). t.limits) (sym c.self.view_is))
          (well_formed_grown k log (event_of log call) s.well_formed
          (record { call = call; allowed = none; is = refl }));
      means = returns-clause-means c ∙ ap (after call.thread call.op call.arg) s.means
          ∙ sym (after_law k log call s.well_formed none);
    }
