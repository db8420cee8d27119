-- How much work the events of a log take at most.
use Rattle.std.proofs.Common.{◌≡◌, ℕ, ◌<◌, ◌≤◌, ◌+◌, ◌*◌, [], ◌∷◌, ◌++◌, length, refl, sym, ap, subst, ◌∙◌}
use Rattle.std.proofs.Common.{arith}
use Rattle.std.proofs.Math.Nat.{mul-le-mul_left, add-mul, mul_comm}
use Rattle.event_core.specs.declared.bounds.Limits.{Limits}
use Rattle.event_core.specs.declared.bounds.TheConstants.{MOST_EVENTS, MOST_LOCKS}
use Rattle.event_core.specs.declared.ids.LockId.{LockId}
use Rattle.event_core.specs.declared.ids.ThreadId.{ThreadId}
use Rattle.event_core.specs.Closed.{number_counted}
use Rattle.event_core.specs.Refusal.{WellFormed}
use Rattle.event_core.specs.Rows.{with_row}
use Rattle.event_core.specs.Effect.{Effect, Accesses, Closes}
use Rattle.event_core.proofs.CountedProperties.{grown_length}
use Rattle.event_core.proofs.RowsAfterProperties.{row_same}
use Rattle.event_core.proofs.WellFormedProperties.{well_formed_front}
use Rattle.hb_clocks.specs.Work.{Done}
use Rattle.wcp_laws.specs.Conditions.{found_at}
use Rattle.wcp_laws.specs.Found.{total_found, threads_in}
use Rattle.wcp_laws.specs.Step.{effect}
use Rattle.wcp_laws.proofs.FoundProperties.{found_at_close, found_at_most, threads_within}
use Rattle.wcp_clocks.specs.Parts.{Parts, state_of, found_in, most_joins, FewComparisons}
use Rattle.wcp_clocks.specs.WorkWithin.{NoWork, SameWork, WorkStep, LittleWork, FewComparisonsInAll}
use Rattle.wcp_clocks.proofs.FitsProperties.{log_within, closed_few}
use Rattle.wcp_clocks.proofs.HeldLocks.{held_within}
use Rattle.wcp_clocks.proofs.WithinLimits.{thread_within, closed_within}

-- the joins of one event
joins_within : (k : Effect) (held locks : ℕ) → held ≤ locks → most_joins k held ≤ 2 * locks + 3
joins_within (Accesses x k) held locks few = omega arith
joins_within _ held locks few = omega arith

-- where nothing is compared, nothing more is found
none_compared : (m : Limits) (old new : Parts) (n : ℕ) → new.work.comparisons ≡ old.work.comparisons
    → found_in new ≡ found_in old
    → old.work.comparisons ≤ total_found m.locks m.threads (found_in old) + n
    → new.work.comparisons ≤ total_found m.locks m.threads (found_in new) + (n + 1)
none_compared m old new n same found was =
    let total : total_found m.locks m.threads (found_in new) ≡ total_found m.locks m.threads (found_in old)
    = ap (total_found m.locks m.threads) found in
    omega arith

-- a closing release compares what it newly finds, and once more
comparisons_within : (m : Limits) (t : ThreadId) (k : Effect) (old new : Parts) (n : ℕ) → t.0 < m.threads
    → ((l : LockId) → k ≡ Closes l → l.0 < m.locks)
    → FewComparisons t k old new → found_in new ≡ found_at t k (state_of old) (found_in old)
    → old.work.comparisons ≤ total_found m.locks m.threads (found_in old) + n
    → new.work.comparisons ≤ total_found m.locks m.threads (found_in new) + (n + 1)
comparisons_within m t (Closes l) old new n thread lock few found was =
    let total : total_found m.locks m.threads (found_at t (Closes l) (state_of old) (found_in old))
    + found_in old l.0 t.0 ≡ total_found m.locks m.threads (found_in old) + count
    = found_at_close m.locks m.threads t l (state_of old) (found_in old) (lock l refl) thread in
    let same : total_found m.locks m.threads (found_in new)
    ≡ total_found m.locks m.threads (found_at t (Closes l) (state_of old) (found_in old))
    = ap (total_found m.locks m.threads) found in
    let here : found_in new l.0 t.0 ≡ count
    = ap (λ (f : ℕ → ℕ → ℕ). f l.0 t.0) found
    ∙ ap (λ (g : ℕ → ℕ). g t.0) (row_same l.0 (with_row t.0 count (found_in old l.0)) (found_in old))
    ∙ row_same t.0 count (found_in old l.0) in
    let more : new.work.comparisons + found_in old l.0 t.0
    ≤ old.work.comparisons + found_in new l.0 t.0 + 1 = few in
    omega (arith, was)
  where
    count : ℕ
    count = number_counted ((state_of old).strict.thread t.0) ((state_of old).closed l.0)
comparisons_within m t _ old new n thread lock few found was = none_compared m old new n few found was

-- the law: no work is within the bounds of the empty log
pub no_work : NoWork
no_work limits p none = record {
  joins = (let j = ap (λ (d : Done). d.joins) none in omega arith);
  comparisons = (let c = ap (λ (d : Done). d.comparisons) none in omega arith);
}

-- the law: the same work is within the same bounds
pub same_work : SameWork
same_work limits log old new same was = record {
  joins = subst (λ (d : Done). d.joins ≤ length log * (2 * limits.locks + 3)) (sym same.work) was.joins;
  comparisons =
      subst (λ (d : Done). d.comparisons ≤ total_found limits.locks limits.threads
      (found_in new) + length log)
      (sym same.work)
      (subst (λ f. old.work.comparisons ≤ total_found limits.locks limits.threads f + length log)
      (sym same.found) was.comparisons);
}

-- the law: a legal event keeps the work within those bounds
pub work_step : WorkStep
work_step limits log e old new w st was is =
    let front : WellFormed limits log = well_formed_front limits log (e ∷ []) w in
    let k : Effect = effect e (state_of old) in
    let grown : length (log ++ e ∷ []) ≡ length log + 1 = grown_length log e in
    let most : most_joins k (length ((state_of old).held e.thread.0)) ≤ 2 * limits.locks + 3
    = joins_within k (length ((state_of old).held e.thread.0)) limits.locks
    (held_within limits log old e.thread front st) in
    let joined : new.work.joins ≤ length log * (2 * limits.locks + 3) + (2 * limits.locks + 3)
    = (let a = was.joins in let b = is.joins in omega arith) in
    let compared : new.work.comparisons
    ≤ total_found limits.locks limits.threads (found_in new) + (length log + 1)
    = comparisons_within limits e.thread k old new (length log) (thread_within limits log e w)
    (closed_within limits log e (state_of old) w st.strict) is.comparisons is.found was.comparisons in
    record {
      joins = subst (λ n. new.work.joins ≤ n * (2 * limits.locks + 3)) (sym grown)
          (subst (λ n. new.work.joins ≤ n) (sym (one_more (length log) (2 * limits.locks + 3))) joined);
      comparisons = subst (λ n. new.work.comparisons
          ≤ total_found limits.locks limits.threads (found_in new) + n) (sym grown) compared;
    }
  where
    one_more : (n c : ℕ) → (n + 1) * c ≡ n * c + c
    one_more n c = let h : (n + 1) * c ≡ n * c + 1 * c = add-mul n 1 c in omega arith

-- the law: n events by k threads make at most n * k + n comparisons
pub few_comparisons : FewComparisonsInAll
few_comparisons limits log p st within =
    let made : p.work.comparisons ≤ total_found limits.locks limits.threads (found_in p) + length log
    = within.comparisons in
    let found : total_found limits.locks limits.threads (found_in p)
    ≤ threads_in limits.threads log * length log
    = found_at_most limits.locks limits.threads log (state_of p) (found_in p) st.found in
    let turned : threads_in limits.threads log * length log ≡ length log * threads_in limits.threads log
    = mul_comm (threads_in limits.threads log) (length log) in
    omega arith

-- the law: within those bounds there is little work at each legal event
pub little_work : LittleWork
little_work limits log e p bounds w st within =
    let front : WellFormed limits log = well_formed_front limits log (e ∷ []) w in
    let n : length log ≤ MOST_EVENTS
    = (let a = log_within limits log front in let b = bounds.most_events in omega arith) in
    let locks : limits.locks ≤ MOST_LOCKS = bounds.most_locks in
    let held : length ((state_of p).held e.thread.0) ≤ limits.locks
    = held_within limits log p e.thread front st in
    let threads : threads_in limits.threads log ≤ 1024
    = (let a = threads_within limits.threads log in let b = bounds.most_threads in omega arith) in
    let each : length log * (2 * limits.locks + 3) ≤ length log * 2097155
    = mul-le-mul_left (length log) (omega arith) in
    let found : length log * threads_in limits.threads log ≤ length log * 1024
    = mul-le-mul_left (length log) threads in
    record {
      joins = (let a = within.joins in omega arith);
      comparisons = λ l.
          (let closed : length ((state_of p).closed l.0) ≤ length log = closed_few log p l st in
          let made = few_comparisons limits log p st within in
          omega arith);
    }
