use Rattle.std.proofs.Common.{◌≡◌, ℕ, ◌-◌, ◌<◌, ◌≤◌, length, ap, refl, sym, subst, ◌∙◌, List, Option, None}
use Rattle.std.specs.Prelude.{MatchOption, IsSomeAnd}
use Rattle.event_core.specs.Closed.{Closed, number_counted, below_closed}
use Rattle.event_core.specs.Rows.{with_row, no_clock}
use Rattle.event_core.proofs.RowsAfterProperties.{row_same}
use Rattle.hb_clocks.specs.Counts.{counts_of}
use Rattle.hb_clocks.specs.declared.release.ReleaseClock.{ReleaseClock}
use Rattle.hb_clocks.specs.Released.{thread_of, before_of, clock_of}
use Rattle.lock_queues.specs.Sections.{closed_at, latest_counted}
use Rattle.lock_queues.specs.Searched.{IsSection}
use Rattle.lock_queues.specs.Queues.{AllQueues, closed_of, found_of}
use Rattle.lock_queues.specs.Standing.{CountsNone, IsLatest}
use Rattle.lock_queues.proofs.OptionProperties.{match_option, if_some}
use Rattle.lock_queues.proofs.LastBelowLaws.{none_in_log, told_in_log}
use Rattle.lock_queues.proofs.queues.Queues.last_below.Goals as goal

pub latest-requires : goal.latest-requires
latest-requires c =
    let IsEntered : (ℕ → ℕ → ℕ) → Type 0 = λ f. 0 < f c.args.thread.0 c.args.lock.0 in
    record { entered = subst IsEntered (sym c.find_counted.ensures.found.opened) c.requires.entered }

pub returns : goal.returns
returns c =
    let t = c.args.thread.0 in
    let l = c.args.lock.0 in
    let old : AllQueues = c.args.self.now in
    let new : AllQueues = c.find_counted.new.self in
    let clock : ℕ → ℕ = counts_of c.args.clock.now in
    let qs : List Closed = closed_of old l in
    let n : ℕ = number_counted clock qs in
    let threads : ℕ = old.limits.threads in
    let found : found_of new l t ≡ n
    = ap (λ (f : ℕ → ℕ → ℕ). f l t) c.find_counted.ensures.found.found
    ∙ ap (λ (f : ℕ → ℕ). f t) (row_same l (with_row t n (found_of old l)) (found_of old))
    ∙ row_same t n (found_of old l) in
    let closed : closed_of new l ≡ qs
    = ap (λ (f : ℕ → List Closed). f l) c.find_counted.ensures.found.closed in
    let wide : new.limits.threads ≡ threads = ap (λ b. b.threads) c.find_counted.ensures.found.limits in
    let Reads : ℕ → List Closed → ℕ → ReleaseClock → Type 0
    = λ k xs w r. (0 < k) × IsSection r w (closed_at xs (k - 1)) in
    let Told : ReleaseClock → Closed → Type 0
    = λ r q. (q.thread ≡ (thread_of r).0) × (q.release ≡ clock_of r) in
    let known : MatchOption c.latest.result (n ≡ 0) (Reads n qs threads)
    = subst (λ (w : ℕ). MatchOption c.latest.result (n ≡ 0) (Reads n qs w)) wide
    (subst (λ (xs : List Closed). MatchOption c.latest.result (n ≡ 0) (Reads n xs new.limits.threads))
    closed
    (subst (λ (k : ℕ). MatchOption c.latest.result (k ≡ 0) (Reads k (closed_of new l) new.limits.threads))
    found c.latest.ensures)) in
    let answer = match_option c.latest.result (n ≡ 0) in
    let before = c.find_counted.ensures.latest in
    let Latest : Type 0
    = MatchOption c.latest.result (latest_counted clock qs ≡ None)
    (λ r. IsSomeAnd (latest_counted clock qs) (Told r)) in
    let latest : Latest
    = answer (latest_counted clock qs ≡ None) (Reads n qs threads)
    (λ r. IsSomeAnd (latest_counted clock qs) (Told r))
    (λ z. before.none_latest z)
    (λ r h. subst (λ (o : Option Closed). IsSomeAnd o (Told r)) (sym (before.latest h.0))
    (sym h.1.thread, sym h.1.release))
    known in (
      (refl, λ _. tt, (c.find_counted.ensures.found, c.find_counted.ensures.memory)),
      record {
        number = answer (n ≡ 0) (Reads n qs threads) (λ _. 0 < n) (λ z. z) (λ r h. h.0) known;
        latest = latest;
        below =
            answer (below_closed clock qs ≡ no_clock) (Reads n qs threads)
            (λ r. clock_of r ≡ below_closed clock qs) (λ z. before.none_below z)
            (λ r h. h.1.release ∙ sym (before.below h.0)) known;
        in_log = λ limits log w st. match_option c.latest.result (latest_counted clock qs ≡ None)
            (CountsNone log c.args.lock clock) (λ r. IsSomeAnd (latest_counted clock qs) (Told r))
            (λ r. IsLatest log c.args.lock clock (thread_of r) (clock_of r))
            (λ none. none_in_log limits log old c.args.lock clock w st none)
            (λ r told. told_in_log limits log old c.args.lock clock (thread_of r) (clock_of r) w st
            told) latest;
        width = if_some c.latest.result (n ≡ 0) (Reads n qs threads) (λ r. length (before_of r) ≤ threads)
            (λ r h. h.1.within) known;
        comparisons = c.find_counted.ensures.comparisons;
        no_fewer = c.find_counted.ensures.no_fewer;
        joins = c.find_counted.ensures.joins;
        after = tt;
      },
    )
