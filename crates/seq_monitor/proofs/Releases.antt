-- What a release finds that is not refused: its thread holds the lock, has events, and a slot is kept for it.
use Rattle.std.proofs.Common.{◌≡◌, ℕ, zero, suc, ◌+◌, ◌<◌, ◌≤◌, List, Some, None, Bool, true, false, cond}
use Rattle.std.proofs.Common.{nat_eq, not, ◌&&◌, refl, ap, subst, length, arith}
use Rattle.std.proofs.lemmas.Bool.{cases_lt, ltb-true, not-false}
use Rattle.std.proofs.lemmas.List.{get_or_past}
use mathlib.Core.Logic.{inl, inr}
use Rattle.event_core.specs.declared.ids.ThreadId.{ThreadId}
use Rattle.event_core.specs.declared.ids.LockId.{LockId}
use Rattle.event_core.specs.declared.events.Event.{Event}
use Rattle.event_core.specs.declared.events.Call.{Call}
use Rattle.event_core.specs.declared.events.Op.TheVariants.{Release}
use Rattle.event_core.specs.declared.bounds.Limits.{Limits}
use Rattle.event_core.specs.declared.replies.Refusal.TheVariants.{NotHolder, TargetRange}
use Rattle.event_core.specs.Log.{depth, op_acquires, acquires}
use Rattle.event_core.specs.Count.{events_of}
use Rattle.event_core.specs.Refusal.{refusal, event_of, holder, lock_depth, sum_locks, lock_at, held_depths}
use Rattle.event_core.specs.Refusal.{open_acquires, WellFormed}
use Rattle.event_core.proofs.OrderlyProperties.{Reasons, legal_reasons, when_none, holder_depth}
use Rattle.event_core.proofs.RunProperties.{allowed_legal}
use Rattle.event_core.proofs.OpenAcquiresProperties.{depths_are_open, split_count}
use Rattle.traced_mem.proofs.AllowsProperties.{holder_here}
use Rattle.traced_mem.proofs.Depths.{depth_if_held}
use Rattle.access_check.specs.Tables.{AccessTables}
use Rattle.access_check.specs.Standing.{StandsFor}

reasons : (m : Limits) (log : List Event) (c : Call) (l : LockId) → refusal m log c ≡ None → c.op ≡ Release l
    → Reasons m log c.thread (Release l)
reasons m log c l allowed is =
    subst (Reasons m log c.thread) is (legal_reasons m log (event_of log c) (allowed_legal m log c allowed))

is_held : (m : Limits) (log : List Event) (c : Call) (l : LockId) → refusal m log c ≡ None → c.op ≡ Release l
    → holder log l ≡ Some c.thread
is_held m log c l allowed is =
    holder_here (holder log l) c.thread (when_none _ NotHolder (reasons m log c l allowed is).holds)

-- the thread of an accepted release is in a section on the lock
pub release_held : (m : Limits) (log : List Event) (c : Call) (l : LockId) → refusal m log c ≡ None
    → c.op ≡ Release l → 0 < depth log c.thread l
release_held m log c l allowed is = holder_depth log l c.thread (is_held m log c l allowed is)

-- one of the locks is not above their sum
one_of_sum : (f : LockId → ℕ) (n i : ℕ) → i < n → f (lock_at i) ≤ sum_locks f n
one_of_sum f zero i lt = absurd (omega (arith, lt))
one_of_sum f (suc n) i lt = elim (cases_lt i n) [
  | inl less ↦ omega (arith, one_of_sum f n i less)
  | inr more ↦ (let same : i ≡ n = omega arith in omega (arith, ap (λ k. f (lock_at k)) same))
]

-- before an accepted release some acquire is open
pub release_open : (m : Limits) (log : List Event) (c : Call) (l : LockId) → WellFormed m log
    → refusal m log c ≡ None → c.op ≡ Release l → 0 < open_acquires log
unfolding held_depths
release_open m log c l well allowed is =
    let within : l.0 < m.locks
    = ltb-true l.0 m.locks (not-false _ (when_none _ TargetRange (reasons m log c l allowed is).on_table)) in
    omega (
      arith,
      one_of_sum (lock_depth log) m.locks l.0 within,
      depths_are_open m log well,
      depth_if_held log l c.thread (is_held m log c l allowed is),
      release_held m log c l allowed is,
    )

-- a thread that holds a lock has events
holder_has_events : (log : List Event) (u : ThreadId) (l : LockId) → 0 < depth log u l → 0 < events_of log u
unfolding depth events_of
holder_has_events log u l held =
    let split = split_count (λ (e : Event). nat_eq e.thread.0 u.0) (acquires u l)
    (λ (e : Event). nat_eq e.thread.0 u.0 && not (op_acquires l e.op))
    (λ e. each (nat_eq e.thread.0 u.0) (op_acquires l e.op)) log in
    omega (arith, split, held)
  where
    each : (a b : Bool) → cond {A = ℕ} a 1 0 ≡ cond {A = ℕ} (a && b) 1 0 + cond {A = ℕ} (a && not b) 1 0
    each true true = refl
    each true false = refl
    each false b = refl

-- so its events are counted
pub release_counted : (m : Limits) (log : List Event) (c : Call) (l : LockId) (t : AccessTables)
    → refusal m log c ≡ None → c.op ≡ Release l → StandsFor log t → c.thread.0 < length t.counts
release_counted m log c l t allowed is stands = elim (cases_lt c.thread.0 (length t.counts)) [
  | inl less ↦ less
  | inr past ↦ absurd (omega (
    arith,
    get_or_past t.counts c.thread.0 0 past,
    stands.counts c.thread,
    holder_has_events log c.thread l (release_held m log c l allowed is),
  ))
]
