-- What is known of an operation that is not refused.
use Rattle.std.proofs.Common.{◌≡◌, ℕ, ◌+◌, ◌<◌, ◌≤◌, false, List, Option, Some, None, length, not}
use Rattle.std.proofs.Common.{nat_eq, nat_le, nat_lt, ap, refl, sym, subst, arith}
use Rattle.std.proofs.lemmas.Bool.{leb-true, eqb-true, ltb-true, cases_lt, not-false}
use Rattle.std.proofs.lemmas.Option.{cond_some}
use Rattle.std.proofs.lemmas.List.{get_or_past}
use Rattle.std.proofs.lemmas.List.Sums.{get_or-le-sum_by}
use mathlib.Core.Logic.{inl, inr}
use Rattle.event_core.specs.declared.ids.ThreadId.{ThreadId}
use Rattle.event_core.specs.declared.ids.LockId.{LockId}
use Rattle.event_core.specs.declared.bounds.Limits.{Limits}
use Rattle.event_core.specs.declared.bounds.TheConstants.{MOST_EVENTS}
use Rattle.event_core.specs.declared.replies.Refusal.TheVariants.{LogFull, NotHolder}
use Rattle.event_core.specs.declared.events.Op.{Op}
use Rattle.event_core.specs.declared.events.Op.TheVariants.{Acquire, Release}
use Rattle.event_core.specs.Refusal.{is_holder}
use Rattle.event_core.proofs.OrderlyProperties.{AllNone, all_none, when_none}
use Rattle.event_core.proofs.DepthProperties.{same_thread_id}
use Rattle.traced_mem.specs.declared.rows.LockRow.{LockRow}
use Rattle.traced_mem.specs.Meaning.{Meaning}
use Rattle.traced_mem.specs.Refusals.{refusal_at, reasons_at, held_at, not_holder_at, log_full_at}
use Rattle.traced_mem.specs.After.{holds_after}
use Rattle.traced_mem.specs.Tables.{MemoryTables, AreTables, Allows, lock_of, lock_at}
use Rattle.traced_mem.specs.Tables.{blank_lock, total, meaning}
use Rattle.traced_mem.specs.Room.{DepthFits, HoldsFit, IsReady}

-- the reasons that do not apply to an operation that is allowed
pub record Allowed (k : Limits) (m : Meaning) (u : ThreadId) (o : Op) : Type 0 where
  pub no_holder : held_at m u o ≡ None
  pub holds : not_holder_at m u o ≡ None
  pub fits : log_full_at k m o ≡ None

-- no reason applies to an operation that is allowed
pub allowed : (k : Limits) (m : Meaning) (u : ThreadId) (o : Op) → refusal_at k m u o ≡ None → Allowed k m u o
unfolding refusal_at AllNone
allowed k m u o h =
    let r : AllNone (reasons_at k m u o) = all_none (reasons_at k m u o) h in
    record { no_holder = r.1.1.1.1.0; holds = r.1.1.1.1.1.0; fits = r.1.1.1.1.1.1.1.1.1.0 }

-- a number that is not found greater is at most the other
pub room : (n m : ℕ) → not (nat_le n m) ≡ false → n ≤ m
room n m e = leb-true n m (not-false (nat_le n m) e)

-- a thread that the test finds to be the holder is the holder
pub holder_here : (o : Option ThreadId) (u : ThreadId) → not (is_holder o u) ≡ false → o ≡ Some u
holder_here None u e = absurd (cc)
holder_here (Some v) u e = ap Some (same_thread_id (eqb-true v.0 u.0 (not-false (nat_eq v.0 u.0) e)))

-- a release that is not refused is by the holder
pub release_holder : (m : Meaning) (u : ThreadId) (l : LockId) → not_holder_at m u (Release l) ≡ None
    → (m.lock l.0).holder ≡ Some u
release_holder m u l h = holder_here (m.lock l.0).holder u (when_none _ NotHolder h)

-- a row that has a holder has a depth above 0, and names the holder
pub holder_of : (r : LockRow) (u : ThreadId) → (lock_of r).holder ≡ Some u → (0 < r.depth) × (r.by ≡ u)
holder_of r u e = let p = cond_some (nat_lt 0 r.depth) r.by u e in (ltb-true 0 r.depth p.0, p.1)

-- an allowed operation keeps the log and the releases to come within the limit
pub slots_after : (k : Limits) (m : Meaning) (u : ThreadId) (o : Op) → Allowed k m u o
    → m.length + m.holds ≤ k.events
    → ((l : LockId) → o ≡ Release l → 0 < m.holds) → m.length + 1 + holds_after o m.holds ≤ k.events
slots_after k m u (Acquire l) a h r = let b =
    room (m.length + m.holds + 2) k.events (when_none _ LogFull a.fits) in omega arith
slots_after k m u (Release l) a h r = let b = r l refl in omega arith
slots_after k m u _ a h r = let b =
    room (m.length + m.holds + 1) k.events (when_none _ LogFull a.fits) in omega arith

-- an acquire that is not refused leaves a place for itself and one for its release
pub acquire_fits : (k : Limits) (m : Meaning) (l : LockId) → log_full_at k m (Acquire l) ≡ None
    → m.length + m.holds + 2 ≤ k.events
acquire_fits k m l h = room (m.length + m.holds + 2) k.events (when_none _ LogFull h)

-- a held lock is within the table, and no deeper than all together
pub depth_total : (locks : List LockRow) (l : ℕ) → (lock_at locks l).depth ≤ total locks
depth_total locks l = elim (cases_lt l (length locks)) [
  | inl h ↦ get_or-le-sum_by (λ (r : LockRow). r.depth) locks l blank_lock h
  | inr h ↦ (let e : (lock_at locks l).depth ≡ 0 =
      ap (λ (r : LockRow). r.depth) (get_or_past locks l blank_lock h) in omega arith)
]

-- a lock that has a depth above 0 has a row
pub held_within : (locks : List LockRow) (l : ℕ) → 0 < (lock_at locks l).depth → l < length locks
held_within locks l d = elim (cases_lt l (length locks)) [
  | inl h ↦ h
  | inr h ↦ absurd (let e : (lock_at locks l).depth ≡ 0 =
      ap (λ (r : LockRow). r.depth) (get_or_past locks l blank_lock h) in omega arith)
]

-- what a step needs, of tables that are given by their fields
pub record StepFits (t : MemoryTables) (o : Op) : Type 0 where
  pub depth : DepthFits t.locks o
  pub fits_holds : HoldsFit t.holds o
  pub kept : t.length + 1 + holds_after o t.holds ≤ t.limits.events

-- an allowed step keeps depths and the number of holds within their types, and the slots of releases
pub fits_inside : {t s : MemoryTables} (u : ThreadId) (o : Op) → t ≡ s
    → AreTables t.limits t.length t.holds t.threads t.locks → t.limits.events ≤ MOST_EVENTS
    → Allows s u o → StepFits t o
fits_inside {t = t} u o same inv small h = record {
  depth = depth o a;
  fits_holds = holds_fit o a;
  kept = slots_after t.limits (meaning t) u o a inv.kept
      (λ l e. held l (subst (λ p. not_holder_at (meaning t) u p ≡ None) e a.holds));
}
  where
    a : Allowed t.limits (meaning t) u o
    a = allowed t.limits (meaning t) u o (subst (λ (x : MemoryTables). Allows x u o) (sym same) h)

    deep : (l : LockId) → not_holder_at (meaning t) u (Release l) ≡ None → 0 < (lock_at t.locks l.0).depth
    deep l n = (holder_of (lock_at t.locks l.0) u (release_holder (meaning t) u l n)).0

    held : (l : LockId) → not_holder_at (meaning t) u (Release l) ≡ None → 0 < t.holds
    held l n = let p = deep l n in let q = depth_total t.locks l.0 in omega arith

    depth : (o : Op) → Allowed t.limits (meaning t) u o → DepthFits t.locks o
    depth (Acquire l) a = let p = acquire_fits t.limits (meaning t) l a.fits in let q =
        depth_total t.locks l.0 in omega arith
    depth (Release l) a = deep l a.holds
    depth _ a = tt

    holds_fit : (o : Op) → Allowed t.limits (meaning t) u o → HoldsFit t.holds o
    holds_fit (Acquire l) a = let p = acquire_fits t.limits (meaning t) l a.fits in omega arith
    holds_fit (Release l) a = held l a.holds
    holds_fit _ a = tt

-- a release that is allowed has room
pub release_room : (t s : MemoryTables) (u : ThreadId) (o : Op) (l : LockId) → t ≡ s
    → AreTables t.limits t.length t.holds t.threads t.locks → o ≡ Release l → Allows s u o → IsReady s u o
release_room t s u o l same inv e h =
    let a = allowed t.limits (meaning t) u o (subst (λ (x : MemoryTables). Allows x u o) (sym same) h) in
    let n : not_holder_at (meaning t) u (Release l) ≡ None
    = subst (λ p. not_holder_at (meaning t) u p ≡ None) e a.holds in
    let p = holder_of (lock_at t.locks l.0) u (release_holder (meaning t) u l n) in
    subst (λ (x : MemoryTables). IsReady x u o) same (subst (IsReady t u) (sym e) (record {
      caller = subst (λ (v : ThreadId). v.0 < length t.threads) p.1 (inv.held l.0 p.0);
      room = held_within t.locks l.0 p.0;
    }))
