-- Room that is made in parts.
use Rattle.std.proofs.Common.{◌≡◌, ℕ, ◌+◌, ◌<◌, ◌≤◌, List, length, refl, sym, subst}
use Rattle.std.proofs.Common.{◌∙◌, inl, inr, ◌⊎◌, arith}
use Rattle.std.specs.Prelude.{max}
use Rattle.event_core.specs.declared.ids.ThreadId.{ThreadId}
use Rattle.event_core.specs.declared.ids.LockId.{LockId}
use Rattle.event_core.specs.declared.events.Op.{Op}
use Rattle.event_core.specs.declared.events.Op.TheVariants.{Load, Acquire, Release, Fork, Join}
use Rattle.hb_clocks.specs.Tables.{ClockTables, HasThread, IsReady, KeepsRoom}
use Rattle.hb_clocks.specs.Tables.{HasGrown, GrownFor, IsThreadFor, IsLockOf, threads_for, locks_for}
use Rattle.hb_clocks.specs.Rows.{widths_of, IsMade}

-- a thread's room stays
pub thread_stays : (old new : ClockTables) (t : ThreadId) → KeepsRoom old new
    → HasThread old.width old.po old.hb t.0 → HasThread new.width new.po new.hb t.0
thread_stays old new t keeps has =
    (keeps t (Load (record { 0 = 0 })) (record { thread = has; clocks = tt; hold = tt })).thread

-- tables with the thread and the lock are ready for the lock's acquire and release
pub ready_lock : (c : ClockTables) (t : ThreadId) (op : Op) (l : LockId) → (op ≡ Acquire l) ⊎ (op ≡ Release l)
    → HasThread c.width c.po c.hb t.0 → IsMade c.width c.lock l.0 → l.0 < length c.holds → IsReady c t op
ready_lock c t op l (inl is) has made hold =
    subst (IsReady c t) (sym is) (record { thread = has; clocks = made; hold = hold })
ready_lock c t op l (inr is) has made hold =
    subst (IsReady c t) (sym is) (record { thread = has; clocks = made; hold = hold })

-- tables with both threads are ready for a fork and a join
pub ready_thread : (c : ClockTables) (t : ThreadId) (op : Op) (u : ThreadId) → (op ≡ Fork u) ⊎ (op ≡ Join u)
    → HasThread c.width c.po c.hb t.0 → HasThread c.width c.po c.hb u.0 → IsReady c t op
ready_thread c t op u (inl is) has other =
    subst (IsReady c t) (sym is) (record { thread = has; clocks = other; hold = tt })
ready_thread c t op u (inr is) has other =
    subst (IsReady c t) (sym is) (record { thread = has; clocks = other; hold = tt })

-- a row was made in a table, or none
pub row_grown : {rows at : ℕ} {P : ℕ → Type 0} {old new : List (List ℕ)} → at < rows → P at
    → length new ≤ max (length old) (at + 1)
    → ((u : ℕ) → (u ≡ at → ⊥) → widths_of new u ≡ widths_of old u) → HasGrown rows P old new
row_grown {P = P} lt named most others = record {
  most = omega (arith, lt, most);
  others = λ u away. others u (λ q. away (subst P (sym q) named));
}

-- a table that is left as it was has grown by nothing
pub none_grown : {rows : ℕ} {P : ℕ → Type 0} (table : List (List ℕ)) → HasGrown rows P table table
none_grown table = record { most = omega arith; others = λ u away. refl }

-- growth upon growth
more_grown : {rows : ℕ} {P : ℕ → Type 0} {a b c : List (List ℕ)} → HasGrown rows P a b → HasGrown rows P b c
    → HasGrown rows P a c
more_grown p q = record {
  most = omega (arith, p.most, q.most);
  others = λ u away. q.others u away ∙ p.others u away;
}

-- growth after growth for one operation is growth for it
pub grown_then : (a b c : ClockTables) (t : ThreadId) (op : Op) → GrownFor a b t op → GrownFor b c t op
    → GrownFor a c t op
grown_then a b c t op p q = record {
  po = more_grown p.po q.po;
  hb = more_grown p.hb q.hb;
  lock = more_grown p.lock q.lock;
  holds = omega (arith, p.holds, q.holds);
  thread_room = omega (arith, p.thread_room, q.thread_room);
  lock_room = omega (arith, p.lock_room, q.lock_room);
}

-- for a lock or a thread that the operation names
pub lock_grown : (old new : ClockTables) (t : ThreadId) (op : Op) (l : LockId)
    → (op ≡ Acquire l) ⊎ (op ≡ Release l)
    → ((o : Op) → l.0 < locks_for o → IsLockOf o l.0 → GrownFor old new t o) → GrownFor old new t op
lock_grown old new t op l (inl is) grown =
    subst (GrownFor old new t) (sym is) (grown (Acquire l) (omega arith) refl)
lock_grown old new t op l (inr is) grown =
    subst (GrownFor old new t) (sym is) (grown (Release l) (omega arith) refl)

-- growth for the other thread of a fork or a join is growth for the operation
pub thread_grown : (old new : ClockTables) (t : ThreadId) (op : Op) (u : ThreadId)
    → (op ≡ Fork u) ⊎ (op ≡ Join u)
    → ((o : Op) → u.0 < threads_for t o → IsThreadFor t o u.0 → GrownFor old new t o)
    → GrownFor old new t op
thread_grown old new t op u (inl is) grown =
    subst (GrownFor old new t) (sym is) (grown (Fork u) (omega arith) (inr refl))
thread_grown old new t op u (inr is) grown =
    subst (GrownFor old new t) (sym is) (grown (Join u) (omega arith) (inr refl))
