-- Strict clocks that are made for an operation.
use Rattle.std.proofs.Common.{◌≡◌, ℕ, ◌+◌, ◌<◌, refl, sym, subst, ◌∙◌, inl, inr, ◌⊎◌, arith}
use Rattle.event_core.specs.declared.ids.ThreadId.{ThreadId}
use Rattle.event_core.specs.declared.ids.LockId.{LockId}
use Rattle.event_core.specs.declared.events.Op.{Op}
use Rattle.event_core.specs.declared.events.Op.TheVariants.{Acquire, Release, Fork, Join}
use Rattle.hb_clocks.specs.Tables.{IsThreadFor, IsThreadOf, IsLockOf, threads_for, locks_for}
use Rattle.wcp_clocks.specs.StrictRows.{StrictTables, HasThread, HasLock, IsReady, KeepsRoom}
use Rattle.wcp_clocks.specs.StrictRows.{HasMade, GrownFor}

-- what the operation names is within the rows that it needs
thread_within : (t : ThreadId) (op : Op) (u : ℕ) → IsThreadFor t op u → u < threads_for t op
thread_within t op u (inl is) = omega (arith, is)
thread_within t (Fork v) u (inr is) = omega (arith, is)
thread_within t (Join v) u (inr is) = omega (arith, is)
thread_within t _ u (inr is) = absurd is

-- the clock of a thread was made
pub thread_grown : {old new : StrictTables} (t : ThreadId) (op : Op) (u : ℕ) → IsThreadFor t op u
    → HasMade (λ v. v ≡ u) (λ l. ⊥) (u + 1) 0 old new → GrownFor old new t op
thread_grown t op u named made = record {
  thread = λ v away. made.thread v (λ q. away (subst (IsThreadFor t op) (sym q) named));
  lock = λ l away. made.lock l (λ none. none);
  thread_room = omega (arith, made.thread_room, thread_within t op u named);
  lock_room = omega (arith, made.lock_room);
}

-- that of a lock was made
pub lock_grown : {old new : StrictTables} (t : ThreadId) (op : Op) (m : LockId)
    → (op ≡ Acquire m) ⊎ (op ≡ Release m) → HasMade (λ u. ⊥) (λ l. l ≡ m.0) 0 (m.0 + 1) old new
    → GrownFor old new t op
lock_grown t op m is made = record {
  thread = λ u away. made.thread u (λ none. none);
  lock = λ l away. made.lock l (λ q. away (subst (IsLockOf op) (sym q) (named is).0));
  thread_room = omega (arith, made.thread_room);
  lock_room = (let few = (named is).1 in omega (arith, made.lock_room, few));
}
  where
    Named : Op → Type 0
    Named o = IsLockOf o m.0 × (m.0 < locks_for o)

    named : (op ≡ Acquire m) ⊎ (op ≡ Release m) → Named op
    named (inl q) = subst Named (sym q) (refl, omega arith)
    named (inr q) = subst Named (sym q) (refl, omega arith)

-- a fork and a join name the other thread
pub thread_named : {op : Op} (v : ThreadId) → (op ≡ Fork v) ⊎ (op ≡ Join v) → IsThreadOf op v.0
thread_named v (inl q) = subst (λ (o : Op). IsThreadOf o v.0) (sym q) refl
thread_named v (inr q) = subst (λ (o : Op). IsThreadOf o v.0) (sym q) refl

-- growth after growth is growth
pub grown_then : {T L : ℕ → Type 0} {n m : ℕ} {a b c : StrictTables} → HasMade T L n m a b
    → HasMade T L n m b c → HasMade T L n m a c
grown_then g h = record {
  thread = λ u away has. g.thread u away (h.thread u away has);
  lock = λ l away has. g.lock l away (h.lock l away has);
  thread_room = omega (arith, g.thread_room, h.thread_room);
  lock_room = omega (arith, g.lock_room, h.lock_room);
}

-- room that is kept twice is kept
pub keeps_then : {a b c : StrictTables} → KeepsRoom a b → KeepsRoom b c → KeepsRoom a c
keeps_then p q = record {
  width = q.width ∙ p.width;
  thread = λ t r. q.thread t (p.thread t r);
  lock = λ l r. q.lock l (p.lock l r);
}

-- what the operation names is ready
pub lock_ready : {c : StrictTables} (t : ThreadId) (op : Op) (l : LockId)
    → (op ≡ Acquire l) ⊎ (op ≡ Release l) → HasThread c t.0 → HasLock c l.0 → IsReady c t op
lock_ready {c} t op l (inl is) mine has = subst (IsReady c t) (sym is) (record { thread = mine; named = has })
lock_ready {c} t op l (inr is) mine has = subst (IsReady c t) (sym is) (record { thread = mine; named = has })

-- rows for both threads are ready for a fork and a join
pub thread_ready : {c : StrictTables} (t : ThreadId) (op : Op) (u : ThreadId)
    → (op ≡ Fork u) ⊎ (op ≡ Join u) → HasThread c t.0 → HasThread c u.0 → IsReady c t op
thread_ready {c} t op u (inl is) mine has =
    subst (IsReady c t) (sym is) (record { thread = mine; named = has })
thread_ready {c} t op u (inr is) mine has =
    subst (IsReady c t) (sym is) (record { thread = mine; named = has })
