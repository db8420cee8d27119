-- What has a strict clock has those of happens-before.
use Rattle.std.proofs.Common.{◌≡◌, ℕ, ◌<◌, length, inl, inr, ◌⊎◌, sym, subst}
use Rattle.std.proofs.lemmas.Bool.{cases_eq}
use Rattle.event_core.specs.declared.ids.ThreadId.{ThreadId}
use Rattle.event_core.specs.declared.ids.LockId.{LockId}
use Rattle.event_core.specs.declared.events.Op.{Op}
use Rattle.event_core.specs.declared.events.Op.TheVariants.{Acquire, Release, Fork, Join}
use Rattle.hb_clocks.specs.Rows.{IsMade}
use Rattle.hb_clocks.specs.Tables as hb
use Rattle.hb_clocks.proofs.HasGrownProperties.{thread_stays}
use Rattle.wcp_clocks.specs.Parts.{Parts, AreOrdered, HasPlaces, IsReady, IsWithin, NamesWithin}
use Rattle.wcp_clocks.specs.StrictRows.{StrictTables, HasThread, HasLock, HasNamed, GrownFor}
use Rattle.wcp_clocks.specs.StrictRows.{IsReady as RowsAreReady}

-- more room in the clocks of happens-before
pub ordered_more : (rows : StrictTables) (old new : hb.ClockTables) → hb.KeepsRoom old new
    → AreOrdered rows old → AreOrdered rows new
ordered_more rows old new keeps o = record {
  thread = λ t has. thread_stays old new t keeps (o.thread t has);
  lock = λ l has. (let r = o.lock l has in (r.0, keeps r.0 (Release l) r.1));
}

-- no other strict clocks
pub ordered_same : (old new : StrictTables) (order : hb.ClockTables)
    → ((t : ℕ) → HasThread new t → HasThread old t) → ((l : ℕ) → HasLock new l → HasLock old l)
    → AreOrdered old order → AreOrdered new order
ordered_same old new order threads locks o = record {
  thread = λ t has. o.thread t (threads t.0 has);
  lock = λ l has. o.lock l (locks l.0 has);
}

-- a thread is named by the operation or not, and so is a lock
neither : {A B : Type 0} → A ⊎ B → (A → ⊥) → (B → ⊥) → ⊥
neither (inl a) n m = n a
neither (inr b) n m = m b

thread_of : (op : Op) (u : ℕ) → hb.IsThreadOf op u ⊎ (hb.IsThreadOf op u → ⊥)
thread_of (Fork v) u = cases_eq u v.0
thread_of (Join v) u = cases_eq u v.0
thread_of _ u = inr (λ named. named)

thread_for : (t : ThreadId) (op : Op) (u : ℕ) → hb.IsThreadFor t op u ⊎ (hb.IsThreadFor t op u → ⊥)
thread_for t op u = go (cases_eq u t.0) (thread_of op u)
  where
    go : (u ≡ t.0) ⊎ (u ≡ t.0 → ⊥) → hb.IsThreadOf op u ⊎ (hb.IsThreadOf op u → ⊥)
        → hb.IsThreadFor t op u ⊎ (hb.IsThreadFor t op u → ⊥)
    go (inl q) _ = inl (inl q)
    go (inr n) (inl q) = inl (inr q)
    go (inr n) (inr m) = inr (λ named. neither named n m)

lock_of : (op : Op) (l : ℕ) → hb.IsLockOf op l ⊎ (hb.IsLockOf op l → ⊥)
lock_of (Acquire m) l = cases_eq l m.0
lock_of (Release m) l = cases_eq l m.0
lock_of _ l = inr (λ named. named)

-- what is named has its clocks of happens-before where the operation is ready in them
thread_ready : (order : hb.ClockTables) (t : ThreadId) (op : Op) (u : ℕ) → hb.IsReady order t op
    → hb.IsThreadFor t op u → hb.HasThread order.width order.po order.hb u
thread_ready order t op u ready (inl q) =
    subst (hb.HasThread order.width order.po order.hb) (sym q) ready.thread
thread_ready order t (Fork v) u ready (inr q) =
    subst (hb.HasThread order.width order.po order.hb) (sym q) ready.clocks
thread_ready order t (Join v) u ready (inr q) =
    subst (hb.HasThread order.width order.po order.hb) (sym q) ready.clocks
thread_ready order t _ u ready (inr q) = absurd q

lock_ready : (order : hb.ClockTables) (t : ThreadId) (op : Op) (l : LockId) → hb.IsReady order t op
    → hb.IsLockOf op l.0 → hb.IsReady order t (Release l)
lock_ready order t (Acquire m) l ready q = record {
  thread = ready.thread;
  clocks = subst (IsMade order.width order.lock) (sym q) ready.clocks;
  hold = subst (λ n. n < length order.holds) (sym q) ready.hold;
}
lock_ready order t (Release m) l ready q = record {
  thread = ready.thread;
  clocks = subst (IsMade order.width order.lock) (sym q) ready.clocks;
  hold = subst (λ n. n < length order.holds) (sym q) ready.hold;
}
lock_ready order t _ l ready q = absurd q

-- so strict clocks may be made for such an operation
pub ordered_grown : (old new : StrictTables) (order : hb.ClockTables) (t : ThreadId) (op : Op)
    → hb.IsReady order t op → GrownFor old new t op → AreOrdered old order → AreOrdered new order
ordered_grown old new order t op ready grown o = record {
  thread = λ u has. thread u has (thread_for t op u.0);
  lock = λ l has. lock l has (lock_of op l.0);
}
  where
    thread : (u : ThreadId) → HasThread new u.0
        → hb.IsThreadFor t op u.0 ⊎ (hb.IsThreadFor t op u.0 → ⊥)
        → hb.HasThread order.width order.po order.hb u.0
    thread u has (inl named) = thread_ready order t op u.0 ready named
    thread u has (inr away) = o.thread u (grown.thread u.0 away has)

    lock : (l : LockId) → HasLock new l.0 → hb.IsLockOf op l.0 ⊎ (hb.IsLockOf op l.0 → ⊥)
        → (u : ThreadId) × hb.IsReady order u (Release l)
    lock l has (inl named) = (t, lock_ready order t op l ready named)
    lock l has (inr away) = o.lock l (grown.lock l.0 away has)

-- there is room in the clocks of happens-before where there are strict clocks
pub order_ready : (rows : StrictTables) (order : hb.ClockTables) (t : ThreadId) (op : Op)
    → AreOrdered rows order → RowsAreReady rows t op → hb.IsReady order t op
order_ready rows order t op o has = go op has.named
  where
    mine : hb.HasThread order.width order.po order.hb t.0
    mine = o.thread t has.thread

    go : (op : Op) → HasNamed rows op → hb.IsReady order t op
    go (Acquire l) n = let r = o.lock l n in record { thread = mine; clocks = r.1.clocks; hold = r.1.hold }
    go (Release l) n = let r = o.lock l n in record { thread = mine; clocks = r.1.clocks; hold = r.1.hold }
    go (Fork u) n = record { thread = mine; clocks = o.thread u n; hold = tt }
    go (Join u) n = record { thread = mine; clocks = o.thread u n; hold = tt }
    go _ n = record { thread = mine; clocks = tt; hold = tt }

-- so the operation is ready where the parts have its strict clocks and its places
pub ready_of : (p : Parts) (t : ThreadId) (op : Op) → AreOrdered p.rows p.hb → RowsAreReady p.rows t op
    → HasPlaces p.sums p.queues p.held t op → IsReady p t op
ready_of p t op o rows places = record {
  hb = order_ready p.rows p.hb t op o rows;
  rows = rows;
  places = places;
}

-- what the operation names is within the width
pub order_within : (p : Parts) (t : ThreadId) (op : Op) → IsWithin p t op → hb.IsWithin p.hb.width t op
order_within p t op w = (w.0, go op w.1)
  where
    go : (op : Op) → NamesWithin p op → hb.NamesWithin p.hb.width op
    go (Fork u) n = n
    go (Join u) n = n
    go _ n = tt
