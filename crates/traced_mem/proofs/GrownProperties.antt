-- A further row that says nothing.
use Rattle.std.proofs.Common.{◌≡◌, ℕ, ◌<◌, ◌≤◌, List, length, refl, ap, ◌∙◌}
use Rattle.std.proofs.Common.{arith, subst}
use Rattle.traced_mem.specs.declared.rows.ThreadRow.{ThreadRow}
use Rattle.event_core.specs.declared.ids.ThreadId.{ThreadId}
use Rattle.event_core.specs.declared.events.Op.{Op}
use Rattle.event_core.specs.declared.events.Op.TheVariants.{Load, Acquire}
use Rattle.traced_mem.specs.declared.rows.LockRow.{LockRow}
use Rattle.traced_mem.specs.Meaning.{Thread}
use Rattle.traced_mem.specs.Tables.{MemoryTables, lock_at, HeldBelow, thread_at}
use Rattle.traced_mem.specs.Room.{HasRoom, IsReady, Grown}

-- a list has grown by nothing into itself
pub grown_none : (xs : List ThreadRow) → Grown xs xs
grown_none xs = record { rows = refl; more = omega arith; capacity = λ u. omega arith }

-- a list that has grown twice has grown
pub grown_more : {old mid new : List ThreadRow} → Grown old mid → Grown mid new → Grown old new
grown_more a b = record {
  rows = b.rows ∙ a.rows;
  more = omega (arith, a.more, b.more);
  capacity = λ u. omega (arith, a.capacity u, b.capacity u);
}

-- holders stay below a number that grows
pub below_grown : {n m : ℕ} (old new : List LockRow) → n ≤ m → lock_at new ≡ lock_at old → HeldBelow n old
    → HeldBelow m new
below_grown {n = n} old new le same h l d =
    let here : lock_at new l ≡ lock_at old l = λ i. same i l in
    let b : (lock_at old l).by.0 < n = h l (subst (λ (x : LockRow). 0 < x.depth) here d) in
    let e : (lock_at new l).by.0 ≡ (lock_at old l).by.0 = ap (λ (x : LockRow). x.by.0) here in
    omega arith

-- what was ready stays ready where all tables have grown
pub ready_grown : {old new : MemoryTables} → Grown old.threads new.threads
    → length old.locks ≤ length new.locks → old.room ≤ new.room
    → (u : ThreadId) (o : Op) → IsReady old u o → IsReady new u o
ready_grown {old = old} {new = new} g ls cs u o r =
    record { caller = (let a = r.caller in omega arith); room = room o r.room }
  where
    room : (o : Op) → HasRoom old.threads (length old.locks) old.room u o
        → HasRoom new.threads (length new.locks) new.room u o
    room (Load x) h = tt
    room (Acquire l) h = (
      omega arith,
      let b = g.capacity u.0 in
          let e : length (thread_at new.threads u.0).held.items
          ≡ length (thread_at old.threads u.0).held.items
          = ap (λ (f : ℕ → Thread). length (f u.0).held) g.rows in
          omega arith,
    )
    room _ h = omega arith
