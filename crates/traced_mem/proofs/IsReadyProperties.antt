-- What a step leaves of the tables' room and of what the fields keep.
use Rattle.std.proofs.Common.{◌≡◌, ℕ, suc, ◌-◌, ◌≤◌, Bool, true, false, List, ◌++◌, Some, None, Option}
use Rattle.std.proofs.Common.{length, take, drop, append-nil, take_all, drop_of_length-le, nat_eq, ap, sym}
use Rattle.std.proofs.Common.{◌∙◌, subst, if◌then◌else◌, arith}
use Rattle.std.proofs.lemmas.Bool.{cases_eq, eq-eqb}
use Rattle.std.proofs.lemmas.List.{length-append, length-take, length-drop}
use Rattle.std.specs.List.{position}
use mathlib.Core.Logic.{inl, inr}
use Rattle.event_core.specs.declared.ids.ThreadId.{ThreadId}
use Rattle.event_core.specs.declared.ids.LockId.{LockId}
use Rattle.event_core.specs.declared.events.Op.{Op}
use Rattle.event_core.specs.declared.events.Op.TheVariants.{Load, Acquire, Release, Fork, Join}
use Rattle.traced_mem.specs.declared.rows.ThreadRow.{ThreadRow}
use Rattle.traced_mem.specs.declared.rows.LockRow.{LockRow}
use Rattle.traced_mem.specs.Meaning.{Thread, Lock}
use Rattle.traced_mem.specs.After.{updated, mentioned_again, now_forked, now_joined, gains, loses, without}
use Rattle.traced_mem.specs.After.{without_at, threads_after}
use Rattle.traced_mem.specs.Tables.{MemoryTables, thread_at, threads_of}
use Rattle.traced_mem.specs.Room.{IsReady, HasRoom, takes_place}
use Rattle.traced_mem.proofs.UpdatedProperties.{updated_same, updated_other}

-- a list that was lent whole, and of which all was written, is what was written
pub given_back : {A : Type 0} {n : ℕ} {lent ys : List A} (xs : List A) → lent ≡ ys → length lent ≡ n
    → length xs ≡ length lent → take n (xs ++ drop (length xs) ys) ≡ xs
given_back {n = n} {ys = ys} xs same len e =
    ap (λ rest. take n (xs ++ rest)) (drop_of_length-le ys (omega (arith, ap length same)))
    ∙ ap (take n) (append-nil xs) ∙ take_all n xs (omega arith)

without_shorter : (l : LockId) (held : List LockId) → length (without l held) ≤ length held
without_shorter l held = by_place (position (λ (h : LockId). nat_eq h.0 l.0) held)
  where
    by_place : (o : Option ℕ) → length (without_at o held) ≤ length held
    by_place None = omega arith
    by_place (Some i) =
        omega (
          arith,
          length-append (take i held) (drop (suc i) held),
          length-take i held,
          length-drop (suc i) held,
        )

loses_some : (l : LockId) (left : ℕ) (t : Thread) → length (loses l left t).held ≤ length t.held
loses_some l left t = by_test (nat_eq left 0)
  where
    by_test : (b : Bool) → length (if b then without l t.held else t.held) ≤ length t.held
    by_test true = without_shorter l t.held
    by_test false = omega arith

-- where one thread's row changes and its list does not grow, no list grows
no_more : (k : ℕ) (t : Thread) (f : ℕ → Thread) → length t.held ≤ length (f k).held → (u : ℕ)
    → length (updated k t f u).held ≤ length (f u).held
no_more k t f le u = elim (cases_eq u k) [
  | inl same ↦ subst (λ n. length (updated k t f n).held ≤ length (f n).held) (sym same)
      (let e : length (updated k t f k).held ≡ length t.held
      = ap (λ (r : Thread). length r.held) (updated_same k t f) in omega arith)
  | inr other ↦ (let e : length (updated k t f u).held ≡ length (f u).held =
      ap (λ (r : Thread). length r.held) (updated_other k t f u other) in omega arith)
]

-- the list of a thread that no acquire is of does not grow
step_no_more : (c : ThreadId) (p : Op) (locks : ℕ → Lock) (f : ℕ → Thread) (u : ThreadId) (m : LockId)
    → takes_place c p u (Acquire m) ≡ false
    → length (threads_after c p locks f u.0).held ≤ length (f u.0).held
step_no_more c (Fork v) locks f u m free = no_more v.0 (now_forked (f v.0)) f (omega arith) u.0
step_no_more c (Join v) locks f u m free = no_more v.0 (now_joined (f v.0)) f (omega arith) u.0
step_no_more c (Release l) locks f u m free =
    let left = (locks l.0).depth - 1 in
    no_more c.0 (loses l left (f c.0)) f (loses_some l left (f c.0)) u.0
step_no_more c (Acquire l) locks f u m free =
    let other : u.0 ≡ c.0 → ⊥ = λ e. (let t : nat_eq c.0 u.0 ≡ true = eq-eqb c.0 u.0 (sym e) in cc) in
    omega (
      arith,
      ap (λ (r : Thread). length r.held)
          (updated_other c.0 (gains l (locks l.0).depth (f c.0)) f u.0 other),
    )
step_no_more c _ locks f u m free = omega arith

-- the threads after an operation are known by an operation and threads that are the same
pub threads_by : (u : ThreadId) (locks : ℕ → Lock) {p o : Op} {before now then' : ℕ → Thread} → p ≡ o
    → then' ≡ threads_after u o locks now → now ≡ before → then' ≡ threads_after u p locks before
threads_by u locks is by was = by ∙ (λ i. threads_after u (sym is i) locks (was i))

-- an operation stays ready over a step that does not take its place
pub still_ready : {old new : MemoryTables} (locks : ℕ → Lock) (c : ThreadId) (p : Op) (u : ThreadId) (o : Op)
    → takes_place c p u o ≡ false
    → length new.threads ≡ length old.threads → length new.locks ≡ length old.locks
    → new.room ≡ old.room
    → ((u : ℕ) → (thread_at new.threads u).held.capacity ≡ (thread_at old.threads u).held.capacity)
    → threads_of new.threads ≡ threads_after c p locks
    (updated c.0 (mentioned_again (threads_of old.threads c.0)) (threads_of old.threads))
    → IsReady old u o → IsReady new u o
still_ready {old = old} {new = new} locks c p u o free ts ls cs caps rows r =
    record { caller = omega arith; room = room o free r.room }
  where
    room : (o : Op) → takes_place c p u o ≡ false
        → HasRoom old.threads (length old.locks) old.room u o
        → HasRoom new.threads (length new.locks) new.room u o
    room (Load x) free h = tt
    room (Acquire l) free h = (
      omega arith,
      let b = caps u.0 in
          let e : length (thread_at new.threads u.0).held.items
          ≡ length (threads_after c p locks
          (updated c.0 (mentioned_again (threads_of old.threads c.0))
          (threads_of old.threads)) u.0).held
          = ap (λ (f : ℕ → Thread). length (f u.0).held) rows in
          let f : ℕ → Thread = threads_of old.threads in
          let m = no_more c.0 (mentioned_again (f c.0)) f (omega arith) u.0 in
          let n = step_no_more c p locks (updated c.0 (mentioned_again (f c.0)) f) u l free in
          omega arith,
    )
    room _ free h = omega arith

-- tables of which two are lent, and given back as they were, are the same
pub lent_whole : {t s : MemoryTables} {threads : List ThreadRow} {locks : List LockRow} → t ≡ s
    → threads ≡ t.threads → locks ≡ t.locks → record t { threads = threads; locks = locks } ≡ s
lent_whole {t = t} same a b = (λ i. record t { threads = a i; locks = b i }) ∙ same
