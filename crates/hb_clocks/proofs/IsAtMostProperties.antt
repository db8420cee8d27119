-- An event makes no number greater by more than one.
use Rattle.std.proofs.Common.{ℕ, ◌≤◌, ◌+◌, ◌-◌, Bool, true, false, cond, nat_eq, arith}
use Rattle.event_core.specs.declared.ids.ThreadId.{ThreadId}
use Rattle.event_core.specs.declared.ids.LockId.{LockId}
use Rattle.event_core.specs.declared.events.Op.{Op}
use Rattle.event_core.specs.declared.events.Op.TheVariants.{Acquire, Release}
use Rattle.event_core.specs.Rows.{clock_after, depth_after, join, with_row, Rows, to_child, to_lock, brought}
use Rattle.event_core.specs.Effect.{Effect, Closes, Forks}
use Rattle.event_core.specs.declared.events.Event.{Event}
use Rattle.hb_clocks.specs.State.{HbState, empty, after, effect, without_locks}
use Rattle.hb_clocks.specs.Standing.{IsAtMost}
use Rattle.hb_clocks.proofs.TableSteps.{brought_few}

-- a row that is written has few, where the row and the others do
few_row : (most t : ℕ) (g : ℕ → ℕ) (f : ℕ → ℕ → ℕ) → ((u : ThreadId) → g u.0 ≤ most) → (a : ℕ)
    → ((u : ThreadId) → f a u.0 ≤ most)
    → (u : ThreadId) → with_row t g f a u.0 ≤ most
few_row most t g f few a was u = go (nat_eq a t)
  where
    go : (b : Bool) → (cond b g (f a)) u.0 ≤ most
    go true = few u
    go false = was u

few_child : (most : ℕ) (k : Effect) (g : ℕ → ℕ) (f : ℕ → ℕ → ℕ) → ((u : ThreadId) → g u.0 ≤ most) → (a : ℕ)
    → ((u : ThreadId) → f a u.0 ≤ most)
    → (u : ThreadId) → to_child k g f a u.0 ≤ most
few_child most (Forks v) g f few a was u = few_row most v.0 g f few a was u
few_child most _ g f few a was u = was u

few_lock : (most : ℕ) (k : Effect) (g : ℕ → ℕ) (f : ℕ → ℕ → ℕ) → ((u : ThreadId) → g u.0 ≤ most) → (a : ℕ)
    → ((u : ThreadId) → f a u.0 ≤ most)
    → (u : ThreadId) → to_lock k g f a u.0 ≤ most
few_lock most (Closes l) g f few a was u = few_row most l.0 g f few a was u
few_lock most _ g f few a was u = was u

-- the clock of the event
few_clock : (most : ℕ) (t : ThreadId) (k : Effect) (r : Rows) → ((a u : ThreadId) → r.thread a.0 u.0 ≤ most)
    → ((l : LockId) (u : ThreadId) → r.lock l.0 u.0 ≤ most)
    → (u : ThreadId) → clock_after t k r u.0 ≤ most + 1
few_clock most t k r threads locks u =
    let a : r.thread t.0 u.0 ≤ most = threads t u in
    let b : brought k r u.0 ≤ most = brought_few most r threads locks k u in
    let c : join (r.thread t.0) (brought k r) u.0 ≤ most = omega arith in
    go (nat_eq u.0 t.0) c
  where
    go : (b : Bool) → join (r.thread t.0) (brought k r) u.0 ≤ most
        → cond b (join (r.thread t.0) (brought k r) u.0 + 1)
        (join (r.thread t.0) (brought k r) u.0) ≤ most + 1
    go true h = omega arith
    go false h = omega arith

few_cell : (most t l v : ℕ) (d : ℕ → ℕ → ℕ) → v ≤ most → (a b : ℕ) → d a b ≤ most → d t b ≤ most
    → with_row t (with_row l v (d t)) d a b ≤ most
few_cell most t l v d few a b was own = go (nat_eq a t) (nat_eq b l)
  where
    go : (p q : Bool) → (cond p (λ (c : ℕ). cond (nat_eq c l) v (d t c)) (d a)) b ≤ most
    go true q = at (nat_eq b l)
      where
        at : (q : Bool) → cond q v (d t b) ≤ most
        at true = few
        at false = own
    go false q = was

few_depth : (most t : ℕ) (op : Op) (d : ℕ → ℕ → ℕ) → ((a : ThreadId) (l : LockId) → d a.0 l.0 ≤ most)
    → (a : ThreadId) (l : LockId) → depth_after t op d a.0 l.0 ≤ most + 1
few_depth most t op d few a l = go op
  where
    up : (x : ThreadId) (y : LockId) → d x.0 y.0 ≤ most + 1
    up x y = let h = few x y in omega arith

    own : ThreadId
    own = record { 0 = t }

    go : (o : Op) → depth_after t o d a.0 l.0 ≤ most + 1
    go (Acquire n) = few_cell (most + 1) t n.0 (d t n.0 + 1) d
        (let h = few (record { 0 = t }) n in omega arith) a.0 l.0 (up a l) (up (record { 0 = t }) l)
    go (Release n) = few_cell (most + 1) t n.0 (d t n.0 - 1) d
        (let h = few (record { 0 = t }) n in omega arith) a.0 l.0 (up a l) (up (record { 0 = t }) l)
    go _ = up a l

-- an event makes no number greater by more than one
pub grows_by_one : (most : ℕ) (e : Event) (s : HbState) → IsAtMost most s → IsAtMost (most + 1) (after e s)
grows_by_one most e s few = record {
  po = λ a u. few_child (most + 1) (effect e s) po_clock (with_row e.thread.0 po_clock s.po) po_few a.0
      (few_row (most + 1) e.thread.0 po_clock s.po po_few a.0 (λ v. let h = few.po a v in omega arith)) u;
  hb = λ a u. few_child (most + 1) (effect e s) hb_clock (with_row e.thread.0 hb_clock s.hb.thread) hb_few a.0
      (few_row (most + 1) e.thread.0 hb_clock s.hb.thread hb_few a.0
      (λ v. let h = few.hb a v in omega arith)) u;
  lock = λ l u. few_lock (most + 1) (effect e s) hb_clock s.hb.lock hb_few l.0
      (λ v. let h = few.lock l v in omega arith) u;
  depth = few_depth most e.thread.0 e.op s.depth few.depth;
}
  where
    po_clock : ℕ → ℕ
    po_clock = clock_after e.thread (effect e s) (without_locks s.po)

    hb_clock : ℕ → ℕ
    hb_clock = clock_after e.thread (effect e s) s.hb

    po_few : (u : ThreadId) → clock_after e.thread (effect e s) (without_locks s.po) u.0 ≤ most + 1
    po_few u = few_clock most e.thread (effect e s) (without_locks s.po) few.po (λ l v. omega arith) u

    hb_few : (u : ThreadId) → clock_after e.thread (effect e s) s.hb u.0 ≤ most + 1
    hb_few u = few_clock most e.thread (effect e s) s.hb few.hb few.lock u

-- the clocks of the empty log are at most 0
pub none_at_most : IsAtMost 0 empty
none_at_most = record {
  po = λ t u. omega arith;
  hb = λ t u. omega arith;
  lock = λ l u. omega arith;
  depth = λ t l. omega arith;
}

-- clocks that are at most a number are at most each greater one
pub at_most_more : (m n : ℕ) (s : HbState) → m ≤ n → IsAtMost m s → IsAtMost n s
at_most_more m n s le few = record {
  po = λ t u. (let h = few.po t u in omega arith);
  hb = λ t u. (let h = few.hb t u in omega arith);
  lock = λ l u. (let h = few.lock l u in omega arith);
  depth = λ t l. (let h = few.depth t l in omega arith);
}
