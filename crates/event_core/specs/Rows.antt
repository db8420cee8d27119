-- Rows of clocks: a clock for each thread and each lock, what an event makes of them, and what they count.
--
-- A clock here is a function from a thread's number to how many of its events are in the clock's set.
use Rattle.std.specs.Prelude.{ℕ, ◌+◌, ◌-◌, max, cond, nat_eq, List}
use Rattle.event_core.specs.declared.ids.ThreadId.{ThreadId}
use Rattle.event_core.specs.declared.ids.LockId.{LockId}
use Rattle.event_core.specs.declared.events.Event.{Event}
use Rattle.event_core.specs.declared.events.Op.{Op}
use Rattle.event_core.specs.declared.events.Op.TheVariants.{Acquire, Release}
use Rattle.event_core.specs.Count.{Counts, Past, LockPast}
use Rattle.event_core.specs.Effect.{Effect, Opens, Closes, Forks, Joins}

-- the clock of the empty set
abbrev pub no_clock : ℕ → ℕ
no_clock _ = 0

-- at each thread the greater of the two numbers, which is the clock of the union
abbrev pub join : (ℕ → ℕ) → (ℕ → ℕ) → ℕ → ℕ
join f g u = max (f u) (g u)

-- the clock with one more at t
abbrev pub bump : ℕ → (ℕ → ℕ) → ℕ → ℕ
bump t f u = cond (nat_eq u t) (f u + 1) (f u)

-- the row f with g in place of what it has at t
abbrev pub with_row : {A : Type 0} → ℕ → A → (ℕ → A) → ℕ → A
with_row t g f a = cond (nat_eq a t) g (f a)

-- a clock for each thread and each lock
pub record Rows : Type 0 where
  pub thread : ℕ → ℕ → ℕ
  pub lock : ℕ → ℕ → ℕ

-- no clock counts anything
abbrev pub no_rows : Rows
no_rows = record { thread = λ _ _. 0; lock = λ _ _. 0 }

-- a fork hands its clock to the child
abbrev pub to_child : Effect → (ℕ → ℕ) → (ℕ → ℕ → ℕ) → ℕ → ℕ → ℕ
to_child (Forks u) g f = with_row u.0 g f
to_child _ g f = f

-- an outer release leaves its clock at the lock
abbrev pub to_lock : Effect → (ℕ → ℕ) → (ℕ → ℕ → ℕ) → ℕ → ℕ → ℕ
to_lock (Closes l) g f = with_row l.0 g f
to_lock _ g f = f

-- the rows after an event of thread t with the clock g
abbrev pub rows_after : ThreadId → Effect → (ℕ → ℕ) → Rows → Rows
rows_after t k g r = record { thread = to_child k g (with_row t.0 g r.thread); lock = to_lock k g r.lock }

-- what a join or an outer acquire brings
abbrev pub brought : Effect → Rows → ℕ → ℕ
brought (Joins u) r = r.thread u.0
brought (Opens l) r = r.lock l.0
brought _ r = no_clock

-- the clock of an event: its thread's, what is brought to it, and the event itself
abbrev pub clock_after : ThreadId → Effect → Rows → ℕ → ℕ
clock_after t k r = bump t.0 (join (r.thread t.0) (brought k r))

-- how often each lock is held after the operation of thread t
abbrev pub depth_after : ℕ → Op → (ℕ → ℕ → ℕ) → ℕ → ℕ → ℕ
depth_after t (Acquire l) d = with_row t (with_row l.0 (d t l.0 + 1) (d t)) d
depth_after t (Release l) d = with_row t (with_row l.0 (d t l.0 - 1) (d t)) d
depth_after t _ d = d

-- the clock counts the set
abbrev pub Counted : List Event → (ℕ → Type 0) → (ℕ → ℕ) → Type 0
Counted log P c = (u : ThreadId) → Counts log u P (c u.0)

-- each thread's clock counts what is R-below its latest event or its fork, and each lock's what is R-below
-- its latest outer release
pub record RowsStand (log : List Event) (R : ℕ → ℕ → Type 0) (r : Rows) : Type 0 where
  pub thread : (t : ThreadId) → Counted log (Past log R t) (r.thread t.0)
  pub lock : (l : LockId) → Counted log (LockPast log R l) (r.lock l.0)
