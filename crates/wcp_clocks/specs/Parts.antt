-- What the parts of the clocks mean together.
use Rattle.std.specs.Prelude.{◌≡◌, ℕ, ◌+◌, ◌*◌, ◌^◌, ◌<◌, ◌≤◌, ◌↔◌, List, length, IsTrue}
use Rattle.event_core.specs.declared.ids.ThreadId.{ThreadId}
use Rattle.event_core.specs.declared.ids.LockId.{LockId}
use Rattle.event_core.specs.declared.events.Op.{Op}
use Rattle.event_core.specs.declared.events.Op.TheVariants.{Load, Store, Acquire, Release, Fork, Join}
use Rattle.event_core.specs.declared.events.Event.{Event}
use Rattle.event_core.specs.declared.bounds.Limits.{Limits}
use Rattle.event_core.specs.declared.bounds.TheConstants.{MOST_EVENTS}
use Rattle.event_core.specs.Closed.{Has}
use Rattle.event_core.specs.Effect.{Effect, Accesses, Opens, Closes, Joins}
use Rattle.hb_clocks.specs.State.{HbState}
use Rattle.hb_clocks.specs.Standing.{Admits, IsFew}
use Rattle.hb_clocks.specs.Tables as hb
use Rattle.hb_clocks.specs.Tables.{ClockTables}
use Rattle.hb_clocks.specs.Work.{Done}
use Rattle.section_sum.specs.Sums.{Sums, noted_of, IsReady as SumsAreReady, IsAlone}
use Rattle.lock_queues.specs.Sections.{latest_counted}
use Rattle.lock_queues.specs.Queues.{AllQueues as Queues, closed_of, opened_of, found_of, is_ready}
use Rattle.wcp_laws.specs.State.{State}
use Rattle.wcp_laws.specs.Step.{effect}
use Rattle.wcp_laws.specs.Conditions.{IsSound, CursorsStand}
use Rattle.wcp_clocks.specs.HeldLists.{HeldList, list_at, held_of, room_at}
use Rattle.wcp_clocks.specs.StrictRows.{StrictTables, strict_of, HasThread, HasLock, IsReady as RowsAreReady}
use Rattle.wcp_clocks.specs.Met.{met_clocks, AreNumbers, joins_under, joins_latest}

-- the clocks of program order and happens-before, those of the strict relation, what closed sections saw,
-- who holds what, and the work that was done
pub record Parts : Type 0 where
  pub hb : ClockTables
  pub rows : StrictTables
  pub sums : Sums
  pub queues : Queues
  pub held : List HeldList
  pub work : Done

abbrev pub parts_of : ClockTables → StrictTables → Sums → Queues → List HeldList → Done → Parts
parts_of order rows sums queues held work = record {
  hb = order;
  rows = rows;
  sums = sums;
  queues = queues;
  held = held;
  work = work;
}

-- program order, happens-before and the depths of locks
abbrev pub hb_of : Parts → HbState
hb_of p = hb.state_of p.hb

-- the numbers of the step of an event
abbrev pub state_of : Parts → State
state_of p = record {
  hb = (hb_of p).hb;
  strict = strict_of p.rows;
  depth = (hb_of p).depth;
  opened = opened_of p.queues;
  held = held_of p.held;
  noted = noted_of p.sums;
  met_clock = met_clocks p.sums (closed_of p.queues);
  closed = closed_of p.queues;
}

-- how many threads the clocks count
abbrev pub width_of : Parts → ℕ
width_of p = p.hb.width

-- the limits that they were made with
abbrev pub limits_of : Parts → Limits
limits_of p = p.queues.limits

-- the work that was done for them
abbrev pub work_of : Parts → Done
work_of p = p.work

-- how many of each lock's closed sections each thread has found counted
abbrev pub found_in : Parts → ℕ → ℕ → ℕ
found_in p = found_of p.queues

-- what has a strict clock has those of happens-before: a thread has both, and a lock is ready for the release
-- of some thread
pub record AreOrdered (rows : StrictTables) (order : hb.ClockTables) : Type 0 where
  pub thread : (t : ThreadId) → HasThread rows t.0 → hb.HasThread order.width order.po order.hb t.0
  pub lock : (l : LockId) → HasLock rows l.0 → (t : ThreadId) × hb.IsReady order t (Release l)

-- what the operation needs beside clocks
abbrev pub HasPlaces : Sums → Queues → List HeldList → ThreadId → Op → Type 0
HasPlaces sums queues held t (Load x) = SumsAreReady sums (list_at held t.0).locks x.0
HasPlaces sums queues held t (Store x) = SumsAreReady sums (list_at held t.0).locks x.0
HasPlaces sums queues held t (Acquire l) = IsTrue (is_ready queues t.0 l.0) × (0 < room_at held t.0)
HasPlaces sums queues held t _ = Unit {0}

-- there is room for the thread's operation
pub record IsReady (p : Parts) (t : ThreadId) (op : Op) : Type 0 where
  pub hb : hb.IsReady p.hb t op
  pub rows : RowsAreReady p.rows t op
  pub places : HasPlaces p.sums p.queues p.held t op

-- there is room for both events of a swap
abbrev pub IsReadyToSwap : Parts → Event → Event → Type 0
IsReadyToSwap p load store = IsReady p load.thread load.op × IsReady p store.thread store.op

-- what is asked of the numbers at the event, with no log
pub record Fits (e : Event) (p : Parts) : Type 0 where
  pub admits : Admits (hb_of p) e.thread e.op
  pub few : IsFew (hb_of p)
  pub sound : IsSound e (state_of p)
  -- no other thread has an access in an open section on a lock that the thread holds
  pub alone : IsAlone p.sums e.thread.0 (list_at p.held e.thread.0).locks
  -- before its thread's event it counts fewer events than a log may have
  pub few_counts : (u : ℕ) → (hb_of p).hb.thread e.thread.0 u < MOST_EVENTS
  -- and so does a lock
  pub few_at_lock : (l : LockId) → (hb_of p).hb.lock l.0 e.thread.0 < MOST_EVENTS
  -- a section that is closed has a number
  pub few_closed : (l : LockId) → effect e (state_of p) ≡ Closes l
      → length (closed_of p.queues l.0) + 1 < MOST_EVENTS
  pub held : (l : LockId) → Has l.0 (held_of p.held e.thread.0) ↔ (0 < (hb_of p).depth e.thread.0 l.0)
  pub cursors : CursorsStand (state_of p) (found_in p)
  -- the work is far below what is counted
  pub joins : p.work.joins + 2 * length (held_of p.held e.thread.0) < 2 ^ 61
  pub comparisons : (l : LockId) → p.work.comparisons + length (closed_of p.queues l.0) < 2 ^ 63

-- what the parts keep between them
pub record AreParts (p : Parts) : Type 0 where
  pub rows : p.rows.width ≡ p.hb.width
  pub queues : p.queues.limits.threads ≡ p.hb.width
  -- the summaries name closed sections
  pub numbers : AreNumbers p.sums (closed_of p.queues)
  -- a lock that is held has its clock, and so has its holder
  pub held_thread : (t l : ℕ) → 0 < (hb_of p).depth t l → HasThread p.rows t
  pub held_lock : (t l : ℕ) → 0 < (hb_of p).depth t l → HasLock p.rows l
  pub ordered : AreOrdered p.rows p.hb

-- what was ready stays so
abbrev pub KeepsReady : Parts → Parts → Type 0
KeepsReady old new = (t : ThreadId) (op : Op) → IsReady old t op → IsReady new t op

-- the same limits
pub record SameLimits (old new : Parts) : Type 0 where
  pub width : width_of new ≡ width_of old
  pub limits : limits_of new ≡ limits_of old

-- how many joins an event takes at most, where its thread holds so many locks
abbrev pub most_joins : Effect → ℕ → ℕ
most_joins (Accesses x k) held = 2 * held
most_joins _ held = 3

-- how many joins it takes: two at an outer acquire and three at a join, and else one for each release that
-- its thread's strict clock takes
abbrev pub joins_at : ThreadId → Effect → Parts → ℕ
joins_at t (Opens l) p = 2
joins_at t (Joins u) p = 3
joins_at t (Accesses x k) p = joins_under p.sums x.0 k t.0 (held_of p.held t.0)
joins_at t (Closes l) p =
    joins_latest (latest_counted ((strict_of p.rows).thread t.0) (closed_of p.queues l.0))
joins_at t _ p = 0

-- a closing release makes one comparison more than it finds sections, at most, and nothing else makes one
abbrev pub FewComparisons : ThreadId → Effect → Parts → Parts → Type 0
FewComparisons t (Closes l) old new = (work_of new).comparisons + found_in old l.0 t.0
    ≤ (work_of old).comparisons + found_in new l.0 t.0 + 1
FewComparisons t _ old new = (work_of new).comparisons ≡ (work_of old).comparisons

-- and no fewer than it finds sections
abbrev pub NoFewer : ThreadId → Effect → Parts → Parts → Type 0
NoFewer t (Closes l) old new = (work_of old).comparisons + found_in new l.0 t.0
    ≤ (work_of new).comparisons + found_in old l.0 t.0
NoFewer t _ old new = Unit {0}

-- the numbers that the operation names are within the limits
abbrev pub NamesWithin : Parts → Op → Type 0
NamesWithin p (Fork u) = u.0 < width_of p
NamesWithin p (Join u) = u.0 < width_of p
NamesWithin p (Acquire l) = l.0 < (limits_of p).locks
NamesWithin p (Release l) = l.0 < (limits_of p).locks
NamesWithin p _ = Unit {0}

-- and so is the thread's
abbrev pub IsWithin : Parts → ThreadId → Op → Type 0
IsWithin p t op = (t.0 < width_of p) × NamesWithin p op

abbrev pub IsRelease : Op → Type 0
IsRelease (Release l) = Unit {0}
IsRelease _ = ⊥

abbrev pub IsAccess : Op → Type 0
IsAccess (Load x) = Unit {0}
IsAccess (Store x) = Unit {0}
IsAccess _ = ⊥

-- there may be other room, and all numbers are as they were
pub record SameNumbers (old new : Parts) : Type 0 where
  pub state : state_of new ≡ state_of old
  pub hb : hb_of new ≡ hb_of old
  pub found : found_in new ≡ found_in old
  pub work : work_of new ≡ work_of old
