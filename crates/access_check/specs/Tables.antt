-- The tables of accesses: what they mean, and the room that is made.
use Rattle.std.specs.Prelude.{ℕ, ◌+◌, ◌*◌, ◌≡◌, ◌<◌, ◌≤◌, List, [], Option, Some, None, IsTrue, cond}
use Rattle.std.specs.Prelude.{nat_eq, length, max, slice_index, slice_index_or}
use Rattle.event_core.specs.declared.ids.ThreadId.{ThreadId}
use Rattle.event_core.specs.declared.events.Event.{Event}
use Rattle.event_core.specs.declared.events.Op.{Op}
use Rattle.event_core.specs.declared.events.Op.TheVariants.{Load, Store}
use Rattle.event_core.specs.declared.events.AccessKind.{AccessKind}
use Rattle.event_core.specs.declared.events.AccessKind.TheVariants.{Read, Write}
use Rattle.event_core.specs.declared.bounds.Limits.{Limits}
use Rattle.event_core.specs.declared.replies.Verdict.{Verdict}
use Rattle.event_core.specs.declared.replies.Verdict.TheVariants.{Clear, Racy}
use Rattle.access_check.specs.declared.last_accesses.Access.{Access}
use Rattle.access_check.specs.declared.last_accesses.LastAccess.{LastAccess}
use Rattle.access_check.specs.declared.variable_accesses.VariableAccesses.{VariableAccesses}
use Rattle.access_check.specs.LastAccesses.{is_ready, AreNarrow}
use Rattle.access_check.specs.VariableAccesses.{no_accesses, of_kind, kept, latest_racing, kept_after}

pub record AccessTables : Type 0 where
  pub limits : Limits
  -- of each thread how many events it has
  pub counts : List ℕ
  -- of each variable who touched it last
  pub vars : List VariableAccesses
  -- for so many counts and variables there is memory
  pub count_room : ℕ
  pub var_room : ℕ

-- past the end of a table nothing was noted
abbrev pub count_at : List ℕ → ℕ → ℕ
count_at counts u = slice_index counts u

abbrev pub accesses_at : List VariableAccesses → ℕ → VariableAccesses
accesses_at vars x = slice_index_or vars x no_accesses

-- the verdict that the latest racing access gives
abbrev pub verdict_at : Option ℕ → Verdict
verdict_at None = Clear
verdict_at (Some i) = Racy i

abbrev pub verdict_of : List VariableAccesses → ThreadId → Op → (ℕ → ℕ) → Verdict
verdict_of vars t (Load x) clock = verdict_at (latest_racing t Read clock (accesses_at vars x.0))
verdict_of vars t (Store x) clock = verdict_at (latest_racing t Write clock (accesses_at vars x.0))
verdict_of vars t _ clock = Clear

-- there is room for the thread's access of that kind
pub record IsReadyAt (vars : List VariableAccesses) (t : ThreadId) (x : ℕ) (k : AccessKind) : Type 0 where
  pub within : x < length vars
  pub room : IsTrue (is_ready t (of_kind k (accesses_at vars x)))

-- there is room for the operation's access by the thread
abbrev pub IsReadyFor : List VariableAccesses → ThreadId → Op → Type 0
IsReadyFor vars t (Load x) = IsReadyAt vars t x.0 Read
IsReadyFor vars t (Store x) = IsReadyAt vars t x.0 Write
IsReadyFor vars t _ = Unit {0}

-- there is room for an event of the thread with the operation
pub record IsReady (tables : AccessTables) (t : ThreadId) (o : Op) : Type 0 where
  pub thread : t.0 < length tables.counts
  pub access : IsReadyFor tables.vars t o

-- there is room for both events of a swap
abbrev pub IsReadyToSwap : AccessTables → Event → Event → Type 0
IsReadyToSwap tables load store =
    IsReady tables load.thread load.op × IsReady tables store.thread store.op

-- what the thread had room for it still has room for
abbrev pub KeepsReady : AccessTables → AccessTables → ThreadId → Type 0
KeepsReady old new t = (o : Op) → IsReady old t o → IsReady new t o

abbrev pub last_of : ThreadId → Access → LastAccess
last_of t a = record { thread = t; access = a }

-- what is kept of a variable's accesses of kind m after an event, on which there was that verdict
abbrev pub accesses_after : Verdict → ThreadId → Op → Access → ℕ → AccessKind → VariableAccesses
    → List LastAccess
accesses_after v t (Load y) a x m ts = cond (nat_eq x y.0) (kept_after v Read (last_of t a) m ts) (kept m ts)
accesses_after v t (Store y) a x m ts =
    cond (nat_eq x y.0) (kept_after v Write (last_of t a) m ts) (kept m ts)
accesses_after v t _ a x m ts = kept m ts

-- the event is noted at the index, with the verdict on it
pub record Notes (old new : AccessTables) (e : Event) (index : ℕ) (v : Verdict) : Type 0 where
  pub limits : new.limits ≡ old.limits
  pub counts : (u : ℕ) → count_at new.counts u
      ≡ cond (nat_eq u e.thread.0) (count_at old.counts u + 1) (count_at old.counts u)
  pub accesses : (x : ℕ) (m : AccessKind) → kept m (accesses_at new.vars x)
      ≡ accesses_after v e.thread e.op
      (record { index = index; position = count_at old.counts e.thread.0 + 1 })
      x m (accesses_at old.vars x)

-- the same meaning, and at least the room
pub record Grown (old new : AccessTables) : Type 0 where
  pub limits : new.limits ≡ old.limits
  pub counts : (u : ℕ) → count_at new.counts u ≡ count_at old.counts u
  pub accesses : (x : ℕ) (m : AccessKind) → kept m (accesses_at new.vars x) ≡ kept m (accesses_at old.vars x)
  pub room : (t : ThreadId) → KeepsReady old new t

-- how many variables get tables for the operation: the next ones get theirs with the one that is named
abbrev pub vars_for : Op → ℕ
vars_for (Load x) = x.0 + 64
vars_for (Store x) = x.0 + 64
vars_for _ = 0

-- no list of a variable has memory for more accesses than it had; or for twice as many as it has with one
-- more, if it is a list of variable x
abbrev pub LastsAt : ℕ → List VariableAccesses → List VariableAccesses → Type 0
LastsAt x old new = (y : ℕ) (k : AccessKind) → (of_kind k (accesses_at new y)).reserved
    ≤ max (of_kind k (accesses_at old y)).reserved
    (2 * cond (nat_eq x y) (length (kept k (accesses_at old y)) + 1) 0)

-- if it is a list of the variable that the operation accesses
abbrev pub LastsFor : Op → List VariableAccesses → List VariableAccesses → Type 0
LastsFor (Load x) old new = LastsAt x.0 old new
LastsFor (Store x) old new = LastsAt x.0 old new
LastsFor _ old new = new ≡ old

-- no table has grown further than that, and none has memory for more than twice as many, or had it before
pub record GrownFor (old new : AccessTables) (t : ThreadId) (o : Op) : Type 0 where
  pub counts : length new.counts ≤ max (length old.counts) (t.0 + 1)
  pub vars : length new.vars ≤ max (length old.vars) (vars_for o)
  pub count_room : new.count_room ≤ max old.count_room (2 * (t.0 + 1))
  pub var_room : new.var_room ≤ max old.var_room (2 * vars_for o)
  pub lasts : LastsFor o old.vars new.vars

-- the operation is no access
abbrev pub IsOther : Op → Type 0
IsOther (Load x) = ⊥
IsOther (Store x) = ⊥
IsOther _ = Unit {0}

-- each list of a variable has the memory that it had
abbrev pub SameLasts : List VariableAccesses → List VariableAccesses → Type 0
SameLasts old new = (y : ℕ) (k : AccessKind)
    → (of_kind k (accesses_at new y)).reserved ≡ (of_kind k (accesses_at old y)).reserved

-- each table is as long as it was and has the memory that it had; and no variable changes but by an access
pub record SameMemory (old new : AccessTables) (o : Op) : Type 0 where
  pub counts : length new.counts ≡ length old.counts
  pub vars : length new.vars ≡ length old.vars
  pub count_room : new.count_room ≡ old.count_room
  pub var_room : new.var_room ≡ old.var_room
  pub lasts : SameLasts old.vars new.vars
  pub others : IsOther o → new.vars ≡ old.vars

-- before any event
abbrev pub no_tables : Limits → AccessTables
no_tables m = record { limits = m; counts = []; vars = []; count_room = 0; var_room = 0 }

-- what the fields keep: each thread's number is below the limit
pub record AreTables (width threads : ℕ) (vars : List VariableAccesses) : Type 0 where
  pub few : threads ≤ width
  pub narrow : (x : ℕ) (m : AccessKind) → AreNarrow width (kept m (accesses_at vars x))
