-- What the tables mean of a log: of each thread its number of events, and of each variable accesses that are
-- enough for every verdict to come.
use Rattle.std.specs.Prelude.{ℕ, ◌≡◌, ◌+◌, ◌<◌, ◌≤◌, ◌⊎◌, List}
use Rattle.std.proofs.Math.ListN.{take}
use Rattle.event_core.specs.declared.ids.ThreadId.{ThreadId}
use Rattle.event_core.specs.declared.ids.VarId.{VarId}
use Rattle.event_core.specs.declared.events.Event.{Event}
use Rattle.event_core.specs.declared.events.AccessKind.{AccessKind}
use Rattle.event_core.specs.declared.events.AccessKind.TheVariants.{Write}
use Rattle.event_core.specs.Log.{Does}
use Rattle.event_core.specs.Count.{events_of}
use Rattle.event_core.specs.Effect.{access_of}
use Rattle.event_core.specs.Closed.{Has}
use Rattle.event_core.specs.Refusal.{WellFormed}
use Rattle.event_core.specs.Wcp.{Below}
use Rattle.access_check.specs.declared.last_accesses.LastAccess.{LastAccess}
use Rattle.access_check.specs.declared.variable_accesses.VariableAccesses.{VariableAccesses}
use Rattle.access_check.specs.VariableAccesses.{kept}
use Rattle.access_check.specs.Tables.{AccessTables, count_at, accesses_at}

-- it is such an access of the log, and its position is that among its thread's events, from 1
pub record IsOfLog (log : List Event) (x : VarId) (k : AccessKind) (p : LastAccess) : Type 0 where
  pub does : Does log p.access.index p.thread (access_of x k)
  pub position : p.access.position ≡ events_of (take p.access.index log) p.thread + 1

-- an access of the thread at or after j is kept
pub record HasLast (ps : List LastAccess) (u : ThreadId) (j : ℕ) : Type 0 where
  pub last : LastAccess
  pub member : Has last ps
  pub thread : last.thread ≡ u
  pub from : j ≤ last.access.index

-- a store after j is kept, to which j is not unordered: where j races with a later event, so does the store
pub record IsCovered (log : List Event) (stores : List LastAccess) (j : ℕ) : Type 0 where
  pub store : LastAccess
  pub member : Has store stores
  pub after : j < store.access.index
  pub ordered : (Below log j store.access.index → ⊥) → ⊥

-- what is kept are accesses of the log, and of each access of the log a later one of its thread and kind is
-- kept, or a store that covers it
pub record VariableStands (log : List Event) (x : VarId) (ts : VariableAccesses) : Type 0 where
  pub sound : (k : AccessKind) (p : LastAccess) → Has p (kept k ts) → IsOfLog log x k p
  pub complete : (j : ℕ) (u : ThreadId) (k : AccessKind) → Does log j u (access_of x k)
      → HasLast (kept k ts) u j ⊎ IsCovered log (kept Write ts) j

-- the tables stand for the log
pub record StandsFor (log : List Event) (t : AccessTables) : Type 0 where
  pub well_formed : WellFormed t.limits log
  pub counts : (u : ThreadId) → count_at t.counts u.0 ≡ events_of log u
  pub accesses : (x : VarId) → VariableStands log x (accesses_at t.vars x.0)
