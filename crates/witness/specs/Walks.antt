-- What is kept of a log, and of a list of its events that is walked.
use Rattle.std.specs.Prelude.{◌≡◌, ℕ, List, Option, Some, None, slice_index, slice_index_or}
use Rattle.std.proofs.Math.ListN.{take}
use Rattle.event_core.specs.declared.ids.ThreadId.{ThreadId}
use Rattle.event_core.specs.declared.ids.VarId.{VarId}
use Rattle.event_core.specs.declared.events.Event.{Event}
use Rattle.event_core.specs.declared.events.Op.TheVariants.{Load, Fork}
use Rattle.event_core.specs.Log.{Does, Of}
use Rattle.event_core.specs.Order.{ProgramEdge}
use Rattle.event_core.specs.Count.{events_of}
use Rattle.event_core.specs.Rows.{Counted}
use Rattle.event_core.specs.Closed.{Has}
use Rattle.witness.specs.declared.tables.Tables.{Tables}
use Rattle.witness.specs.Indices.{below, last_store}
use Rattle.witness.specs.Links.{back_at}
use Rattle.witness.specs.Witness.{IsNext}

-- of each event, how many events of its thread are before it
abbrev pub ArePlaces : List Event → List ℕ → Type 0
ArePlaces log places =
    (k : ℕ) (u : ThreadId) → Of log k u → slice_index places k ≡ events_of (take k log) u

-- how many events each thread has
abbrev pub AreTotals : List Event → List ℕ → Type 0
AreTotals log totals = (u : ThreadId) → slice_index totals u.0 ≡ events_of log u

-- each load leads back to the last store to its variable before it
abbrev pub AreReads : List Event → List ℕ → Type 0
AreReads log links =
    (k : ℕ) (u : ThreadId) (x : VarId) → Does log k u (Load x)
    → back_at links k ≡ last_store log x (below k)

-- of each thread, its fork
abbrev pub AreForks : List Event → List (Option ℕ) → Type 0
AreForks log forks =
    (k : ℕ) (v u : ThreadId) → Does log k v (Fork u) → slice_index_or forks u.0 None ≡ Some k

-- the numbers count, of each thread, the events that are among these; and whatever precedes one of these in
-- program order is among them
pub record IsCount (log : List Event) (before : List ℕ) (counts : ℕ → ℕ) : Type 0 where
  pub counted : Counted log (λ k. Has k before) counts
  pub closed : (h k : ℕ) → ProgramEdge log h k → Has k before → Has h before

-- the fork of u, if there is one, is among these
abbrev pub HasFork : List Event → List ℕ → ThreadId → Type 0
HasFork log before u = (g : ℕ) (v : ThreadId) → Does log g v (Fork u) → Has g before

-- all events of u are among these
abbrev pub HasAll : List Event → List ℕ → ThreadId → Type 0
HasAll log before u = (h : ℕ) → Of log h u → Has h before

-- k is next after these, and the numbers have just those of its thread that are before it
pub record IsNextOf (log : List Event) (before : List ℕ) (counts : ℕ → ℕ) (k : ℕ) : Type 0 where
  pub next : IsNext log before k
  pub edges : (h : ℕ) → ProgramEdge log h k → Has h before
  pub place : (u : ThreadId) → Of log k u → counts u.0 ≡ events_of (take k log) u

-- the tables are those of the log
pub record AreTables (log : List Event) (t : Tables) : Type 0 where
  pub places : ArePlaces log t.places.items
  pub totals : AreTotals log t.totals.items
  pub reads : AreReads log t.links.items
  pub forks : AreForks log t.forks.items
