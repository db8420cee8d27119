-- Witnesses: orders of a log's events that the same threads could have made, at whose end two accesses meet.
--
-- A witness for a race of i and j in a log is a list s of other events of that log, by index, each at most
-- once, such that
-- - program order: whatever precedes an event of s, or i, or j, in program order (threads, forks, joins) is
--   in s, and before it;
-- - legal: the events of s, one after another, are a well-formed log;
-- - reads: each load in s has in s the same last store before it that it has in the log, or none in both.
-- So the threads that made the log can make s as well: each has had the same values. After s, i and j are the
-- next events of their threads, and nothing is between them.
use Rattle.std.specs.Prelude.{◌≡◌, ℕ, ◌<◌, List, Some, length, slice_get}
use Rattle.std.proofs.Math.ListN.{take}
use Rattle.event_core.specs.declared.ids.ThreadId.{ThreadId}
use Rattle.event_core.specs.declared.ids.VarId.{VarId}
use Rattle.event_core.specs.declared.events.Event.{Event}
use Rattle.event_core.specs.declared.events.Op.TheVariants.{Load}
use Rattle.event_core.specs.declared.bounds.Limits.{Limits}
use Rattle.event_core.specs.Log.{Does}
use Rattle.event_core.specs.Order.{Po}
use Rattle.event_core.specs.Closed.{Has}
use Rattle.event_core.specs.Refusal.{WellFormed}
use Rattle.witness.specs.Indices.{below, events_at, last_store}

-- h is another event, and before k in program order
pub record Precedes (log : List Event) (h k : ℕ) : Type 0 where
  pub ordered : Po log h k
  pub other : h ≡ k → ⊥

-- k is an event of the log, not among these, and whatever precedes it in program order is among them
pub record IsNext (log : List Event) (before : List ℕ) (k : ℕ) : Type 0 where
  pub within : k < length log
  pub other : Has k before → ⊥
  pub preceded : (h : ℕ) → Precedes log h k → Has h before

-- the load k has after these the last store that it has in the log, or none in both
abbrev pub ReadsAlike : List Event → List ℕ → ℕ → Type 0
ReadsAlike log before k =
    (u : ThreadId) (x : VarId) → Does log k u (Load x) → last_store log x before ≡ last_store log x (below k)

-- s is a witness for a race of i and j in the log
pub record IsWitness (m : Limits) (log : List Event) (i j : ℕ) (s : List ℕ) : Type 0 where
  -- other events of the log, each at most once; program order
  pub program_order : (n k : ℕ) → slice_get s n ≡ Some k → IsNext log (take n s) k
  pub first : IsNext log s i
  pub second : IsNext log s j
  pub legal : WellFormed m (events_at log s)
  pub reads : (n k : ℕ) → slice_get s n ≡ Some k → ReadsAlike log (take n s) k
