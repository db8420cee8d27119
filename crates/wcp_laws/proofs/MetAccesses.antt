-- Which closed sections of other threads an access meets.
use Rattle.std.proofs.Common.{ℕ, List, ◌⊎◌}
use mathlib.Core.Logic.{inl, inr}
use Rattle.event_core.specs.declared.events.AccessKind.{AccessKind}
use Rattle.event_core.specs.declared.events.AccessKind.TheVariants.{Read, Write}
use Rattle.event_core.specs.declared.events.Event.{Event}
use Rattle.event_core.specs.declared.ids.LockId.{LockId}
use Rattle.event_core.specs.declared.ids.ThreadId.{ThreadId}
use Rattle.event_core.specs.declared.ids.VarId.{VarId}
use Rattle.event_core.specs.Closed.{Others}
use Rattle.event_core.specs.Log.{OpsConflict}
use Rattle.event_core.specs.Effect.{access_of}

-- what is below the closed sections, under one lock, of other threads with an access in conflict
abbrev pub Met : List Event → VarId → AccessKind → ThreadId → LockId → ℕ → Type 0
Met log x Read t l i = Others log l x Write t i
Met log x Write t l i = Others log l x Read t i ⊎ Others log l x Write t i

-- what happens before the end of a section with a conflicting access is met
pub met_by : (log : List Event) (x : VarId) (k j : AccessKind) (t : ThreadId) (l : LockId) (i : ℕ)
    → OpsConflict (access_of x j) (access_of x k) → Others log l x j t i → Met log x k t l i
met_by log x Read Write t l i c q = q
met_by log x Write Read t l i c q = inl q
met_by log x Write Write t l i c q = inr q
met_by log x Read Read t l i c q = absurd c
