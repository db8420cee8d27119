-- The locks that a thread holds, said of the log.
use Rattle.std.specs.Prelude.{◌≡◌, ℕ, suc, ◌≤◌, List, [], ◌∷◌, Some}
use Rattle.event_core.specs.declared.ids.ThreadId.{ThreadId}
use Rattle.event_core.specs.declared.ids.LockId.{LockId}
use Rattle.event_core.specs.declared.events.Event.{Event}
use Rattle.event_core.specs.Closed.{Open, Has}
use Rattle.event_core.specs.Refusal.{holder}

-- the locks of sections that u has open since indices from n on, in the order of these
pub data InOrder (log : List Event) (u : ThreadId) : ℕ → List LockId → Type 0 where
  none : (n : ℕ) → InOrder log u n []
  more : (n a : ℕ) (l : LockId) (ls : List LockId) → n ≤ a → Open log u l a → InOrder log u (suc a) ls
      → InOrder log u n (l ∷ ls)

-- the locks whose holder is u, each once, in the order of their outer acquires
pub record AreHeld (log : List Event) (u : ThreadId) (ls : List LockId) : Type 0 where
  pub in_order : InOrder log u 0 ls
  pub all : (l : LockId) → holder log l ≡ Some u → Has l ls
