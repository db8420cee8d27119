-- Counted sets: a number names the first events of a thread.
--
-- Whatever is below an event holds, of each thread, its first events. So a clock, one number for each thread,
-- names such a set whole, and says nothing of how it was made. The sets of the clocks stand here too.
use Rattle.std.specs.Prelude.{ℕ, ◌<◌, ◌≤◌, ◌↔◌, ◌⊎◌, List, nat_eq}
use Rattle.std.specs.List.{count_by}
use Rattle.std.proofs.Math.ListN.{take}
use Rattle.event_core.specs.declared.ids.ThreadId.{ThreadId}
use Rattle.event_core.specs.declared.ids.LockId.{LockId}
use Rattle.event_core.specs.declared.events.Event.{Event}
use Rattle.event_core.specs.declared.events.Op.TheVariants.{Fork}
use Rattle.event_core.specs.Log.{Does, Of, OuterRelease}

-- how many events of u the log has
unfoldable pub events_of : List Event → ThreadId → ℕ
events_of log u = count_by (λ (e : Event). nat_eq e.thread.0 u.0) log

-- n counts the set at u: the events of u that are in it are the first n of u
pub record Counts (log : List Event) (u : ThreadId) (P : ℕ → Type 0) (n : ℕ) : Type 0 where
  pub within : n ≤ events_of log u
  pub first : (i : ℕ) → Of log i u → P i ↔ (events_of (take i log) u < n)

-- the set of what is R-below some event of t, or a fork of t
abbrev pub Past : List Event → (ℕ → ℕ → Type 0) → ThreadId → ℕ → Type 0
Past log R t i = (j : ℕ) × (Of log j t ⊎ ((v : ThreadId) × Does log j v (Fork t))) × R i j

-- the set of what is R-below some outer release of l
abbrev pub LockPast : List Event → (ℕ → ℕ → Type 0) → LockId → ℕ → Type 0
LockPast log R l i = (r : ℕ) × ((v : ThreadId) × OuterRelease log r v l) × R i r
