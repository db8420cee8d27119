-- Events named by their thread and their position.
use Rattle.std.specs.Prelude.{◌≡◌, ℕ, ◌+◌, ◌<◌, ◌≤◌, List, slice_index_or}
use Rattle.std.proofs.Math.ListN.{take}
use Rattle.event_core.specs.declared.ids.ThreadId.{ThreadId}
use Rattle.event_core.specs.declared.events.Event.{Event}
use Rattle.event_core.specs.Log.{Of}
use Rattle.event_core.specs.Count.{events_of}
use Rattle.hb_clocks.specs.Counts.{counts_of}

-- a thread and the position of one of its events, the first of which has position 1
pub record MarkedEvent : Type 0 where
  pub thread : ℕ
  pub position : ℕ

-- the clock covers the event: it counts it, and so all earlier ones of its thread
abbrev pub Covers : List ℕ → MarkedEvent → Type 0
Covers clock m = m.position ≤ counts_of clock m.thread

abbrev pub no_mark : MarkedEvent
no_mark = record { thread = 0; position = 0 }

abbrev pub mark_at : List MarkedEvent → ℕ → MarkedEvent
mark_at marks k = slice_index_or marks k no_mark

-- event j is the thread's latest
pub record IsLatest (log : List Event) (t : ThreadId) (j : ℕ) : Type 0 where
  pub of : Of log j t
  pub last : (k : ℕ) → j < k → Of log k t → ⊥

-- the mark is of event j of the thread
pub record Names (log : List Event) (mark : MarkedEvent) (t : ThreadId) (j : ℕ) : Type 0 where
  pub of : Of log j t
  pub thread : mark.thread ≡ t.0
  pub position : mark.position ≡ events_of (take j log) t + 1
