-- What the clocks mean, and what an event makes of it.
use Rattle.std.specs.Prelude.{ℕ}
use Rattle.event_core.specs.declared.ids.ThreadId.{ThreadId}
use Rattle.event_core.specs.declared.events.Event.{Event}
use Rattle.hb_clocks.specs.Marks.{MarkedEvent}
use Rattle.event_core.specs.Effect.{Effect, effect_of, Opens, Joins}
use Rattle.event_core.specs.Rows.{no_clock, no_rows, with_row, Rows, to_child, rows_after, clock_after}
use Rattle.event_core.specs.Rows.{depth_after}

pub record HbState : Type 0 where
  -- of each thread how many events of each thread are below what it does next, in program order
  pub po : ℕ → ℕ → ℕ
  -- the same in happens-before, and of each lock how many are below its latest outer release
  pub hb : Rows
  -- how often each thread holds each lock
  pub depth : ℕ → ℕ → ℕ

-- that of the empty log
abbrev pub empty : HbState
empty = record { po = λ _. no_clock; hb = no_rows; depth = λ _ _. 0 }

-- what the event is to the clocks
abbrev pub effect : Event → HbState → Effect
effect e s = effect_of (s.depth e.thread.0) e.op

-- program order has no edge through a lock
abbrev pub without_locks : (ℕ → ℕ → ℕ) → Rows
without_locks threads = record { thread = threads; lock = λ _. no_clock }

abbrev pub po_row : Event → HbState → ℕ → ℕ
po_row e s = clock_after e.thread (effect e s) (without_locks s.po)

abbrev pub hb_row : Event → HbState → ℕ → ℕ
hb_row e s = clock_after e.thread (effect e s) s.hb

-- the step of an event
abbrev pub after : Event → HbState → HbState
after e s = record {
  po = to_child (effect e s) (po_row e s) (with_row e.thread.0 (po_row e s) s.po);
  hb = rows_after e.thread (effect e s) (hb_row e s) s.hb;
  depth = depth_after e.thread.0 e.op s.depth;
}

-- how many joins of clocks the step takes
abbrev pub joins_of : Effect → ℕ
joins_of (Opens l) = 1
joins_of (Joins u) = 2
joins_of _ = 0

-- the mark of a thread's latest event
abbrev pub latest_mark : ThreadId → HbState → MarkedEvent
latest_mark t s = record { thread = t.0; position = s.hb.thread t.0 t.0 }
