-- What numbers that stand for a log give: in the log's words, and in numbers alone.
use Rattle.std.specs.Prelude.{ℕ, ◌≡◌, ◌<◌, ◌≤◌, List, [], ◌∷◌, ◌++◌, IsTrue, max}
use Rattle.event_core.specs.declared.ids.ThreadId.{ThreadId}
use Rattle.event_core.specs.declared.ids.LockId.{LockId}
use Rattle.event_core.specs.declared.ids.VarId.{VarId}
use Rattle.event_core.specs.declared.events.Event.{Event}
use Rattle.event_core.specs.declared.events.AccessKind.{AccessKind}
use Rattle.event_core.specs.declared.bounds.Limits.{Limits}
use Rattle.event_core.specs.Log.{Of}
use Rattle.event_core.specs.Order.{Po}
use Rattle.event_core.specs.Wcp.{Strict, Below}
use Rattle.event_core.specs.Refusal.{WellFormed}
use Rattle.event_core.specs.Count.{Counts}
use Rattle.event_core.specs.Effect.{Effect, Closes}
use Rattle.event_core.specs.Rows.{with_row}
use Rattle.event_core.specs.Closed.{Closed, is_counted, Has, number_counted}
use Rattle.wcp_laws.specs.State.{State}
use Rattle.wcp_laws.specs.Step.{effect, hb_row}
use Rattle.wcp_laws.specs.Standing.{StandsFor}

-- a closing release's clock is at or above those of the closed sections of its lock
abbrev pub ReleasesAbove : Type 0
ReleasesAbove = (limits : Limits) (log : List Event) (e : Event) (s : State) (l : LockId)
    → WellFormed limits (log ++ e ∷ []) → StandsFor log s → effect e s ≡ Closes l
    → ((q : Closed) (u : ThreadId) → Has q (s.closed l.0) → q.release u.0 ≤ hb_row e s u.0)
    × ((x : VarId) (k : AccessKind) (t u : ThreadId) → s.met_clock l.0 x.0 k t.0 u.0 ≤ hb_row e s u.0)

-- of two closed sections of a lock the one whose release clock is lower is the earlier one, and a strict
-- clock that counts the later acquire counts the earlier
abbrev pub CountedEarlier : Type 0
CountedEarlier = (limits : Limits) (log : List Event) (s : State) (l : LockId) (t : ThreadId) (p q : Closed)
    → WellFormed limits log → StandsFor log s
    → Has p (s.closed l.0) → Has q (s.closed l.0) → ((u : ThreadId) → p.release u.0 ≤ q.release u.0)
    → IsTrue (is_counted (s.strict.thread t.0) q) → IsTrue (is_counted (s.strict.thread t.0) p)

-- a thread's strict clock counts what strictly precedes its latest event
abbrev pub StrictIsLatest : Type 0
StrictIsLatest = (limits : Limits) (log : List Event) (s : State) (j : ℕ) (t u : ThreadId)
    → WellFormed limits log → StandsFor log s → Of log j t → ((k : ℕ) → j < k → Of log k t → ⊥)
    → Counts log u (λ i. Strict log i j) (s.strict.thread t.0 u.0)

-- with the number of program order it counts what is below that event
abbrev pub BelowIsLatest : Type 0
BelowIsLatest = (limits : Limits) (log : List Event) (s : State) (j n : ℕ) (t u : ThreadId)
    → WellFormed limits log → StandsFor log s → Of log j t → ((k : ℕ) → j < k → Of log k t → ⊥)
    → Counts log u (λ i. Po log i j) n → Counts log u (λ i. Below log i j) (max (s.strict.thread t.0 u.0) n)

-- what is asked of the numbers at an event, with no log
pub record IsSound (e : Event) (s : State) : Type 0 where
  -- a closing release's clock is at or above the clocks that are kept of its lock
  pub above_closed : (l : LockId) (q : Closed) (u : ThreadId) → effect e s ≡ Closes l
      → Has q (s.closed l.0) → q.release u.0 ≤ hb_row e s u.0
  pub above_met : (l : LockId) (x : VarId) (k : AccessKind) (t u : ThreadId) → effect e s ≡ Closes l
      → s.met_clock l.0 x.0 k t.0 u.0 ≤ hb_row e s u.0
  -- the thread's strict clock counts, with a closed section, the earlier ones of its lock
  pub earlier : (l : LockId) (p q : Closed) → Has p (s.closed l.0) → Has q (s.closed l.0)
      → ((u : ThreadId) → p.release u.0 ≤ q.release u.0)
      → IsTrue (is_counted (s.strict.thread e.thread.0) q)
      → IsTrue (is_counted (s.strict.thread e.thread.0) p)
  -- the section that a release closes was opened: positions begin at 1
  pub opened : (l : LockId) → effect e s ≡ Closes l → 0 < s.opened e.thread.0 l.0

-- of each lock and thread, so many closed sections at most were found counted as are counted
abbrev pub CursorsStand : State → (ℕ → ℕ → ℕ) → Type 0
CursorsStand s f = (l : LockId) (t : ThreadId)
    → f l.0 t.0 ≤ number_counted (s.strict.thread t.0) (s.closed l.0)

-- a closing release finds all that its thread's strict clock counts
abbrev pub found_at : ThreadId → Effect → State → (ℕ → ℕ → ℕ) → ℕ → ℕ → ℕ
found_at t (Closes l) s f =
    with_row l.0 (with_row t.0 (number_counted (s.strict.thread t.0) (s.closed l.0)) (f l.0)) f
found_at t _ s f = f
