-- How many closed sections all releases of a log find counted.
--
-- A closing release looks, from where its thread's last one on the lock ended, for the latest closed section
-- that its strict clock counts. So all releases together find no section twice for one thread.
use Rattle.std.specs.Prelude.{ℕ, zero, suc, ◌≡◌, ◌+◌, ◌<◌, ◌≤◌, cond, nat_lt, List, length}
use Rattle.event_core.specs.declared.ids.ThreadId.{ThreadId}
use Rattle.event_core.specs.declared.ids.LockId.{LockId}
use Rattle.event_core.specs.declared.events.Event.{Event}
use Rattle.event_core.specs.Count.{events_of}
use Rattle.event_core.specs.Closed.{Closed}
use Rattle.wcp_laws.specs.State.{State}
use Rattle.wcp_laws.specs.Conditions.{CursorsStand}

-- f 0 + f 1 + .. + f (n - 1)
abbrev pub sum_below : (ℕ → ℕ) → ℕ → ℕ
sum_below f zero = 0
sum_below f (suc n) = sum_below f n + f n

-- how many closed sections were found counted, over all locks and threads below these numbers
abbrev pub total_found : ℕ → ℕ → (ℕ → ℕ → ℕ) → ℕ
total_found locks threads f = sum_below (λ l. sum_below (f l) threads) locks

-- how many closed sections the locks below this number have
abbrev pub total_closed : ℕ → (ℕ → List Closed) → ℕ
total_closed locks c = sum_below (λ l. length (c l)) locks

-- 1 where the thread has an event in the log, else 0
abbrev pub has_events : List Event → ℕ → ℕ
has_events log t = cond (nat_lt 0 (events_of log (record { 0 = t }))) 1 0

-- how many of the threads below this number have an event in the log
abbrev pub threads_in : ℕ → List Event → ℕ
threads_in threads log = sum_below (has_events log) threads

-- what was found fits the log
pub record FoundFits (log : List Event) (s : State) (f : ℕ → ℕ → ℕ) : Type 0 where
  pub counted : CursorsStand s f
  -- a thread with no event has found nothing
  pub own : (l : LockId) (t : ThreadId) → events_of log t ≡ 0 → f l.0 t.0 ≡ 0
  -- a section is closed by an event of its own
  pub few : (locks : ℕ) → total_closed locks s.closed ≤ length log
  -- and the log's first event closes none
  pub fewer : (locks : ℕ) → 0 < length log → total_closed locks s.closed < length log
