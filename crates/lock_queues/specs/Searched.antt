-- What a search of a lock's closed sections asks and does.
use Rattle.std.specs.Prelude.{ℕ, ◌≡◌, ◌-◌, ◌<◌, ◌≤◌, List, length, IsTrue, Some, None}
use Rattle.event_core.specs.Closed.{Closed, Has, is_counted, below_closed}
use Rattle.event_core.specs.Rows.{with_row, no_clock}
use Rattle.hb_clocks.specs.declared.release.ReleaseClock.{ReleaseClock}
use Rattle.hb_clocks.specs.Released.{thread_of, before_of, clock_of}
use Rattle.lock_queues.specs.Sections.{closed_at, latest_counted}
use Rattle.lock_queues.specs.Queues.{AllQueues, closed_of, opened_of, found_of, is_ready}

-- of two sections the one with the lower release clock is counted where the other is
abbrev pub CoversEarlier : (ℕ → ℕ) → List Closed → Type 0
CoversEarlier c qs =
    (p q : Closed) → Has p qs → Has q qs → ((u : ℕ) → p.release u ≤ q.release u)
    → IsTrue (is_counted c q) → IsTrue (is_counted c p)

-- the clock is at or above the release clock of each section
abbrev pub IsAboveAll : (ℕ → ℕ) → List Closed → Type 0
IsAboveAll c qs = (q : Closed) (u : ℕ) → Has q qs → q.release u ≤ c u

-- what is answered of a closed section: the clock of its release, with numbers of no more threads than there
-- are
pub record IsSection (r : ReleaseClock) (width : ℕ) (q : Closed) : Type 0 where
  pub thread : (thread_of r).0 ≡ q.thread
  pub release : clock_of r ≡ q.release
  pub within : length (before_of r) ≤ width

-- the thread has found so many of the lock's sections counted, and nothing else has changed
pub record FindsCounted (old new : AllQueues) (thread lock number : ℕ) : Type 0 where
  pub found : found_of new ≡ with_row lock (with_row thread number (found_of old lock)) (found_of old)
  pub closed : closed_of new ≡ closed_of old
  pub opened : opened_of new ≡ opened_of old
  pub ready : is_ready new ≡ is_ready old
  pub limits : new.limits ≡ old.limits

-- where some are counted, the latest is the last of so many, and its release clock is the greatest
pub record IsLatestBefore (c : ℕ → ℕ) (qs : List Closed) (number : ℕ) : Type 0 where
  pub none_latest : number ≡ 0 → latest_counted c qs ≡ None
  pub none_below : number ≡ 0 → below_closed c qs ≡ no_clock
  pub latest : 0 < number → latest_counted c qs ≡ Some (closed_at qs (number - 1))
  pub below : 0 < number → below_closed c qs ≡ (closed_at qs (number - 1)).release
