-- The releases that rule (a) of weak causal precedence pairs with an access, by the sections on one lock.
use Rattle.std.specs.Prelude.{ℕ, ◌≡◌, ◌≤◌, List, [], ◌∷◌, ◌++◌, length}
use Rattle.event_core.specs.declared.ids.ThreadId.{ThreadId}
use Rattle.event_core.specs.declared.ids.LockId.{LockId}
use Rattle.event_core.specs.declared.events.Event.{Event}
use Rattle.event_core.specs.Log.{Section}
use Rattle.event_core.specs.Order.{Hb}
use Rattle.event_core.specs.Wcp.{Meets}
use Rattle.event_core.specs.Rows.{no_clock, join, Counted}
use Rattle.event_core.specs.Closed.{Has, number_of}

-- rule (a) pairs the release of a section on the lock with the event, once that has been added to the log
pub record Pairs (log : List Event) (e : Event) (l : LockId) (release : ℕ) : Type 0 where
  pub meets : Meets (log ++ e ∷ []) release (length log)
  pub lock : meets.lock ≡ l

-- the numbers are of sections on the lock whose releases the rule pairs with the event, and no such section
-- is newer than all of them
pub record AreSources (log : List Event) (e : Event) (l : LockId) (numbers : List ℕ) : Type 0 where
  pub paired : (n : ℕ) → Has n numbers → (r : ℕ) × Pairs log e l r × (number_of log l r ≡ n)
  pub newest : (r : ℕ) → Pairs log e l r → (n : ℕ) × Has n numbers × (number_of log l r ≤ n)

-- the clock of each number counts what happens before the release of the section on the lock with the number
abbrev pub AreReleaseClocks : List Event → LockId → (ℕ → ℕ → ℕ) → Type 0
AreReleaseClocks log l clocks = (u : ThreadId) (a r : ℕ) → Section log u l a r
    → Counted log (λ i. Hb log i r) (clocks (number_of log l r))

-- the clocks of the numbers together
abbrev pub joined : (ℕ → ℕ → ℕ) → List ℕ → ℕ → ℕ
joined clocks [] = no_clock
joined clocks (n ∷ ns) = join (clocks n) (joined clocks ns)

-- i happens before a release that the rule pairs with the event
abbrev pub IsBelowPaired : List Event → Event → LockId → ℕ → Type 0
IsBelowPaired log e l i = (r : ℕ) × Pairs log e l r × Hb log i r
