-- The laws of weak causal precedence and of the recurrence that computes it.
use Rattle.std.specs.Prelude.{ℕ, ◌<◌, ◌≤◌, ◌↔◌, List, ◌++◌, length, Bool, IsTrue}
use Rattle.event_core.specs.declared.ids.ThreadId.{ThreadId}
use Rattle.event_core.specs.declared.ids.LockId.{LockId}
use Rattle.event_core.specs.declared.events.Event.{Event}
use Rattle.event_core.specs.declared.bounds.Limits.{Limits}
use Rattle.event_core.specs.Log.{Of, Section, InSection}
use Rattle.event_core.specs.Order.{Po, Hb}
use Rattle.event_core.specs.Wcp.{Strict, IsClosed, Below}
use Rattle.event_core.specs.Recurrence.{Pre}
use Rattle.event_core.specs.Refusal.{WellFormed}

-- the strict relation goes forward in the log
abbrev pub StrictGoesForward : Type 0
StrictGoesForward = (log : List Event) (i j : ℕ) → Strict log i j → i < j

-- it is closed under the three rules
abbrev pub StrictIsClosed : Type 0
StrictIsClosed = (log : List Event) → IsClosed log (Strict log)

-- and each relation that is closed under them contains it
abbrev pub StrictIsLeast : (ℕ → ℕ → Type 0) → Type 0
StrictIsLeast R = (log : List Event) (i j : ℕ) → IsClosed log R → Strict log i j → R i j

-- so does each that a test decides
abbrev pub StrictIsLeastOfTests : Type 0
StrictIsLeastOfTests =
    (log : List Event) (R : ℕ → ℕ → Bool) (i j : ℕ) → IsClosed log (λ a b. IsTrue (R a b))
    → Strict log i j → IsTrue (R i j)

-- of each thread's events the first ones are below an event, in all four relations
abbrev pub FirstAreBelow : Type 0
FirstAreBelow =
    (log : List Event) (u : ThreadId) (h i j : ℕ) → Of log h u → Of log i u → h ≤ i
    → (Po log i j → Po log h j) × (Hb log i j → Hb log h j)
    × (Strict log i j → Strict log h j) × (Below log i j → Below log h j)

-- the premise of rule (b) holds exactly when the earlier section's acquire strictly precedes the later
-- release
abbrev pub PremiseOfB : Type 0
PremiseOfB =
    (m : Limits) (log : List Event) (u v : ThreadId) (l : LockId) (a r b s : ℕ) → WellFormed m log
    → Section log u l a r → Section log v l b s
    → ((e : ℕ) × (f : ℕ) × InSection log l r e × InSection log l s f × Strict log e f) ↔ Strict log a s

-- what the acquire of a section strictly precedes, that of every earlier section on the lock does too
abbrev pub EarlierSectionsToo : Type 0
EarlierSectionsToo =
    (m : Limits) (log : List Event) (u v : ThreadId) (l : LockId) (a r b s j : ℕ) → WellFormed m log
    → Section log u l a r → Section log v l b s → r < s → Strict log b j → Strict log a j

-- the recurrence gives exactly the strict relation
abbrev pub RecurrenceIsLeast : Type 0
RecurrenceIsLeast =
    (m : Limits) (log : List Event) (i j : ℕ) → WellFormed m log → Pre log i j ↔ Strict log i j

-- the relations are the same in every longer log
abbrev pub RelationsStay : Type 0
RelationsStay =
    (log more : List Event) (i j : ℕ) → j < length log
    → (Po log i j ↔ Po (log ++ more) i j) × (Hb log i j ↔ Hb (log ++ more) i j)
    × (Strict log i j ↔ Strict (log ++ more) i j)
