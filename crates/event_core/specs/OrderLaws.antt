-- The laws of program order and happens-before, over every log or every well-formed log.
use Rattle.std.specs.Prelude.{◌≡◌, ℕ, ◌<◌, ◌≤◌, ◌⊎◌, List}
use Rattle.event_core.specs.declared.ids.ThreadId.{ThreadId}
use Rattle.event_core.specs.declared.ids.LockId.{LockId}
use Rattle.event_core.specs.declared.events.Event.{Event}
use Rattle.event_core.specs.declared.bounds.Limits.{Limits}
use Rattle.event_core.specs.Log.{Section}
use Rattle.event_core.specs.Order.{Po, Hb}
use Rattle.event_core.specs.Recurrence.{Near}
use Rattle.event_core.specs.Refusal.{WellFormed}

-- program order goes forward in the log
abbrev pub PoGoesForward : Type 0
PoGoesForward = (log : List Event) (i j : ℕ) → Po log i j → i ≤ j

-- happens-before goes forward in the log
abbrev pub HbGoesForward : Type 0
HbGoesForward = (log : List Event) (i j : ℕ) → Hb log i j → i ≤ j

-- program order is reflexive and transitive
abbrev pub PoIsOrder : Type 0
PoIsOrder = (log : List Event) (i g j : ℕ) → Po log i i × (Po log i g → Po log g j → Po log i j)

-- happens-before is reflexive and transitive
abbrev pub HbIsOrder : Type 0
HbIsOrder = (log : List Event) (i g j : ℕ) → Hb log i i × (Hb log i g → Hb log g j → Hb log i j)

-- of two sections on one lock, the release of the one that ends first is below the acquire of the other
abbrev pub SectionsAreOrdered : Type 0
SectionsAreOrdered =
    (m : Limits) (log : List Event) (u v : ThreadId) (l : LockId) (a r b s : ℕ) → WellFormed m log
    → Section log u l a r → Section log v l b s → r < s → Hb log r b

-- and so it is below the release of the other
abbrev pub ReleasesAreOrdered : Type 0
ReleasesAreOrdered =
    (m : Limits) (log : List Event) (u v : ThreadId) (l : LockId) (a r b s : ℕ) → WellFormed m log
    → Section log u l a r → Section log v l b s → r < s → Hb log r s

-- a section whose acquire is below the end of another on its lock ends below it
abbrev pub EndsBelow : Type 0
EndsBelow =
    (m : Limits) (log : List Event) (u v : ThreadId) (l : LockId) (a r b s : ℕ) → WellFormed m log
    → Section log u l a r → Section log v l b s → Hb log a s → Hb log r s

-- each event below j, but j itself, is below one of the events just below j
abbrev pub BelowNear : Type 0
BelowNear =
    (m : Limits) (log : List Event) (i j : ℕ) → WellFormed m log
    → Hb log i j → (i ≡ j) ⊎ ((n : ℕ) × Near log n j × Hb log i n)
