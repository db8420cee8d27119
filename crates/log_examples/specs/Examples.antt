-- Small logs, and what the definitions say of them.
--
-- Each statement is a law of its own: that the definitions order what one would expect, and nothing that one
-- would not.
use Rattle.std.specs.Prelude.{◌≡◌, ℕ, List, [], ◌∷◌, Some}
use Rattle.event_core.specs.declared.ids.ThreadId.{ThreadId}
use Rattle.event_core.specs.declared.ids.LockId.{LockId}
use Rattle.event_core.specs.declared.ids.VarId.{VarId}
use Rattle.event_core.specs.declared.events.Event.{Event}
use Rattle.event_core.specs.declared.events.Call.{Call}
use Rattle.event_core.specs.declared.events.Op.{Op}
use Rattle.event_core.specs.declared.events.Op.TheVariants.{Load, Store, Acquire, Release, Fork, Join}
use Rattle.event_core.specs.declared.bounds.Limits.{Limits}
use Rattle.event_core.specs.declared.bounds.Roots.TheVariants.{OnlyMain, Free}
use Rattle.event_core.specs.declared.replies.Verdict.TheVariants.{Clear, Racy}
use Rattle.event_core.specs.declared.replies.Outcome.{Outcome}
use Rattle.event_core.specs.declared.replies.Outcome.TheVariants.{Accepted, Refused}
use Rattle.event_core.specs.declared.replies.Refusal.TheVariants.{ThreadRange, NotStarted, TargetRange, Held}
use Rattle.event_core.specs.declared.replies.Refusal.TheVariants.{NotHolder, SelfTarget, LogFull}
use Rattle.event_core.specs.Log.{Inside, Section}
use Rattle.event_core.specs.Order.{Po, Hb}
use Rattle.event_core.specs.Wcp.{Strict}
use Rattle.event_core.specs.Refusal.{refusal}
use Rattle.event_core.specs.Verdict.{IsVerdict, IsRun}

-- three threads, the second one a child of the first
abbrev pub main : ThreadId
main = record { 0 = 0 }

abbrev pub child : ThreadId
child = record { 0 = 1 }

abbrev pub other : ThreadId
other = record { 0 = 2 }

-- four locks
abbrev pub l : LockId
l = record { 0 = 0 }

abbrev pub k : LockId
k = record { 0 = 1 }

abbrev pub m : LockId
m = record { 0 = 2 }

abbrev pub n : LockId
n = record { 0 = 3 }

-- three variables
abbrev pub x : VarId
x = record { 0 = 0 }

abbrev pub y : VarId
y = record { 0 = 1 }

abbrev pub z : VarId
z = record { 0 = 2 }

-- an event with value 0 and one place for all
abbrev pub event : ThreadId → Op → Event
event t o = record { thread = t; op = o; site = record { 0 = 0 }; value = 0 }

-- the call for it
abbrev pub call : ThreadId → Op → Call
call t o = record { thread = t; op = o; site = record { 0 = 0 }; arg = 0 }

-- the reply to an accepted call that meets no race
abbrev pub clear : ℕ → Outcome
clear i = Accepted (record { index = i; value = 0; verdict = Clear })

-- two sections with stores of one variable, the second one still open
abbrev pub two_sections : List Event
two_sections =
    event main (Fork child)
    ∷ event main (Acquire l)
    ∷ event main (Store x)
    ∷ event main (Release l)
    ∷ event child (Acquire l)
    ∷ event child (Store x)
    ∷ []

-- a store in a section is ordered before the conflicting store of a later section on its lock, by rule (a)
abbrev pub ConflictingSectionsAreOrdered : Type 0
ConflictingSectionsAreOrdered =
    Strict two_sections 3 5 × Strict two_sections 2 5 × IsVerdict two_sections 5 Clear

-- a store before a section, and a load after a later section on its lock that has no access
abbrev pub empty_section : List Event
empty_section =
    event main (Fork child)
    ∷ event main (Store y)
    ∷ event main (Acquire l)
    ∷ event main (Store x)
    ∷ event main (Release l)
    ∷ event child (Acquire l)
    ∷ event child (Release l)
    ∷ event child (Load y)
    ∷ []

-- happens-before orders the two, weak causal precedence does not, and so the load is racy
abbrev pub HappensBeforeIsNotEnough : Type 0
HappensBeforeIsNotEnough =
    Hb empty_section 1 7 × (Strict empty_section 1 7 → ⊥) × (Po empty_section 1 7 → ⊥)
    × IsVerdict empty_section 7 (Racy 1)

-- the same with a load of the variable in the later section
abbrev pub loading_section : List Event
loading_section =
    event main (Fork child)
    ∷ event main (Store y)
    ∷ event main (Acquire l)
    ∷ event main (Store x)
    ∷ event main (Release l)
    ∷ event child (Acquire l)
    ∷ event child (Load x)
    ∷ event child (Release l)
    ∷ event child (Load y)
    ∷ []

-- then what comes before the first section is ordered before what comes after the load, by rule (c)
abbrev pub OrderPassesThroughSections : Type 0
OrderPassesThroughSections =
    Strict loading_section 4 6 × Strict loading_section 1 8 × IsVerdict loading_section 6 Clear
    × IsVerdict loading_section 8 Clear

-- the two loads in the other order, both in the later section
abbrev pub early_load : List Event
early_load =
    event main (Fork child)
    ∷ event main (Store y)
    ∷ event main (Acquire l)
    ∷ event main (Store x)
    ∷ event main (Release l)
    ∷ event child (Acquire l)
    ∷ event child (Load y)
    ∷ event child (Load x)
    ∷ event child (Release l)
    ∷ []

-- the order of rule (a) begins at the conflicting access: the load before it in the section is racy
abbrev pub OrderBeginsAtTheAccess : Type 0
OrderBeginsAtTheAccess =
    Strict early_load 4 7 × (Strict early_load 1 6 → ⊥) × IsVerdict early_load 6 (Racy 1)
    × IsVerdict early_load 7 Clear

-- two nested sections by the main thread, and then both locks by the child, one after the other
abbrev pub sections_in_turn : List Event
sections_in_turn =
    event main (Fork child)
    ∷ event main (Acquire l)
    ∷ event main (Acquire k)
    ∷ event main (Store x)
    ∷ event main (Release k)
    ∷ event main (Store y)
    ∷ event main (Release l)
    ∷ event child (Acquire k)
    ∷ event child (Load x)
    ∷ event child (Release k)
    ∷ event child (Acquire l)
    ∷ event child (Release l)
    ∷ event child (Load y)
    ∷ []

-- the sections on l have no conflict, but an event of the first strictly precedes one of the second: so the
-- first release of l strictly precedes the second, by rule (b), and the store of y the load
abbrev pub RuleBOrdersReleases : Type 0
RuleBOrdersReleases =
    Strict sections_in_turn 4 8 × Strict sections_in_turn 1 11 × Strict sections_in_turn 6 11
    × Strict sections_in_turn 5 12 × IsVerdict sections_in_turn 12 Clear

-- two sections on l by the main thread, with a section on m that conflicts with one by the child between
-- them, and a store by the other thread before the first one ends
abbrev pub sections_of_one_thread : List Event
sections_of_one_thread =
    event main (Fork child)
    ∷ event main (Fork other)
    ∷ event other (Store z)
    ∷ event other (Acquire n)
    ∷ event other (Release n)
    ∷ event main (Acquire l)
    ∷ event main (Acquire m)
    ∷ event main (Store x)
    ∷ event main (Release m)
    ∷ event main (Acquire n)
    ∷ event main (Release n)
    ∷ event main (Release l)
    ∷ event child (Acquire m)
    ∷ event child (Load x)
    ∷ event child (Release m)
    ∷ event child (Acquire k)
    ∷ event child (Release k)
    ∷ event main (Acquire k)
    ∷ event main (Release k)
    ∷ event main (Acquire l)
    ∷ event main (Release l)
    ∷ event main (Load z)
    ∷ []

-- rule (b) orders releases of one thread too: an event of the first section strictly precedes one of the
-- second, by way of the child
abbrev pub RuleBWithinOneThread : Type 0
RuleBWithinOneThread =
    Strict sections_of_one_thread 8 13 × Strict sections_of_one_thread 5 19
    × Strict sections_of_one_thread 11 20
    × Strict sections_of_one_thread 2 21 × IsVerdict sections_of_one_thread 21 Clear

-- locks released in the order in which they were acquired, with a store after the first release
abbrev pub overlapping_sections : List Event
overlapping_sections =
    event main (Fork child)
    ∷ event main (Acquire l)
    ∷ event main (Acquire k)
    ∷ event main (Release l)
    ∷ event main (Store x)
    ∷ event main (Release k)
    ∷ event child (Acquire l)
    ∷ event child (Store x)
    ∷ []

-- the section on l ended before the store: a release ends the section of its own lock, and not the newest one
abbrev pub ReleaseEndsItsOwnSection : Type 0
ReleaseEndsItsOwnSection =
    Section overlapping_sections main l 1 3 × Section overlapping_sections main k 2 5
    × IsVerdict overlapping_sections 7 (Racy 4)

-- a lock acquired twice and released once, a store, and then the outer release
abbrev pub inner_release : List Event
inner_release =
    event main (Fork child)
    ∷ event main (Acquire l)
    ∷ event main (Acquire l)
    ∷ event main (Release l)
    ∷ event main (Store x)
    ∷ event main (Release l)
    ∷ event child (Acquire l)
    ∷ event child (Store x)
    ∷ []

-- an inner release ends no section: the store after it is still inside, and so it is ordered
abbrev pub InnerReleaseEndsNoSection : Type 0
InnerReleaseEndsNoSection =
    Inside inner_release main l 1 4 × Section inner_release main l 1 5 × Strict inner_release 5 7
    × IsVerdict inner_release 7 Clear

-- the fork of a thread that does nothing, and its join by another thread
abbrev pub empty_child : List Event
empty_child =
    event main (Store x)
    ∷ event main (Fork child)
    ∷ event other (Join child)
    ∷ event other (Store x)
    ∷ []

-- the fork is below the join, though the thread has no event between
abbrev pub ForkIsBelowJoin : Type 0
ForkIsBelowJoin = Po empty_child 1 2 × Po empty_child 0 3 × IsVerdict empty_child 3 Clear

-- two children and their parent store to one variable, with no order between them
abbrev pub three_stores : List Event
three_stores =
    event main (Fork child)
    ∷ event main (Fork other)
    ∷ event child (Store x)
    ∷ event other (Store x)
    ∷ event main (Store x)
    ∷ []

-- of the stores that race with one, the latest is reported
abbrev pub LatestRaceIsTold : Type 0
LatestRaceIsTold = IsVerdict three_stores 3 (Racy 2) × IsVerdict three_stores 4 (Racy 3)

-- limits: a thread, a lock and a variable
abbrev pub limits : ℕ → Limits
limits events = record { threads = 1; locks = 1; vars = 1; events = events; roots = OnlyMain }

-- an inner release leaves the lock to its holder
abbrev pub InnerReleaseKeepsTheLock : Type 0
InnerReleaseKeepsTheLock =
    refusal (record { threads = 2; locks = 1; vars = 1; events = 9; roots = Free })
    (event main (Fork child) ∷ event main (Acquire l) ∷ event main (Acquire l) ∷ event main (Release l) ∷ [])
    (call child (Acquire l))
    ≡ Some (Held main)

-- three slots: while the lock is held, the last one is kept for its release
abbrev pub ASlotIsKeptForTheRelease : Type 0
ASlotIsKeptForTheRelease =
    IsRun (limits 3) []
    (call main (Load x)
    ∷ call main (Acquire l)
    ∷ call main (Load x)
    ∷ call main (Release l)
    ∷ call main (Load x)
    ∷ call main (Release l)
    ∷ [])
    (clear 0
    ∷ clear 1
    ∷ Refused LogFull
    ∷ clear 2
    ∷ Refused LogFull
    ∷ Refused NotHolder
    ∷ [])
    (event main (Load x) ∷ event main (Acquire l) ∷ event main (Release l) ∷ [])

-- four slots: each hold of the lock keeps one, also the inner ones
abbrev pub EachHoldKeepsASlot : Type 0
EachHoldKeepsASlot =
    IsRun (limits 4) []
    (call main (Acquire l)
    ∷ call main (Acquire l)
    ∷ call main (Load x)
    ∷ call main (Acquire l)
    ∷ call main (Release l)
    ∷ call main (Load x)
    ∷ call main (Release l)
    ∷ call main (Release l)
    ∷ [])
    (clear 0
    ∷ clear 1
    ∷ Refused LogFull
    ∷ Refused LogFull
    ∷ clear 2
    ∷ Refused LogFull
    ∷ clear 3
    ∷ Refused NotHolder
    ∷ [])
    (event main (Acquire l)
    ∷ event main (Acquire l)
    ∷ event main (Release l)
    ∷ event main (Release l)
    ∷ [])

-- one slot, used up at once: each further call is answered the first reason that speaks against it
abbrev pub TheFirstReasonIsTold : Type 0
TheFirstReasonIsTold =
    IsRun (record { threads = 2; locks = 1; vars = 1; events = 1; roots = OnlyMain }) []
    (call main (Load x)
    ∷ call main (Fork main)
    ∷ call main (Fork child)
    ∷ call main (Acquire k)
    ∷ call main (Acquire l)
    ∷ call child (Load x)
    ∷ call other (Load x)
    ∷ [])
    (clear 0
    ∷ Refused SelfTarget
    ∷ Refused LogFull
    ∷ Refused TargetRange
    ∷ Refused LogFull
    ∷ Refused NotStarted
    ∷ Refused ThreadRange
    ∷ [])
    (event main (Load x) ∷ [])
