-- What two conflicting accesses with nothing between them are in a well-formed log, and what a witness
-- shows.
use Rattle.std.specs.Prelude.{◌≡◌, ℕ, suc, List, [], ◌∷◌, ◌++◌, Some, length, slice_get}
use Rattle.event_core.specs.declared.events.Event.{Event}
use Rattle.event_core.specs.declared.bounds.Limits.{Limits}
use Rattle.event_core.specs.declared.replies.Verdict.TheVariants.{Racy}
use Rattle.event_core.specs.Log.{Conflict}
use Rattle.event_core.specs.Order.{Hb}
use Rattle.event_core.specs.Refusal.{WellFormed, value_of}
use Rattle.event_core.specs.Verdict.{Races, IsVerdict}
use Rattle.witness.specs.Indices.{events_at}
use Rattle.witness.specs.Witness.{IsWitness}

-- happens-before does not order them, so they race, and the verdict on the later names the earlier
abbrev pub NeighborsRace : Type 0
NeighborsRace =
    (m : Limits) (log : List Event) (n : ℕ) → WellFormed m log → Conflict log n (suc n)
    → (Hb log n (suc n) → ⊥) × Races log n (suc n) × IsVerdict log (suc n) (Racy n)

-- the event with the value that it has after these: a load reads the last store
abbrev pub next_event : List Event → Event → Event
next_event before e = record {
  thread = e.thread;
  op = e.op;
  site = e.site;
  value = value_of before e.op e.value;
}

-- these events, then e and f
abbrev pub with_ends : List Event → Event → Event → List Event
with_ends before e f =
    (before ++ next_event before e ∷ []) ++ next_event (before ++ next_event before e ∷ []) f ∷ []

-- e and f have nothing between them at the end of a well-formed log, in which they race by happens-before,
-- and so by weak causal precedence, and the verdict on the last event names the one before
pub record RaceAtEnd (m : Limits) (before : List Event) (e f : Event) : Type 0 where
  pub well_formed : WellFormed m (with_ends before e f)
  pub unordered : Hb (with_ends before e f) (length before) (suc (length before)) → ⊥
  pub races : Races (with_ends before e f) (length before) (suc (length before))
  pub verdict : IsVerdict (with_ends before e f) (suc (length before)) (Racy (length before))

-- the events of a witness show the race, with either access last
abbrev pub ShowsRace : Type 0
ShowsRace =
    (m : Limits) (log : List Event) (i j : ℕ) (s : List ℕ) (e f : Event) → WellFormed m log
    → slice_get log i ≡ Some e → slice_get log j ≡ Some f → Conflict log i j → IsWitness m log i j s
    → RaceAtEnd m (events_at log s) e f × RaceAtEnd m (events_at log s) f e
