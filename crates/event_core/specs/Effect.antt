-- What an event is to the clocks: accesses by their kind, and acquires and releases where they are outer.
use Rattle.std.specs.Prelude.{ℕ, cond, nat_eq}
use Rattle.event_core.specs.declared.ids.ThreadId.{ThreadId}
use Rattle.event_core.specs.declared.ids.LockId.{LockId}
use Rattle.event_core.specs.declared.ids.VarId.{VarId}
use Rattle.event_core.specs.declared.events.AccessKind.{AccessKind}
use Rattle.event_core.specs.declared.events.AccessKind.TheVariants.{Read, Write}
use Rattle.event_core.specs.declared.events.Op.{Op}
use Rattle.event_core.specs.declared.events.Op.TheVariants.{Load, Store, Acquire, Release, Fork, Join}

-- the operation of such an access
abbrev pub access_of : VarId → AccessKind → Op
access_of x Read = Load x
access_of x Write = Store x

-- what an event is to the clocks; inner acquires and releases are nothing to them
pub data Effect : Type 0 where
  Accesses : VarId → AccessKind → Effect
  Opens : LockId → Effect
  Closes : LockId → Effect
  Forks : ThreadId → Effect
  Joins : ThreadId → Effect
  Inner : Effect

-- what the operation is, by the depth to which its thread holds each lock
abbrev pub effect_of : (ℕ → ℕ) → Op → Effect
effect_of d (Load x) = Accesses x Read
effect_of d (Store x) = Accesses x Write
effect_of d (Acquire l) = cond (nat_eq (d l.0) 0) (Opens l) Inner
effect_of d (Release l) = cond (nat_eq (d l.0) 1) (Closes l) Inner
effect_of d (Fork u) = Forks u
effect_of d (Join u) = Joins u
