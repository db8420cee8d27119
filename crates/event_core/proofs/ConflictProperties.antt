-- Conflicting operations are accesses, and a conflict is one of either with the other.
use Rattle.std.proofs.Common.{◌≡◌, ℕ, List, sym}
use Rattle.event_core.proofs.Words.{VarId, Event, Op, Load, Store, AccessKind, Read, Write}
use Rattle.event_core.specs.Log.{OpsConflict, Conflict}
use Rattle.event_core.specs.Effect.{access_of}

-- the conflict of two operations is symmetric
pub flipped_ops : (o p : Op) → OpsConflict o p → OpsConflict p o
flipped_ops (Load x) (Store y) c = sym c
flipped_ops (Store x) (Load y) c = sym c
flipped_ops (Store x) (Store y) c = sym c
flipped_ops _ _ c = absurd c

-- the operation is a load or a store
abbrev pub IsAccess : Op → Type 0
IsAccess (Load x) = Unit {0}
IsAccess (Store x) = Unit {0}
IsAccess _ = ⊥

-- an access to a variable is one
pub access_is : (x : VarId) (k : AccessKind) → IsAccess (access_of x k)
access_is x Read = tt
access_is x Write = tt

-- the second of two conflicting operations is an access
pub access_second : (o p : Op) → OpsConflict o p → IsAccess p
access_second (Load x) (Store y) c = tt
access_second (Store x) (Load y) c = tt
access_second (Store x) (Store y) c = tt
access_second _ _ c = absurd c

-- the first of two conflicting operations is an access
pub access_first : (o p : Op) → OpsConflict o p → IsAccess o
access_first o p c = access_second p o (flipped_ops o p c)

-- the conflict of two events is symmetric
pub flipped : {log : List Event} {i j : ℕ} → Conflict log i j → Conflict log j i
flipped c = record {
  first = c.second;
  second = c.first;
  by = c.other;
  other = c.by;
  does_first = c.does_second;
  does_second = c.does_first;
  ops = flipped_ops c.first c.second c.ops;
  threads = λ e. c.threads (sym e);
}
