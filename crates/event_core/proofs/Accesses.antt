-- Accesses as operations, and which are in conflict.
use Rattle.std.proofs.Common.{◌≡◌, refl}
use Rattle.event_core.proofs.Words.{AccessKind, Read, Write, Op, Load, Store, Acquire, Release, Fork, Join}
use Rattle.event_core.proofs.Words.{LockId, ThreadId, VarId}
use Rattle.event_core.specs.Log.{OpsConflict}
use Rattle.event_core.specs.Effect.{access_of}

-- an access is no other operation, and of one variable and one kind
pub access_no_acquire : (x : VarId) (k : AccessKind) (l : LockId) → access_of x k ≡ Acquire l → ⊥
access_no_acquire x Read l e = cc
access_no_acquire x Write l e = cc

-- an access is no release
pub access_no_release : (x : VarId) (k : AccessKind) (l : LockId) → access_of x k ≡ Release l → ⊥
access_no_release x Read l e = cc
access_no_release x Write l e = cc

-- an access is no fork
pub access_no_fork : (x : VarId) (k : AccessKind) (u : ThreadId) → access_of x k ≡ Fork u → ⊥
access_no_fork x Read u e = cc
access_no_fork x Write u e = cc

-- an access is no join
pub access_no_join : (x : VarId) (k : AccessKind) (u : ThreadId) → access_of x k ≡ Join u → ⊥
access_no_join x Read u e = cc
access_no_join x Write u e = cc

-- one operation is an access to one variable, of one kind
pub access_one : (x y : VarId) (k j : AccessKind) → access_of x k ≡ access_of y j → (x ≡ y) × (k ≡ j)
access_one x y Read Read e = (cc, refl)
access_one x y Write Write e = (cc, refl)
access_one x y Read Write e = absurd cc
access_one x y Write Read e = absurd cc

-- what conflicts is an access
pub conflict_access : (p q : Op) → OpsConflict p q → (x : VarId) × (k : AccessKind) × (q ≡ access_of x k)
conflict_access (Load x) (Store y) c = (y, Write, refl)
conflict_access (Store x) (Load y) c = (y, Read, refl)
conflict_access (Store x) (Store y) c = (y, Write, refl)
conflict_access _ _ c = absurd c
