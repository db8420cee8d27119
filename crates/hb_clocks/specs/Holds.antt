-- Who holds each lock, after an operation.
use Rattle.std.specs.Prelude.{◌≡◌, ◌≢◌, ℕ, ◌+◌, ◌-◌, ◌<◌, Bool, false, ◌&&◌, cond, nat_eq, List}
use Rattle.std.specs.Prelude.{slice_index_or, slice_set}
use Rattle.event_core.specs.declared.events.AccessKind.TheVariants.{Read, Write}
use Rattle.event_core.specs.declared.events.Op.{Op}
use Rattle.event_core.specs.declared.events.Op.TheVariants.{Load, Store, Acquire, Release, Fork, Join}
use Rattle.event_core.specs.Effect.{Effect, Accesses, Opens, Closes, Forks, Joins, Inner}
use Rattle.hb_clocks.specs.declared.holds.Hold.{Hold}

abbrev pub no_hold : Hold
no_hold = record { holder = 0; depth = 0 }

abbrev pub hold_at : List Hold → ℕ → Hold
hold_at holds l = slice_index_or holds l no_hold

-- how often each thread holds each lock
abbrev pub depths_of : List Hold → ℕ → ℕ → ℕ
depths_of holds t l = cond (nat_eq t (hold_at holds l).holder) (hold_at holds l).depth 0

-- the hold after its thread's release, or another's
abbrev pub lowered : ℕ → Hold → Hold
lowered t h = cond (nat_eq h.holder t) (record { holder = h.holder; depth = h.depth - 1 }) h

abbrev pub holds_after : ℕ → Op → List Hold → List Hold
holds_after t (Acquire l) holds =
    slice_set holds l.0 (record { holder = t; depth = (hold_at holds l.0).depth + 1 })
holds_after t (Release l) holds = slice_set holds l.0 (lowered t (hold_at holds l.0))
holds_after t _ holds = holds

-- is it an outer acquire or release
abbrev pub is_outer : ℕ → Op → List Hold → Bool
is_outer t (Acquire l) holds = nat_eq (hold_at holds l.0).depth 0
is_outer t (Release l) holds = nat_eq (hold_at holds l.0).holder t && nat_eq (hold_at holds l.0).depth 1
is_outer t _ holds = false

-- what the operation is, by whether it is outer
abbrev pub effect_by : Op → Bool → Effect
effect_by (Load x) outer = Accesses x Read
effect_by (Store x) outer = Accesses x Write
effect_by (Acquire l) outer = cond outer (Opens l) Inner
effect_by (Release l) outer = cond outer (Closes l) Inner
effect_by (Fork u) outer = Forks u
effect_by (Join u) outer = Joins u

-- there is a hold for the lock that the operation names
abbrev pub HasHold : ℕ → Op → Type 0
HasHold n (Acquire l) = l.0 < n
HasHold n (Release l) = l.0 < n
HasHold n _ = Unit {0}

-- no other thread holds the lock
abbrev pub Alone : List Hold → ℕ → ℕ → Type 0
Alone holds t l = (u : ℕ) → u ≢ t → depths_of holds u l ≡ 0
