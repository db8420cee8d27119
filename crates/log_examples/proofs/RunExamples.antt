-- The small logs that calls make: their runs.
use Rattle.std.proofs.Common.{refl}
use Rattle.event_core.specs.Log.{depth}
use Rattle.event_core.specs.Refusal.{refusal, holder, last_acquirer, held_depths, lock_depth, last_value}
use Rattle.log_examples.specs.Examples.{ASlotIsKeptForTheRelease, EachHoldKeepsASlot, TheFirstReasonIsTold}
use Rattle.log_examples.proofs.RelationTests.{clear_alone}

pub slot_kept : ASlotIsKeptForTheRelease
unfolding refusal depth holder last_acquirer held_depths lock_depth last_value
slot_kept = (
  (refl, refl, refl, clear_alone _ 0 refl),
  (
    (refl, refl, refl, clear_alone _ 1 refl),
    (refl, ((refl, refl, refl, clear_alone _ 2 refl), (refl, (refl, refl)))),
  ),
)

pub each_kept : EachHoldKeepsASlot
unfolding refusal depth holder last_acquirer held_depths lock_depth last_value
each_kept = (
  (refl, refl, refl, clear_alone _ 0 refl),
  (
    (refl, refl, refl, clear_alone _ 1 refl),
    (
      refl,
      (
        refl,
        (
          (refl, refl, refl, clear_alone _ 2 refl),
          (refl, ((refl, refl, refl, clear_alone _ 3 refl), (refl, refl))),
        ),
      ),
    ),
  ),
)

pub first_told : TheFirstReasonIsTold
unfolding refusal depth holder last_acquirer held_depths lock_depth last_value
first_told = (
  (refl, refl, refl, clear_alone _ 0 refl),
  (refl, (refl, (refl, (refl, (refl, (refl, refl)))))),
)
