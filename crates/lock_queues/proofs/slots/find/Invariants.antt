use Rattle.std.proofs.Common.{◌≡◌, ℕ, ◌-◌, ◌<◌, ◌≤◌, length}
use Rattle.lock_queues.specs.Slots.{slot_at}
use Rattle.lock_queues.proofs.slots.find.Given as goal

abbrev pub invariant-finding : goal.invariant-finding
invariant-finding l = record {
  within : l.at ≤ length l.slots;
  before : (k : ℕ) → k < l.at → l.thread.0 ≡ (slot_at l.slots k).thread.0 → ⊥;
}

abbrev pub decreases-finding : goal.decreases-finding
decreases-finding l = length l.slots - l.at
