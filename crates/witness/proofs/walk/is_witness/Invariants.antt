use Rattle.std.proofs.Common.{◌≡◌, ℕ, ◌<◌, Some, slice_get, take}
use Rattle.witness.specs.Witness.{IsNext, ReadsAlike}
use Rattle.witness.specs.Standing.{IsWalk}
use Rattle.witness.proofs.walk.is_witness.Given as goal

abbrev pub invariant-events : goal.invariant-events
invariant-events l = record {
  walk : IsWalk l.log.events (take l.index-index l.order) l.walk;
  limits : l.walk.memory.limits ≡ l.fn.limits;
  next : (n k : ℕ) → n < l.index-index → slice_get l.order n ≡ Some k
      → IsNext l.log.events (take n l.order) k;
  reads : (n k : ℕ) → n < l.index-index → slice_get l.order n ≡ Some k
      → ReadsAlike l.log.events (take n l.order) k;
}
