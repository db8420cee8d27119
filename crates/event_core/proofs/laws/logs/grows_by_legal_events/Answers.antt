use Rattle.event_core.proofs.WellFormedProperties.{well_formed_front, well_formed_last, well_formed_grown}
use Rattle.std.proofs.Common.{[], ◌∷◌}
use Rattle.event_core.proofs.laws.logs.grows_by_legal_events.Goals as goal

pub returns : goal.returns
returns c =
    λ m log e. (
      λ w. (well_formed_front m log (e ∷ []) w, well_formed_last m log e w),
      λ p. well_formed_grown
          m log e p.0 p.1,
    )
