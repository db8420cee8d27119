use Rattle.event_core.proofs.BelowProperties.{first_po, first_hb, first_strict, first_below}
use Rattle.event_core.proofs.laws.strict.first_are_below.Goals as goal

pub returns : goal.returns
returns c =
    λ log u h i j a b le. (
      λ x. first_po u a b le x,
      λ x. first_hb u a b le x,
      λ x. first_strict u a b le x,
      λ x. first_below u a b le x,
    )
