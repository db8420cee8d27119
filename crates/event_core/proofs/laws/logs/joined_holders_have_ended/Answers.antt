use Rattle.std.proofs.Common.{ap, ◌∙◌}
use Rattle.event_core.specs.declared.replies.Refusal.TheVariants.{Ended}
use Rattle.event_core.specs.Refusal.{when}
use Rattle.event_core.proofs.HolderLaw.{holder_refusal}
use Rattle.event_core.proofs.laws.logs.joined_holders_have_ended.Goals as goal

pub returns : goal.returns
returns c = λ m log c' l w is h j. holder_refusal m log c' l w is h ∙ ap (λ b. when b Ended) j
