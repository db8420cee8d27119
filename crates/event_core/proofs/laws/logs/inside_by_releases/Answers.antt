use Rattle.event_core.proofs.InsideProperties.{inside_from, inside_to}
use Rattle.event_core.proofs.OrderlyProperties.{orderly}
use Rattle.event_core.proofs.laws.logs.inside_by_releases.Goals as goal

pub returns : goal.returns
returns c = λ m log u l a i w. (
  λ h. (h.opened, h.of, h.from, λ k lt lt' r. inside_to log u l a i k h lt lt' r),
  λ h. inside_from log u l a i (orderly m log w) h.0 h.1 h.2 h.3,
)
