use Rattle.std.proofs.Common.{◌≡◌, ℕ, ◌⊎◌, List}
use mathlib.Core.Logic.{inl, inr}
use Rattle.event_core.proofs.NearProperties.{Through, near_law}
use Rattle.event_core.proofs.OrderlyProperties.{orderly}
use Rattle.event_core.specs.declared.events.Event.{Event}
use Rattle.event_core.specs.Order.{Hb}
use Rattle.event_core.specs.Recurrence.{Near}
use Rattle.event_core.proofs.laws.order.below_near.Goals as goal

pub returns : goal.returns
returns c = λ m log i j w h. go log i j (near_law log i j (orderly m log w) h)
  where
    go : (log : List Event) (i j : ℕ) → (i ≡ j) ⊎ Through log i j
        → (i ≡ j) ⊎ ((n : ℕ) × Near log n j × Hb log i n)
    go log i j (inl e) = inl e
    go log i j (inr t) = inr (t.index, t.near, t.above)
