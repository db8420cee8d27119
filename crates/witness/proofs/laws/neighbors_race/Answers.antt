use Rattle.std.proofs.Common.{ℕ, suc, ◌<◌, List, arith}
use Rattle.event_core.specs.declared.events.Event.{Event}
use Rattle.event_core.specs.Log.{Conflict}
use Rattle.event_core.specs.Orderly.{Orderly}
use Rattle.event_core.specs.Verdict.{Races}
use Rattle.event_core.proofs.OrderlyProperties.{orderly}
use Rattle.event_core.proofs.StrictIsWithinHb.{below_hb}
use Rattle.witness.proofs.Neighbors.{unordered}
use Rattle.witness.proofs.laws.neighbors_race.Goals as goal

races : {log : List Event} (n : ℕ) → Orderly log → Conflict log n (suc n) → Races log n (suc n)
races n w conflict = record {
  before = omega arith;
  conflict = conflict;
  unordered = λ b. unordered n conflict (below_hb w b);
}

pub returns : goal.returns
returns c = λ m log n w conflict.
    let r = races n (orderly m log w) conflict in
    (unordered n conflict, r, (r, λ k lt s. (let b : k < suc n = s.before in omega arith)))
