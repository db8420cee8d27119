use Rattle.std.proofs.Common.{ℕ, ap, arith}
use Rattle.clock_tests.proofs.clocks.Run.happened.Goals as goal

pub returns-clause-counts : goal.returns-clause-counts
returns-clause-counts g c = λ u.
    let run = c.args.self.now in
    let few = run.few.hb c.args.thread (record { 0 = u }) in
    let same = ap (λ (f : ℕ → ℕ). f u) c.hb-clock.ensures.exact in
    omega (arith, same, few, run.short)
