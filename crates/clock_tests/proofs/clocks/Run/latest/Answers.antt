use Rattle.std.proofs.Common.{ℕ, ap, arith}
use Rattle.clock_tests.proofs.clocks.Run.latest.Goals as goal

pub mark-requires-clause-some : goal.mark-requires-clause-some
mark-requires-clause-some g c =
    let same = ap (λ (f : ℕ → ℕ). f c.args.thread.0) c.hb.ensures.exact in
    omega (arith, same)

pub mark-requires-clause-few : goal.mark-requires-clause-few
mark-requires-clause-few g c =
    let most = c.args.self.now.few.hb c.args.thread c.args.thread in
    let short = c.args.self.now.short in
    omega arith
