use Rattle.std.proofs.Common.{◌≡◌, ℕ, subst, sym}
use Rattle.event_core.specs.Closed.{Has}
use Rattle.witness.proofs.next.has_fork.Goals as goal

pub returns-in-Some : goal.returns-in-Some
returns-in-Some c = λ t before count g v d.
    let kept = c.requires.forks g v c.args.thread d in
    let is : g ≡ c.in-Some.fork = cc in
    subst (λ (k : ℕ). Has k before) (sym is) (c.has.ensures t before count)

pub returns-in-None : goal.returns-in-None
returns-in-None c = λ t before count g v d.
    let kept = c.requires.forks g v c.args.thread d in
    absurd (cc)
