use Rattle.std.proofs.Common.{◌∙◌, ap, subst, sym, drop, length, ◌≤◌, take, ◌-◌, List, ℕ}
use Rattle.rapid_text.proofs.WindowLaws.{skipped}
use Rattle.rapid_text.proofs.window.Window.skip.Goals as goal

pub returns : goal.returns
returns c =
    let within : c.args.n ≤ length (take (c.self.inside.to - c.self.inside.from)
    (drop c.self.inside.from c.self.inside.bytes.items)) = subst (λ (t : List ℕ). c.args.n ≤ length t)
    (sym c.self.view_is) c.requires in
    skipped c.self.inside.bytes.items c.self.inside.from c.self.inside.to c.args.n within ∙ ap
    (λ (t : List ℕ). drop c.args.n t) c.self.view_is
