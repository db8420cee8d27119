use Rattle.std.proofs.Common.{◌≡◌, ◌++◌, length, subst, arith}
use Rattle.std.proofs.lemmas.List.{length-append}
use Rattle.rapid_text.specs.Pulling.{HasNoMore, pulling_of}
use Rattle.rapid_text.specs.Reading.{Reading}
use Rattle.rapid_text.proofs.PullingProperties.{ended_text}
use Rattle.rapid_text.proofs.reader.Reader.next.Goals as goal

pub returns-then-self-clause-ok : goal.returns-then-self-clause-ok
returns-then-self-clause-ok g c =
    let inside = c.self.inside in
    let both = c.self.invariant.1 c.if-self.true in
    let parts = length-append inside.cutter.kept inside.window in
    let none : length (inside.cutter.kept ++ inside.window) ≡ 0 = omega (arith, both, parts) in
    subst (λ (r : Reading). HasNoMore r.text r.left r.text) c.self.view_is
    (ended_text (pulling_of inside.cutter inside.window inside.turns inside.ended)
    (g.I.Input.left inside.input) c.if-self.true none)
