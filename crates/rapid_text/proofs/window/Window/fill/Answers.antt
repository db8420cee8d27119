use Rattle.std.proofs.Common.{◌≡◌, ◌-◌, ◌∙◌, ap, arith, length}
use Rattle.std.proofs.lemmas.List.{length-take-le}
use Rattle.rapid_text.proofs.WindowLaws.{read_over}
use Rattle.rapid_text.proofs.window.Window.fill.Goals as goal

pub invariant_of-self : goal.invariant_of-self
invariant_of-self g c =
    let items = c.self.inside.bytes.items in
    let same = read_over c.self.inside.bytes.len items c.pull-pulled.new.buf c.self.inside.bytes.ok.0
    (c.pull-pulled.auto.buf ∙ ap length c.as_mut_slice.ensures.value) in
    (omega arith, omega arith, same ∙ c.self.invariant.2)

pub invariant_of-self-2 : goal.invariant_of-self-2
invariant_of-self-2 g c =
    let items = c.self.inside.bytes.items in
    let is = c.pull-pulled.auto.buf ∙ ap length c.as_mut_slice.ensures.value in
    let same = read_over c.self.inside.bytes.len items c.pull-pulled.new.buf c.self.inside.bytes.ok.0 is in
    (omega arith, omega (arith, same, is, c.in_ok-n.ensures.within), same ∙ c.self.invariant.2)

pub returns-clause-len : goal.returns-clause-len
returns-clause-len g c =
    let is = c.pull-pulled.auto.buf ∙ ap length c.as_mut_slice.ensures.value in
    let same = read_over c.self.inside.bytes.len c.self.inside.bytes.items c.pull-pulled.new.buf
    c.self.inside.bytes.ok.0 is in
    let all : c.in_ok-n.n - 0 ≡ c.in_ok-n.n = omega arith in
    length-take-le (c.in_ok-n.n - 0) _ (omega (arith, same, is, c.in_ok-n.ensures.within)) ∙ all
