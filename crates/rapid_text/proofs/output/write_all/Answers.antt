use Rattle.std.proofs.Common.{◌∙◌, ℕ, List, sym, subst, refl}
use Rattle.std.proofs.lemmas.List.{take_rest}
use Rattle.std.proofs.Math.Bool.{or-false}
use Rattle.rapid_text.proofs.Outputs.{Written, nothing_yet, wrote_more}
use Rattle.rapid_text.proofs.output.write_all.Goals as goal

pub puts-init : goal.puts-init
puts-init g c =
    record { written = nothing_yet (g.W.Output.written c.args.w.now) c.args.bytes.now; healthy = refl }

pub puts-preserved : goal.puts-preserved
puts-preserved g c =
    let written = g.W.Output.written in
    let start = written c.args.w.now in
    let now = written c.puts.w in
    let new = written c.put.new.self in
    record {
      written = subst (λ (t : List ℕ). Written start new c.args.bytes.now t)
          (sym (take_rest c.puts.rest.now c.in-Ok.taken))
          (wrote_more start now new c.args.bytes.now c.puts.rest.now c.in-Ok.taken c.puts.invariant.written
          c.in-Ok.ensures.bytes);
      healthy = c.in-Ok.ensures.fails ∙ or-false (g.W.Output.failed c.puts.w) ∙ c.puts.invariant.healthy;
    }
