use Rattle.std.proofs.Common.{◌≡◌, length}
use Rattle.rapid_text.proofs.Outputs.{Written}
use Rattle.rapid_text.proofs.output.write_all.Given as goal

abbrev pub invariant-puts : goal.invariant-puts
invariant-puts g l = record {
  written : Written (g.W.Output.written l.fn.w) (g.W.Output.written l.w) l.bytes l.rest;
  healthy : g.W.Output.failed l.w ≡ g.W.Output.failed l.fn.w;
}

abbrev pub decreases-puts : goal.decreases-puts
decreases-puts g l = length l.rest
