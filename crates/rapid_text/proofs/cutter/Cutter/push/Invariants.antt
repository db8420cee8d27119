use Rattle.std.proofs.Common.{◌≡◌, length, None}
use Rattle.rapid_text.proofs.PushesProperties.{Going}
use Rattle.rapid_text.proofs.cutter.Cutter.push.Given as goal

abbrev pub invariant-lines : goal.invariant-lines
invariant-lines l = record {
  going : Going l.fn.self l.piece l.self-inside.names l.self-inside.lines l.rest;
  line : l.self-inside.line ≡ l.fn.self.line;
  live : l.self-inside.failed ≡ None;
}

abbrev pub decreases-lines : goal.decreases-lines
decreases-lines l = length l.rest
