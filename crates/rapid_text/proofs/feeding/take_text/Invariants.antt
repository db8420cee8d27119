use Rattle.std.proofs.Common.{◌≡◌, length}
use Rattle.rapid_text.specs.Turns.{PulledTimes}
use Rattle.rapid_text.proofs.FedProperties.{Fed}
use Rattle.rapid_text.proofs.feeding.take_text.Given as goal

abbrev pub invariant-pulls : goal.invariant-pulls
invariant-pulls g l = record {
  fed : Fed g.S.LineSink.takes (g.I.Input.left l.fn.input) (g.I.Input.left l.input) l.counter l.fn.sink l.sink
      l.cutter;
  pulls : PulledTimes l.counter (g.I.Input.pulls l.fn.input) (g.I.Input.pulls l.input);
  room : length l.piece ≡ 65536;
  healthy : g.I.Input.failed l.input ≡ g.I.Input.failed l.fn.input;
}
