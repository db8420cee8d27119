use Rattle.std.proofs.Common.{◌≡◌, ◌-◌, false}
use Rattle.rapid_text.specs.Pulling.{pulling_of, TakeBytes, TakeFew}
use Rattle.rapid_text.specs.Turns.{PulledTimes}
use Rattle.rapid_text.specs.Tables.{TablesGrow}
use Rattle.rapid_text.proofs.PullingProperties.{Running}
use Rattle.rapid_text.proofs.reader.next_event.Given as goal

abbrev pub invariant-pulls : goal.invariant-pulls
invariant-pulls g l = record {
  running : Running (pulling_of l.fn.cutter l.fn.window l.fn.turns false) (g.I.Input.left l.fn.input)
      l.cutter l.window l.turns (g.I.Input.left l.input);
  healthy : g.I.Input.failed l.input ≡ g.I.Input.failed l.fn.input;
  bytes : TakeBytes l.fn.turns (g.I.Input.left l.fn.input) l.turns (g.I.Input.left l.input);
  few : TakeFew l.fn.turns (g.I.Input.left l.fn.input) l.turns (g.I.Input.left l.input);
  pulls : PulledTimes (l.fn.turns - l.turns) (g.I.Input.pulls l.fn.input) (g.I.Input.pulls l.input);
  going : l.ended ≡ false;
  grows : TablesGrow l.fn.cutter.names l.cutter.names;
}

abbrev pub decreases-pulls : goal.decreases-pulls
decreases-pulls g l = l.turns
