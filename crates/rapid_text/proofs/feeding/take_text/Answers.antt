use Rattle.std.proofs.Common.{◌≡◌, ◌∙◌, ℕ, arith, inl, inr, refl, rules, subst, sym, take}
use Rattle.std.proofs.KnownBytes.{Consumes-kept}
use Rattle.std.proofs.Math.Bool.{or-true}
use Rattle.std.proofs.lemmas.List.{length-replicate, length-take-le}
use Rattle.rapid_line.specs.Lines.{Lines}
use Rattle.rapid_text.specs.Turns.{IsCutShort}
use Rattle.rapid_text.proofs.FedProperties.{Fed, fed_cut, fed_last, fed_more, fed_none, fed_room, fed_stops}
use Rattle.rapid_text.proofs.FedProperties.{fed_whole}
use Rattle.rapid_text.proofs.TurnsProperties.{pulled_again, pulled_never, within_turns}
use Rattle.rapid_text.proofs.feeding.take_text.Goals as goal

pub pulls-init : goal.pulls-init
pulls-init g c =
    record {
      fed = subst (λ (d : Lines). Fed g.S.LineSink.takes (g.I.Input.left c.args.input.now)
          (g.I.Input.left c.args.input.now) 0 c.args.sink.now c.args.sink.now d) (sym c.new-cutter.ensures)
          (fed_none g.S.LineSink.takes (g.I.Input.left c.args.input.now) c.args.sink.now);
      pulls = pulled_never (g.I.Input.pulls c.args.input.now);
      room = length-replicate {A = ℕ} 65536 0;
      healthy = refl;
    }

pub feed_lines-requires : goal.feed_lines-requires
feed_lines-requires g c =
    let short = length-take-le c.in-Ok.count c.pull.new.buf c.in-Ok.ensures.within in
    record {
      room = fed_room g.S.LineSink.takes c.args.turns (take c.in-Ok.count c.pull.new.buf)
          c.pulls.invariant.fed (omega arith) c.requires.turns
          (omega (arith, short, c.in-Ok.ensures.within, c.pull.auto.buf, c.pulls.invariant.room));
    }

pub returns-in_default-clause-truncated : goal.returns-in_default-clause-truncated
returns-in_default-clause-truncated g c =
    let input = c.pull.new.self in
    let fed = c.pulls.invariant.fed in
    rw c.unfinished.ensures (fed_cut g.S.LineSink.takes
    (IsCutShort c.args.turns (g.I.Input.failed input) (g.I.Input.pulls c.args.input.now)
    (g.I.Input.pulls input)) fed
    (Consumes-kept (g.I.Input.left c.args.input.now) (g.I.Input.left c.pulls.input) (g.I.Input.left input)
    fed.bytes fed.came c.in_default.ensures.bytes)
    (inl (c.in_default.ensures.fails ∙ or-true (g.I.Input.failed c.pulls.input))))

pub returns-clause-truncated : goal.returns-clause-truncated
returns-clause-truncated g c =
    let input = c.pulls.input in
    let fed = c.pulls.invariant.fed in
    let turns : c.pulls.counter ≡ c.args.turns =
    omega (arith, c.pulls-test.false, c.pulls.auto.counter-end) in
    rw c.unfinished-2.ensures (fed_cut g.S.LineSink.takes
    (IsCutShort c.args.turns (g.I.Input.failed input) (g.I.Input.pulls c.args.input.now)
    (g.I.Input.pulls input)) fed fed.came
    (inr (record { pulled = rw turns at c.pulls.invariant.pulls; some = rw turns at fed.some })))

pub returns-in_default-clause-pulls : goal.returns-in_default-clause-pulls
returns-in_default-clause-pulls g c =
    within_turns c.args.turns c.pulls.counter (g.I.Input.pulls c.args.input.now)
    (g.I.Input.pulls c.pulls.input) (g.I.Input.pulls c.pull.new.self) (omega arith)
    c.pulls.invariant.pulls c.pull.ensures.counts

pub returns-in-Err-clause-fault : goal.returns-in-Err-clause-fault
returns-in-Err-clause-fault g c =
    fed_last g.S.LineSink.takes g.S.LineSink.stops (g.I.Input.left c.pull.new.self) c.pulls.invariant.fed
    (rw c.if-count-eq0.true at c.in-Ok.ensures.bytes.0)
    (c.in-Ok.ensures.bytes.1 c.if-count-eq0.true (omega (arith, c.pull.auto.buf, c.pulls.invariant.room)))
    c.in-Err.ensures.fault

pub returns-in-Err-clause-pulls : goal.returns-in-Err-clause-pulls
returns-in-Err-clause-pulls g c =
    within_turns c.args.turns c.pulls.counter (g.I.Input.pulls c.args.input.now)
    (g.I.Input.pulls c.pulls.input) (g.I.Input.pulls c.pull.new.self) (omega arith)
    c.pulls.invariant.pulls c.pull.ensures.counts

pub returns-then-count-eq0-clause-whole : goal.returns-then-count-eq0-clause-whole
returns-then-count-eq0-clause-whole g c =
    fed_whole g.S.LineSink.takes (g.I.Input.left c.pull.new.self) c.pulls.invariant.fed
    (rw c.if-count-eq0.true at c.in-Ok.ensures.bytes.0)
    (c.in-Ok.ensures.bytes.1 c.if-count-eq0.true (omega (arith, c.pull.auto.buf, c.pulls.invariant.room)))
    c.in_default-finish_lines.ensures.ok

pub returns-then-count-eq0-clause-pulls : goal.returns-then-count-eq0-clause-pulls
returns-then-count-eq0-clause-pulls g c =
    within_turns c.args.turns c.pulls.counter (g.I.Input.pulls c.args.input.now)
    (g.I.Input.pulls c.pulls.input) (g.I.Input.pulls c.pull.new.self) (omega arith)
    c.pulls.invariant.pulls c.pull.ensures.counts

pub returns-in-Err-feed_lines-clause-fault : goal.returns-in-Err-feed_lines-clause-fault
returns-in-Err-feed_lines-clause-fault g c =
    fed_stops g.S.LineSink.takes g.S.LineSink.stops (g.I.Input.left c.pull.new.self)
    (take c.in-Ok.count c.pull.new.buf) c.pulls.invariant.fed c.in-Ok.ensures.bytes.0
    c.in-Err-feed_lines.ensures.fault

pub returns-in-Err-feed_lines-clause-pulls : goal.returns-in-Err-feed_lines-clause-pulls
returns-in-Err-feed_lines-clause-pulls g c =
    within_turns c.args.turns c.pulls.counter (g.I.Input.pulls c.args.input.now)
    (g.I.Input.pulls c.pulls.input) (g.I.Input.pulls c.pull.new.self) (omega arith)
    c.pulls.invariant.pulls c.pull.ensures.counts

pub pulls-preserved : goal.pulls-preserved
pulls-preserved g c =
    let short = length-take-le c.in-Ok.count c.pull.new.buf c.in-Ok.ensures.within in
    record {
      fed = fed_more g.S.LineSink.takes (take c.in-Ok.count c.pull.new.buf) c.pulls.invariant.fed
          c.in-Ok.ensures.bytes.0 (omega (arith, short, c.if-count-eq0.false))
          (omega (arith, short, c.in-Ok.ensures.within, c.pull.auto.buf, c.pulls.invariant.room))
          c.in_default-feed_lines.ensures.ok;
      pulls = pulled_again c.pulls.counter 1 (g.I.Input.pulls c.args.input.now)
          (g.I.Input.pulls c.pulls.input) (g.I.Input.pulls c.pull.new.self) c.pulls.invariant.pulls
          c.pull.ensures.counts;
      room = omega (arith, c.pull.auto.buf, c.pulls.invariant.room);
      healthy = search rules;
    }
