use Rattle.std.proofs.Common.{length, [], ◌∷◌, ◌++◌}
use Rattle.seq_monitor.proofs.IsReplayProperties.{last_is_latest}
use Rattle.seq_monitor.proofs.parts.verdict_on_last.Goals as goal

pub returns : goal.returns
returns c limits past well stands made =
    c.verdict.ensures.verdict past made
    (c.clock.ensures.latest limits (past ++ c.args.event.now ∷ []) (length past) well stands
    (last_is_latest past c.args.event.now))
