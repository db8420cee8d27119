use Rattle.std.proofs.Common.{List, subst, sym}
use Rattle.event_core.specs.declared.events.Event.{Event}
use Rattle.trace_report.specs.Reports.{AreNamed}
use Rattle.witness_report.proofs.events.show_event.Goals as goal

pub write_lines-written-requires : goal.write_lines-written-requires
write_lines-written-requires g c = record {
  named = subst (λ (log : List Event). AreNamed c.args.names.now log) (sym c.log-log.ensures.log)
      c.requires.named;
}
