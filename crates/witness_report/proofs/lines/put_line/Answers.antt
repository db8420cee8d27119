use Rattle.std.proofs.Common.{◌≡◌, ◌∙◌, ap, sym, Some}
use Rattle.std.specs.Prelude.{slice_get}
use Rattle.std.proofs.lemmas.Result.{on_ok_weaker}
use Rattle.rapid_text.proofs.PutsProperties.{put_both, put_same}
use Rattle.witness_report.specs.Lines.{event_line}
use Rattle.witness_report.proofs.lines.put_line.Goals as goal

pub put_event-requires : goal.put_event-requires
put_event-requires g c = c.requires.named c.args.index c.in-Some.event (sym c.get.ensures ∙ c.in-Some.is)

pub returns-clause-ok : goal.returns-clause-ok
returns-clause-ok g c =
    let found : Some c.in-Some.event ≡ slice_get c.args.log.now.events c.args.index =
    sym c.in-Some.is ∙ c.get.ensures in
    on_ok_weaker c.put.result
    (λ h. put_same (ap (event_line c.args.names.now) found) (put_both c.in_ok-put_event.ensures.ok h))
    c.put.ensures.ok
