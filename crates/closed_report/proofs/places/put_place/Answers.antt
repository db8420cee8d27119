use Rattle.std.proofs.lemmas.Result.{on_ok_weaker}
use Rattle.rapid_text.proofs.PutsProperties.{put_both}
use Rattle.closed_report.proofs.places.put_place.Goals as goal

pub returns-clause-ok : goal.returns-clause-ok
returns-clause-ok g c =
    on_ok_weaker c.put_race.result
    (λ h. put_both (put_both c.in_ok-put_count.ensures.ok c.in_ok-put.ensures.ok) h)
    c.put_race.ensures.ok
