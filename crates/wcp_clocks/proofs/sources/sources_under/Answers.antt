use Rattle.std.proofs.Common.{sym, ap, subst, ◌∙◌, length, map, ◌≤◌}
use Rattle.std.proofs.lemmas.List.{length-map}
use Rattle.section_sum.specs.Sources.{most_sources}
use Rattle.lock_queues.specs.Queues.{closed_of}
use Rattle.wcp_clocks.specs.MetReleases.{released_at}
use Rattle.wcp_clocks.proofs.MetNumbers.{sources_closed}
use Rattle.wcp_clocks.proofs.sources.sources_under.Goals as goal

pub new-requires : goal.new-requires
new-requires c =
    sources_closed c.args.sums.now (closed_of c.args.queues.now) c.args.lock.0 c.args.var.0 c.args.thread.0
    c.args.kind _ c.sources.ensures.exact c.requires

pub returns-clause-rest : goal.returns-clause-rest
returns-clause-rest c =
    c.new.ensures.rest
    ∙ ap (map (released_at (closed_of c.args.queues.now c.args.lock.0))) c.sources.ensures.exact

pub returns-clause-at_most : goal.returns-clause-at_most
returns-clause-at_most c =
    subst (λ n. n ≤ most_sources c.args.kind) (sym (ap length c.new.ensures.rest ∙ length-map _ _))
    c.sources.ensures.at_most
