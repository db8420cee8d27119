use Rattle.section_sum.specs.Locks.{HaveClosed}
use Rattle.section_sum.specs.Sums.{noted_of, others_of, is_ready}
use Rattle.section_sum.proofs.SourcesOfProperties.{same_memory, seen}
use Rattle.section_sum.proofs.StandsForProperties.{close_stands}
use Rattle.section_sum.proofs.summaries.Summaries.close.Goals as goal

pub returns : goal.returns
unfolding noted_of others_of is_ready
returns c =
    let ends = seen (HaveClosed c.args.thread.0 c.args.lock.0 c.args.number) c.self.inside.cells
    c.close_under.new.cells c.self.inside.locks.items c.close_under.new.locks.items c.self.view_is
    c.close_under.ensures.closed in
    record {
      noted = λ t l v k. (ends l).noted t v k;
      others = λ l v k t. (ends l).others v k t;
      stands = λ limits log e. close_stands limits log e _ _ c.args.thread c.args.lock c.args.number ends;
      kept = λ l v. (ends l).ready v;
      memory = same_memory c.self.inside.cells c.close_under.new.cells c.self.inside.locks.items
          c.close_under.new.locks.items c.self.view_is c.close_under.ensures.places
          c.close_under.ensures.count;
    }
