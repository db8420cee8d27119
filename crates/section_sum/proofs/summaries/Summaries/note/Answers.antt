use Rattle.std.proofs.Common.{ℕ, sym, subst}
use Rattle.section_sum.specs.Entries.{Entries, IsAlone as IsAloneThere}
use Rattle.section_sum.specs.Locks.{HaveNoted}
use Rattle.section_sum.specs.Sums.{Sums, noted_of, others_of, is_ready, IsReady, IsAlone}
use Rattle.section_sum.proofs.SourcesOfProperties.{same_memory, said_as, seen}
use Rattle.section_sum.proofs.StandsForProperties.{note_stands}
use Rattle.section_sum.proofs.summaries.Summaries.note.Goals as goal

pub note_held-requires-clause-ready : goal.note_held-requires-clause-ready
unfolding is_ready
note_held-requires-clause-ready c =
    subst (λ (s : Sums). IsReady s c.args.held.now c.args.var.0) (sym c.self.view_is) c.requires.ready

pub note_held-requires-clause-alone : goal.note_held-requires-clause-alone
unfolding noted_of
note_held-requires-clause-alone c = λ l e.
    subst (λ (f : ℕ → Entries). IsAloneThere (f l) c.args.thread.0)
    (said_as c.self.inside.cells c.self.inside.locks.items)
    (λ t v k n. subst (λ (s : Sums). IsAlone s c.args.thread.0 c.args.held.now) (sym c.self.view_is)
    c.requires.alone l t v k e n)

pub returns : goal.returns
unfolding noted_of others_of is_ready
returns c =
    let noted = seen (HaveNoted c.args.thread.0 c.args.held.now c.args.var.0 c.args.kind) c.self.inside.cells
    c.note_held.new.cells c.self.inside.locks.items c.note_held.new.locks.items c.self.view_is
    c.note_held.ensures.noted in
    record {
      noted = λ t l v k. (noted l).noted t v k;
      others = λ l v k t. (noted l).others v k t;
      stands = λ limits log e w is are.
          note_stands limits log e _ _ c.args.thread c.args.held.now c.args.var c.args.kind noted w is are;
      kept = λ l v. (noted l).ready v;
      memory = same_memory c.self.inside.cells c.note_held.new.cells c.self.inside.locks.items
          c.note_held.new.locks.items c.self.view_is c.note_held.ensures.places c.note_held.ensures.count;
    }
