use Rattle.std.proofs.Common.{◌≤◌, List, length, subst, sym, ap, ◌∙◌}
use Rattle.std.specs.Prelude.{ℕ}
use Rattle.section_sum.specs.LockSums.{LockSum}
use Rattle.section_sum.specs.Entries.{entries_of, sources_on}
use Rattle.section_sum.specs.Sums.{Sums, sources_of}
use Rattle.section_sum.specs.Sources.{left, most_sources}
use Rattle.section_sum.proofs.SourcesOfProperties.{sums, meets, few_sources}
use Rattle.section_sum.proofs.PairedSections.{sources_paired}
use Rattle.section_sum.proofs.summaries.Summaries.sources.Goals as goal

pub returns-clause-exact : goal.returns-clause-exact
returns-clause-exact c =
    c.sources_under.ensures
    ∙ ap (λ (ks : List LockSum). sources_on (entries_of c.self.inside.cells ks c.args.lock.0) c.args.var.0
    c.args.kind c.args.thread.0) c.deref.ensures.value
    ∙ meets (sums c.self.inside.cells c.self.inside.locks.items) c.args.lock.0 c.args.var.0 c.args.kind
    c.args.thread.0
    ∙ ap (λ (s : Sums). sources_of s c.args.lock.0 c.args.var.0 c.args.kind c.args.thread.0) c.self.view_is

pub returns-clause-at_most : goal.returns-clause-at_most
returns-clause-at_most c =
    subst (λ (xs : List ℕ). length xs ≤ most_sources c.args.kind) (sym (returns-clause-exact c))
    (few_sources c.args.self.now c.args.lock.0 c.args.var.0 c.args.kind c.args.thread.0)

pub returns-clause-paired : goal.returns-clause-paired
returns-clause-paired c = λ log e.
    sources_paired log e c.args.self.now c.args.thread c.args.lock c.args.var c.args.kind
    (left c.sources_under.result) (returns-clause-exact c)
