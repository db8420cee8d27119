use Rattle.std.proofs.Common.{◌≡◌, false, refl, sym, subst}
use Rattle.section_sum.specs.Cells.{Stored, no_cells}
use Rattle.section_sum.specs.Entries.{noted_at, others_on}
use Rattle.section_sum.specs.Sums.{said_of, noted_of, others_of}
use Rattle.section_sum.proofs.SourcesOfProperties.{sums}
use Rattle.section_sum.proofs.EntriesProperties.{none_noted, none_others}
use Rattle.section_sum.proofs.StandsForProperties.{nothing_stands}
use Rattle.section_sum.proofs.summaries.Summaries.new.Goals as goal

pub returns-clause-nothing_noted : goal.returns-clause-nothing_noted
unfolding noted_of
returns-clause-nothing_noted c = λ t l v k.
    subst (λ (s : Stored). noted_at (said_of (sums s c.new-2.result.items) l) t v k ≡ false)
    (sym c.new.ensures)
    (none_noted (said_of (sums no_cells c.new-2.result.items) l) (λ x. refl) t v k)

pub returns-clause-no_others : goal.returns-clause-no_others
unfolding others_of
returns-clause-no_others c = λ l v k t.
    subst (λ (s : Stored). others_on (said_of (sums s c.new-2.result.items) l) v k t ≡ 0) (sym c.new.ensures)
    (none_others (said_of (sums no_cells c.new-2.result.items) l) (λ x. refl) v k t)

pub returns-clause-stands : goal.returns-clause-stands
returns-clause-stands c =
    nothing_stands _ (returns-clause-nothing_noted c) (returns-clause-no_others c)
