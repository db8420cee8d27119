use Rattle.std.proofs.Common.{◌<◌, ap, sym, ◌∙◌, length, arith}
use Rattle.std.proofs.lemmas.List.{get_or_read}
use Rattle.lock_queues.specs.Sections.{Listed, entry_at, no_entry}
use Rattle.lock_queues.proofs.EntriesProperties.{count_listed, entry_listed}
use Rattle.lock_queues.proofs.sections.ClosedSections.at.Goals as goal

pub returns : goal.returns
returns c =
    let ms = c.self.inside.acquires.items in
    let ps = c.self.inside.places.items in
    let same = c.self.invariant in
    let count = count_listed ms ps same in
    let is = ap (λ (l : Listed). length l.entries) c.self.view_is in
    let within = c.requires in
    let lt : c.args.at < length ms = omega arith in
    let acquire = get_or_read ms c.args.at _ lt c.index.ensures no_entry.acquire in
    let place = get_or_read ps c.args.at _ (omega arith) c.index-2.ensures no_entry.place in
    (λ i. record { acquire = acquire i; place = place i })
    ∙ sym (entry_listed ms ps c.args.at same lt)
    ∙ ap (λ (l : Listed). entry_at l.entries c.args.at) c.self.view_is
