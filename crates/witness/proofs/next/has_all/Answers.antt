use Rattle.std.proofs.Common.{ℕ, List, ap, arith, slice_index}
use Rattle.std.proofs.lemmas.Bool.{leb-true}
use Rattle.witness.proofs.IsCountProperties.{all_counted}
use Rattle.witness.proofs.next.has_all.Goals as goal

pub returns : goal.returns
returns c = λ t before count.
    let total = c.requires.totals c.args.thread in
    let lent = ap (λ (xs : List ℕ). slice_index xs c.args.thread.0) c.deref.ensures.value in
    let le = leb-true c.count_of.result c.count_of-2.result t in
    let a = c.count_of.ensures in
    let b = c.count_of-2.ensures in
    all_counted c.args.thread count (omega arith)
