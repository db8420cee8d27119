-- Clocks with zeros from a thread on.
use Rattle.std.proofs.Common.{◌≡◌, ℕ, ◌≤◌, List, length, max, ap, ◌∙◌, arith}
use Rattle.std.proofs.lemmas.List.{get_or_past}
use Rattle.event_core.specs.Rows.{join}
use Rattle.hb_clocks.specs.Counts.{counts_of, IsUnusedFrom}

-- a clock joined with a list of numbers has zeros from where it had them, or the list has ended
pub joined_unused : (joined left mine theirs : List ℕ) (n m : ℕ) → left ≡ mine
    → counts_of joined ≡ join (counts_of left) (counts_of theirs) → length joined ≡ length left
    → IsUnusedFrom mine n → n ≤ m → length theirs ≤ m → m ≤ length mine → IsUnusedFrom joined m
joined_unused joined left mine theirs n m is_mine is same unused n_le len_le within = record {
  within = let e : length left ≡ length mine = ap length is_mine in omega arith;
  zero = λ u h.
      let l : counts_of left u ≡ 0 = ap (λ xs. counts_of xs u) is_mine ∙ unused.zero u (omega arith) in
      let r : counts_of theirs u ≡ 0 = get_or_past theirs u 0 (omega arith) in
      let both : counts_of joined u ≡ max (counts_of left u) (counts_of theirs u) = ap (λ f. f u) is in
      omega arith;
}
