use Rattle.std.proofs.Common.{◌≡◌, ℕ, ◌<◌, ◌-◌, ◌++◌, ap, sym, subst, ◌∙◌, arith, length, length-set}
use Rattle.hb_clocks.specs.Counts.{counts_of}
use Rattle.hb_clocks.specs.Releases.{KeptNumbers, before, lowered}
use Rattle.hb_clocks.proofs.ReleasesProperties.{counted_within, raised_lowered}
use Rattle.hb_clocks.proofs.release.ReleaseClocks.push.Goals as goal

pub push_before-requires-clause-own : goal.push_before-requires-clause-own
push_before-requires-clause-own c =
    counted_within c.counts-counts.result.now c.args.by.0
    (subst (λ (f : ℕ → ℕ). 0 < f c.args.by.0) (sym c.counts-counts.ensures.counts) c.requires.counted)

pub push_before-requires-clause-counted : goal.push_before-requires-clause-counted
push_before-requires-clause-counted c =
    subst (λ (f : ℕ → ℕ). 0 < f c.args.by.0) (sym c.counts-counts.ensures.counts) c.requires.counted

pub push_before-requires-clause-few : goal.push_before-requires-clause-few
push_before-requires-clause-few c =
    subst (λ (f : ℕ → ℕ). (u : ℕ) → before c.args.by.0 f u < 4294967296) (sym c.counts-counts.ensures.counts)
    c.requires.few

pub returns-clause-added : goal.returns-clause-added
returns-clause-added c =
    let t : ℕ = c.args.by.0 in
    let counts = c.counts-counts.result.now in
    let counted : 0 < counts_of counts t
    = subst (λ (f : ℕ → ℕ). 0 < f t) (sym c.counts-counts.ensures.counts) c.requires.counted in
    let within : t < length counts = counted_within counts t counted in
    let same : length (lowered t counts) ≡ length counts = length-set counts t (counts_of counts t - 1) in
    let used = c.counts-counts.ensures.within in
    let numbers = c.self.inside.numbers.ok.0 in
    let len = c.len-start.ensures in
    let first = ap (λ (k : KeptNumbers). length k.numbers) c.self.view_is in
    record {
      added = lowered t counts;
      numbers = c.push_before.ensures.items
          ∙ ap (λ (k : KeptNumbers). k.numbers ++ lowered t counts) c.self.view_is;
      start = omega arith;
      count = sym same;
      marked = omega arith;
      release = ap counts_of (raised_lowered t counts counted) ∙ c.counts-counts.ensures.counts;
      within = omega arith;
    }
