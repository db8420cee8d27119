use Rattle.std.proofs.Common.{ℕ, ◌+◌, List, ap, ap₂, ◌∙◌, max}
use Rattle.event_core.specs.declared.ids.ThreadId.{ThreadId}
use Rattle.event_core.specs.Rows.{join, with_row}
use Rattle.hb_clocks.specs.Counts.{counts_of}
use Rattle.hb_clocks.proofs.JoinReleaseLaws.{release_joined}
use Rattle.hb_clocks.proofs.clock.Clock.join_release.Goals as goal

-- the release is counted
abbrev counting : (ℕ → ℕ) → ℕ → ℕ → ℕ → ℕ
counting f t n = with_row t (max (f t) (n + 1)) f

pub returns-clause-greater : goal.returns-clause-greater
returns-clause-greater c =
    let t : ℕ = c.args.release.now.by.0 in
    let g : ℕ → ℕ = counts_of c.args.release.now.before.now in
    c.count_release.ensures.greater
    ∙ ap₂ (counting (counts_of c.raise_before.new.self)) (ap (λ (u : ThreadId). u.0) c.by-by.ensures.thread)
    (ap₂ (λ (xs : List ℕ) (u : ThreadId). counts_of xs u.0) c.counts_before-before.ensures
    c.by-by.ensures.thread)
    ∙ ap (λ (f : ℕ → ℕ). counting f t (g t))
    (c.raise_before.ensures.greater
    ∙ ap (λ (xs : List ℕ). join (counts_of c.args.self.now) (counts_of xs)) c.counts_before-before.ensures)
    ∙ release_joined t (counts_of c.args.self.now) g
