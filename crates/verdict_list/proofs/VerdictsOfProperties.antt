-- The verdicts on the events of a log, of which the races are kept.
use Rattle.std.proofs.Common.{◌≡◌, ℕ, suc, ◌+◌, List, [], ◌∷◌, ◌++◌, length, refl, sym, ap, ◌∙◌, arith}
use Rattle.event_core.specs.declared.replies.Verdict.TheVariants.{Clear, Racy}
use Rattle.verdict_list.specs.declared.verdicts.Race.{Race}
use Rattle.verdict_list.specs.Judged.{races_from}
use Rattle.verdict_list.specs.Spread.{Rise, verdicts_of}
use Rattle.verdict_list.proofs.RiseProperties.{rise_longer, rise_pushed}
use Rattle.verdict_list.proofs.SpreadProperties.{length_spread, spread_clear, spread_racy, races_of_spread}

-- there are as many verdicts as events
pub length_verdicts : (n : ℕ) (rs : List Race) → length (verdicts_of n rs) ≡ n
length_verdicts n rs = length_spread 0 n rs

-- one more event without a race adds the verdict that it is clear
pub clear_next : (n : ℕ) (rs : List Race) → Rise 0 n rs
    → verdicts_of (n + 1) rs ≡ verdicts_of n rs ++ Clear ∷ []
clear_next n rs up =
    let next : n + 1 ≡ suc n = omega arith in
    ap (λ k. verdicts_of k rs) next ∙ spread_clear 0 n n rs (omega arith) up

-- the races of a log are races of the log with one event more
pub still_rise : (n : ℕ) (rs : List Race) → Rise 0 n rs → Rise 0 (n + 1) rs
still_rise n rs up = rise_longer 0 n (n + 1) rs (omega arith) up

-- one more event with a race adds the verdict that it is racy
pub racy_next : (n i : ℕ) (rs : List Race) → Rise 0 n rs
    → verdicts_of (n + 1) (rs ++ record { event = n; with = i } ∷ []) ≡ verdicts_of n rs ++ Racy i ∷ []
racy_next n i rs up =
    let race : Race = record { event = n; with = i } in
    let next : n + 1 ≡ suc n = omega arith in
    ap (λ k. verdicts_of k (rs ++ race ∷ [])) next ∙ spread_racy 0 n rs race (omega arith) up

-- a race of the next event may join the races
pub rise_next : (n i : ℕ) (rs : List Race) → Rise 0 n rs
    → Rise 0 (n + 1) (rs ++ record { event = n; with = i } ∷ [])
rise_next n i rs up = rise_pushed 0 n rs (record { event = n; with = i }) (omega arith) refl up

-- the races among the verdicts are those that are kept
pub races_kept : (n : ℕ) (rs : List Race) → Rise 0 n rs → rs ≡ races_from 0 (verdicts_of n rs)
races_kept n rs up = sym (races_of_spread 0 n n rs (omega arith) up)

-- what one event more adds to the verdicts and the races
pub ruleset growth = (length_verdicts, clear_next, still_rise, racy_next, rise_next)
