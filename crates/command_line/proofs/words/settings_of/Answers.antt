use Rattle.std.proofs.Common.{◌≡◌, ◌∙◌, ℕ, Some, ap, codes, rules, sym}
use Rattle.clap.specs.Walk.{Text}
use Rattle.clap.specs.Words.{found_of, rows_of}
use Rattle.command_line.specs.Requests.{asked_by, asked_in, asked_under, check, over_trace}
use Rattle.command_line.specs.declared.requests.Settings.{Settings}
use Rattle.command_line.proofs.words.settings_of.Goals as goal

pub returns-then-eq-clause-asked : goal.returns-then-eq-clause-asked
returns-then-eq-clause-asked c =
    let is : c.command_met.result.0.now ≡ codes "check" = search rules in
    ap asked_in c.command_met.ensures
    ∙ ap (λ (t : Text). Some (asked_under t (rows_of (found_of c.command_met.result.1.now)))) is
    ∙ ap (λ (n : ℕ). Some (over_trace check n)) (sym c.threads_of-threads.ensures.given)
    ∙ ap (λ (s : Settings). Some (asked_by s)) (sym c.trace_settings.ensures)
