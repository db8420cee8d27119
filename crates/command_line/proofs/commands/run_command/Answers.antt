use Rattle.std.proofs.Common.{◌≡◌, ◌∙◌, Bool, false, ap, ap₂}
use Rattle.std.specs.Prelude.{◌||◌}
use Rattle.std.proofs.lemmas.Result.{IfOk-weaker}
use Rattle.clap.specs.Words.{App, with_rule}
use Rattle.command_line.proofs.commands.run_command.Goals as goal

both_false : (a b c : Bool) → a ≡ (b || c) → b ≡ false → c ≡ false → a ≡ false
both_false a b c is none neither = is ∙ ap₂ (λ (x y : Bool). x || y) none neither

pub returns-clause-local : goal.returns-clause-local
returns-clause-local c =
    let first = both_false _ _ _ c.in_ok-arg.ensures.globals c.bare_command.ensures.local
    c.file_argument.ensures.local
    in
    let second = both_false _ _ _ c.in_ok-arg-2.ensures.globals first c.threads_option.ensures.local in
    IfOk-weaker c.arg-3.result _ _
    (λ x h. both_false _ _ _ h.globals second c.patience_option.ensures.local)
    c.arg-3.ensures

pub returns-clause-shape : goal.returns-clause-shape
returns-clause-shape c =
    let file = c.in_ok-arg.ensures.shape c.file_argument.ensures.local
    ∙ ap₂ with_rule c.bare_command.ensures.app c.file_argument.ensures.rule in
    let threads = c.in_ok-arg-2.ensures.shape c.threads_option.ensures.local
    ∙ ap₂ with_rule file c.threads_option.ensures.rule in
    IfOk-weaker c.arg-3.result _ _
    (λ x h. ap (λ (a : App). a.top) (h.shape c.patience_option.ensures.local
    ∙ ap₂ with_rule threads c.patience_option.ensures.rule))
    c.arg-3.ensures
