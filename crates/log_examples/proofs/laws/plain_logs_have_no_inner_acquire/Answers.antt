use Rattle.log_examples.proofs.PlainProperties.{well_formed_too, well_formed_back, plain_acquire}
use Rattle.log_examples.proofs.laws.plain_logs_have_no_inner_acquire.Goals as goal

pub returns : goal.returns
returns c = λ m log. (
  λ w. (well_formed_too m log w, λ a u l d. plain_acquire m log a u l w d),
  λ h. well_formed_back m log h.0 h.1,
)
