use Rattle.log_examples.proofs.PlainProperties.{well_formed_too}
use Rattle.log_examples.proofs.PlainWcpProperties.{outer, hb_to, hb_from, strict_to, strict_from, verdict_to}
use Rattle.log_examples.proofs.PlainWcpProperties.{verdict_from}
use Rattle.log_examples.proofs.laws.plain_logs_keep_their_meaning.Goals as goal

pub returns : goal.returns
returns c = λ m log w. (
  well_formed_too m log w,
  λ a u l d. (outer m log w).acquire a u l d,
  λ r u l d. (outer m log w).release r u l d,
  λ i j. (λ h. hb_to (outer m log w) h, λ h. hb_from h),
  λ i j. (λ h. strict_to (outer m log w) h, λ h. strict_from (outer m log w) h),
  λ j v. (λ h. verdict_to j v (outer m log w) h, λ h. verdict_from j v (outer m log w) h),
)
