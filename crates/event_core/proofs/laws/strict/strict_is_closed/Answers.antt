use Rattle.event_core.specs.Wcp.{rule_a, rule_b, rule_c_left, rule_c_right}
use Rattle.event_core.proofs.laws.strict.strict_is_closed.Goals as goal

pub returns : goal.returns
returns c = λ log. record {
  a = λ r j m. rule_a m;
  b = λ r s e f l lt p q d. rule_b l lt p q d;
  left = λ i g j h d. rule_c_left h d;
  right = λ i g j d h. rule_c_right d h;
}
