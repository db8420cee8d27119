-- The pulls of a text, one after another.
use Rattle.std.proofs.Common.{◌≡◌, ℕ, ◌+◌, ◌-◌, ◌<◌, ◌≤◌, Option, Some, None, arith, ap, subst, ◌∙◌}
use Rattle.rapid_text.specs.Turns.{PulledTimes, PulledWithin}

-- no pull
pub pulled_never : (o : Option ℕ) → PulledTimes 0 o o
pulled_never None = tt
pulled_never (Some n) = λ few. ap (λ (m : ℕ). Some m) (omega (arith))

-- some pulls, and then some more
pub pulled_again : (n more : ℕ) (before mid after : Option ℕ) → PulledTimes n before mid
    → PulledTimes more mid after → PulledTimes (n + more) before after
pulled_again n more None mid after first then = tt
pulled_again n more (Some b) None after first then = λ few. absurd (let is = first (omega (arith, few)) in cc)
pulled_again n more (Some b) (Some m) after first then = λ few.
    let is : m ≡ b + n = (let some = first (omega (arith, few)) in cc) in
    then (omega (arith, few, is)) ∙ ap (λ (k : ℕ). Some k) (omega (arith, is))

-- one pull more, where a turn was left
pub within_turns : (turns n : ℕ) (before mid after : Option ℕ) → n < turns → PulledTimes n before mid
    → PulledTimes 1 mid after → PulledWithin turns before after
within_turns turns n before mid after few first then = record {
  times = n + 1;
  within = omega (arith, few);
  pulled = pulled_again n 1 before mid after first then;
}

-- a turn of a reader is one pull
pub one_turn : (all turns : ℕ) (before mid after : Option ℕ) → turns ≤ all → 0 < turns
    → PulledTimes (all - turns) before mid → PulledTimes 1 mid after
    → PulledTimes (all - (turns - 1)) before after
one_turn all turns before mid after within some first then =
    let one : (all - turns) + 1 ≡ all - (turns - 1) = omega (arith, within, some) in
    subst (λ (n : ℕ). PulledTimes n before after) one
    (pulled_again (all - turns) 1 before mid after first then)
