use Rattle.std.proofs.Common.{refl}
use Rattle.event_core.specs.Log.{depth}
use Rattle.event_core.specs.Refusal.{refusal, holder, last_acquirer, held_depths, lock_depth}
use Rattle.log_examples.proofs.examples.inner_release_keeps_the_lock.Goals as goal

pub returns : goal.returns
unfolding refusal depth holder last_acquirer held_depths lock_depth
returns c = refl
