-- Passes that were joined into another, directly or through others.
use Rattle.std.specs.Prelude.{◌≡◌, ℕ, true, List, Some, slice_get}
use Rattle.std.specs.List.{list_any}
use mathlib.Core.List.{IsPrefix}
use Rattle.event_core.specs.Refusal.{joins}
use Rattle.event_core.specs.Steps.{log_of, own}
use Rattle.log_pass.specs.declared.views.PassView.{PassView}
use Rattle.live_monitor.specs.Rules.{HasOwn}

-- what Shared::join states of the child's pass that it ends, and of the pass that it answers
pub record IsJoinOf (child after : PassView) : Type 0 where
  pub child_begins : IsPrefix child.seen after.seen
  pub child_own : child.mine ≡ own child.thread after.seen
  pub child_events : HasOwn child (log_of after.seen)
  pub joined : list_any (joins child.thread) (log_of after.seen) ≡ true

-- the child was joined into the pass, directly or through others
pub data IsJoinedInto (child : PassView) : PassView → Type 0 where
  -- by the join that answered this pass
  directly : {pass : PassView} → IsJoinOf child pass → IsJoinedInto child pass
  -- before the pass came to see what it has seen now
  earlier : {pass later : PassView} → IsJoinedInto child pass → IsPrefix pass.seen later.seen
      → IsJoinedInto child later
  -- into a pass that was joined itself
  through : {other pass : PassView} → IsJoinedInto child other → IsJoinOf other pass → IsJoinedInto child pass

-- the child was joined into one of the passes
pub record IsJoinedIntoOne (passes : List PassView) (child : PassView) : Type 0 where
  pub pass : PassView
  pub index : ℕ
  pub at : slice_get passes index ≡ Some pass
  pub joined : IsJoinedInto child pass
