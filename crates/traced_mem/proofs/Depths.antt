-- How deep the holder of a lock is in it.
use Rattle.std.proofs.Common.{◌≡◌, ◌-◌, Some, List, [], ◌∷◌, ◌++◌, ap, sym, ◌∙◌}
use Rattle.event_core.specs.declared.ids.ThreadId.{ThreadId}
use Rattle.event_core.specs.declared.ids.LockId.{LockId}
use Rattle.event_core.specs.declared.events.Event.{Event}
use Rattle.event_core.specs.declared.events.Op.TheVariants.{Release}
use Rattle.event_core.specs.Log.{depth}
use Rattle.event_core.specs.Refusal.{lock_depth, depth_by, holder}
use Rattle.event_core.proofs.EffectProperties.{depth_down}

-- the depth of a lock is the depth of its holder in it
pub depth_if_held : (log : List Event) (l : LockId) (u : ThreadId) → holder log l ≡ Some u
    → lock_depth log l ≡ depth log u l
unfolding lock_depth
depth_if_held log l u h = ap (λ o. depth_by o log l) h

-- a release by the holder makes the depth less by one
pub depth_left : (log : List Event) (e : Event) (l : LockId) → e.op ≡ Release l → holder log l ≡ Some e.thread
    → depth (log ++ e ∷ []) e.thread l ≡ lock_depth log l - 1
depth_left log e l o h = depth_down log e l o ∙ ap (λ d. d - 1) (sym (depth_if_held log l e.thread h))
