-- What contracts see of a section, and what its beginning and its end make of its thread's handle.
use Rattle.std.specs.Prelude.{◌≡◌, ◌⊎◌, true, Some}
use Rattle.std.specs.List.{list_any}
use Rattle.std.specs.Borrow.{GName, MutBor}
use Rattle.event_core.specs.declared.ids.LockId.{LockId}
use Rattle.event_core.specs.declared.ids.SiteId.{SiteId}
use Rattle.event_core.specs.declared.ids.ThreadId.{ThreadId}
use Rattle.event_core.specs.declared.bounds.Limits.{Limits}
use Rattle.event_core.specs.declared.replies.Refusal.{Refusal}
use Rattle.event_core.specs.declared.replies.Reply.{Reply}
use Rattle.event_core.specs.declared.replies.Refusal.TheVariants.{Ended}
use Rattle.event_core.specs.Refusal.{refusal, holder, joins}
use Rattle.event_core.specs.Steps.{log_of}
use Rattle.log_pass.specs.declared.views.PassView.{PassView}
use Rattle.log_pass.specs.Passes.{IsPass}
use Rattle.live_monitor.specs.Calls.{acquire_by, release_by, Accepted, Declined, HasComeTo}
use Rattle.traced_thread.specs.declared.sections.Section.{Section}

module _ {N R : Type 0} where
  -- the lock that the section holds
  abbrev pub lock_of : Section N R → LockId
  lock_of s = s.lock

  -- the site of its acquire and of its release
  abbrev pub site_of : Section N R → SiteId
  site_of s = s.site

  -- the handle that it has borrowed, as a reference
  abbrev pub handle_of : Section N R → GName
  handle_of s = s.thread.ghost_name

  -- that handle's pass
  abbrev pub pass_of : Section N R → PassView
  pass_of s = s.thread.now

  -- whose section it is
  abbrev pub thread_of : Section N R → ThreadId
  thread_of s = s.thread.now.thread

  -- it is a section of the lock, by an acquire at the site
  abbrev pub IsSectionOf : LockId → SiteId → Section N R → Type 0
  IsSectionOf l site s = (lock_of s ≡ l) × (site_of s ≡ site)

  -- the pass's thread began it as a section of the lock: the acquire at the site was accepted
  pub record HasBegun (m : Limits) (l : LockId) (site : SiteId) (before : PassView) (s : Section N R)
      : Type 0 where
    pub is : IsSectionOf l site s
    pub later : HasComeTo m before (pass_of s)
    pub reply : Reply
    pub accepted : Accepted m (acquire_by before.thread l site) before (pass_of s) reply

-- what a section that ended leaves of its handle
abbrev pub left_of : {A B : Type 0} → A × (MutBor PassView × B) → PassView
left_of x = x.1.0.now

-- the pass has come to what it then was, and the acquire of the lock was not accepted
pub record IsRefused (m : Limits) (l : LockId) (site : SiteId) (before after : PassView) (answer : Refusal)
    : Type 0 where
  pub later : HasComeTo m before after
  pub declined : Declined m (acquire_by before.thread l site) before after answer

-- the acquire was not accepted, for this reason, after what the handle had then seen
abbrev pub WasRefused : Limits → LockId → SiteId → PassView → Refusal → Type 0
WasRefused m l site before answer = (after : PassView) × IsRefused m l site before after answer

-- the pass's thread holds the lock, by all that the pass has seen
pub record HoldsLock (m : Limits) (l : LockId) (p : PassView) : Type 0 where
  pub is_pass : IsPass m p
  pub holder : holder (log_of p.seen) l ≡ Some p.thread

-- the thread is refused since it was joined
pub record HasEnded (t : ThreadId) (after : PassView) (refused : Refusal) : Type 0 where
  pub answer : refused ≡ Ended
  pub joined : list_any (joins t) (log_of after.seen) ≡ true

-- The release of the lock is refused after all that the handle has then seen, and nothing was added. Where
-- the thread held the lock, it has been joined.
pub record IsNotReleased (m : Limits) (l : LockId) (site : SiteId) (before after : PassView) : Type 0 where
  pub mine : after.mine ≡ before.mine
  pub answer : Refusal
  pub why : refusal m (log_of after.seen) (release_by before.thread l site) ≡ Some answer
  pub ended : HoldsLock m l before → HasEnded before.thread after answer

-- the release of the lock was accepted, or is refused by what was logged
abbrev pub IsReleased : Limits → LockId → SiteId → PassView → PassView → Type 0
IsReleased m l site before after =
    ((reply : Reply) × Accepted m (release_by before.thread l site) before after reply)
    ⊎ IsNotReleased m l site before after
