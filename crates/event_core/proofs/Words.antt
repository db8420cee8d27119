-- The words of events, limits and replies under one name, for proofs.
pub use Rattle.event_core.specs.declared.ids.ThreadId.{ThreadId}
pub use Rattle.event_core.specs.declared.ids.LockId.{LockId}
pub use Rattle.event_core.specs.declared.ids.VarId.{VarId}
pub use Rattle.event_core.specs.declared.ids.SiteId.{SiteId}
pub use Rattle.event_core.specs.declared.events.Event.{Event}
pub use Rattle.event_core.specs.declared.events.Call.{Call}
pub use Rattle.event_core.specs.declared.events.Op.{Op}
pub use Rattle.event_core.specs.declared.events.Op.TheVariants.{Load, Store, Acquire, Release, Fork, Join}
pub use Rattle.event_core.specs.declared.events.AccessKind.{AccessKind}
pub use Rattle.event_core.specs.declared.events.AccessKind.TheVariants.{Read, Write}
pub use Rattle.event_core.specs.declared.bounds.Limits.{Limits}
pub use Rattle.event_core.specs.declared.bounds.Roots.{Roots}
pub use Rattle.event_core.specs.declared.bounds.Roots.TheVariants.{OnlyMain, Free}
pub use Rattle.event_core.specs.declared.replies.Refusal.{Refusal}
pub use Rattle.event_core.specs.declared.replies.Refusal.TheVariants.{ThreadRange, NotStarted, Ended}
pub use Rattle.event_core.specs.declared.replies.Refusal.TheVariants.{TargetRange, Held, NotHolder}
pub use Rattle.event_core.specs.declared.replies.Refusal.TheVariants.{SelfTarget, AlreadyStarted}
pub use Rattle.event_core.specs.declared.replies.Refusal.TheVariants.{TargetNotStarted, LogFull}
pub use Rattle.event_core.specs.declared.replies.Verdict.{Verdict}
pub use Rattle.event_core.specs.declared.replies.Verdict.TheVariants.{Clear, Racy}
