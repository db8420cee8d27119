-- The releases that an access meets under a lock, and what their clocks count together.
use Rattle.std.specs.Prelude.{ℕ, ◌≡◌, ◌≤◌, ◌⊎◌, List, [], ◌∷◌, length, map, Option, IfSome}
use Rattle.std.specs.Iterator.{YieldsFirstBy}
use Rattle.event_core.specs.declared.ids.ThreadId.{ThreadId}
use Rattle.event_core.specs.declared.ids.LockId.{LockId}
use Rattle.event_core.specs.declared.ids.VarId.{VarId}
use Rattle.event_core.specs.declared.events.Event.{Event}
use Rattle.event_core.specs.declared.events.AccessKind.{AccessKind}
use Rattle.event_core.specs.declared.events.AccessKind.TheVariants.{Read, Write}
use Rattle.event_core.specs.Closed.{Closed, Others}
use Rattle.event_core.specs.Rows.{no_clock, join}
use Rattle.hb_clocks.specs.declared.release.ReleaseClock.{ReleaseClock}
use Rattle.hb_clocks.specs.Released.{thread_of, before_of, clock_of}
use Rattle.lock_queues.specs.Queues.{closed_of}
use Rattle.section_sum.specs.Sources.{left}
use Rattle.wcp_clocks.specs.Met.{release_at, thread_at}
use Rattle.wcp_clocks.specs.declared.source_clocks.SourceClocks.{SourceClocks}

-- a release: its thread and its clock
pub record Released : Type 0 where
  pub thread : ℕ
  pub clock : ℕ → ℕ

abbrev pub released : ReleaseClock → Released
released r = record { thread = (thread_of r).0; clock = clock_of r }

-- that of the section with the number
abbrev pub released_at : List Closed → ℕ → Released
released_at qs n = record { thread = thread_at qs n; clock = release_at qs n }

-- the releases that are left to yield
unfoldable pub rest : SourceClocks → List Released
rest s = map (released_at (closed_of s.queues.now s.lock.0)) (left s.numbers)

-- of how many threads their clocks have numbers at most
unfoldable pub most_threads : SourceClocks → ℕ
most_threads s = s.queues.now.limits.threads

-- a call yields the first of the releases that are left
pub record Yields (old : SourceClocks) (result : Option ReleaseClock) (new : SourceClocks) : Type 0 where
  pub first : YieldsFirstBy released rest old result new
  pub within : IfSome result (λ r. length (before_of r) ≤ most_threads old)
  pub threads : most_threads new ≡ most_threads old

-- the clocks of the releases together: of each thread the greatest number
abbrev pub together : List Released → ℕ → ℕ
together [] = no_clock
together (r ∷ rs) = join r.clock (together rs)

-- i is below the release of another thread's section on the lock with an access in conflict with one of
-- the kind
abbrev pub IsBelowSource : List Event → LockId → VarId → AccessKind → ThreadId → ℕ → Type 0
IsBelowSource log l x Read t i = Others log l x Write t i
IsBelowSource log l x Write t i = Others log l x Read t i ⊎ Others log l x Write t i
