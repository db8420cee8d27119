-- The closed sections that an access meets, by their numbers on a lock, and their clocks.
use Rattle.std.specs.Prelude.{ℕ, zero, suc, ◌+◌, ◌<◌, ◌≤◌, List, [], ◌∷◌, length}
use Rattle.std.specs.Prelude.{Option, Some, None}
use Rattle.std.specs.List.{All}
use Rattle.event_core.specs.declared.events.AccessKind.{AccessKind}
use Rattle.event_core.specs.declared.events.AccessKind.TheVariants.{Read, Write}
use Rattle.event_core.specs.Closed.{Closed}
use Rattle.event_core.specs.Rows.{no_clock, join}
use Rattle.section_sum.specs.Sums.{Sums, others_of, sources_of}
use Rattle.lock_queues.specs.Sections.{closed_at}

-- of a lock, a variable, a kind and a thread: the clock of the releases that an access of the thread meets
abbrev pub Clocks : Type 0
Clocks = ℕ → ℕ → AccessKind → ℕ → ℕ → ℕ

-- the release clock of the section with the number, and zeros where the number is 0
abbrev pub release_at : List Closed → ℕ → ℕ → ℕ
release_at qs zero = no_clock
release_at qs (suc n) = (closed_at qs n).release

-- its thread
abbrev pub thread_at : List Closed → ℕ → ℕ
thread_at qs zero = 0
thread_at qs (suc n) = (closed_at qs n).thread

-- the clocks of the sections that the summaries name
abbrev pub met_clocks : Sums → (ℕ → List Closed) → Clocks
met_clocks s closed l x k t = release_at (closed l) (others_of s l x k t)

-- each number is 0 or that of a closed section on its lock
abbrev pub AreNumbers : Sums → (ℕ → List Closed) → Type 0
AreNumbers s closed = (l x : ℕ) (k : AccessKind) (t : ℕ) → others_of s l x k t ≤ length (closed l)

-- the numbers are of closed sections
abbrev pub AreClosed : List Closed → List ℕ → Type 0
AreClosed qs ns = All (λ n. (0 < n) × (n ≤ length qs)) ns

-- the clock of the sections that an access of the kind by the thread meets under the lock: a load meets the
-- stores, and a store both
abbrev pub met_under : Clocks → ℕ → AccessKind → ℕ → ℕ → ℕ → ℕ
met_under others x Read t l = others l x Write t
met_under others x Write t l = join (others l x Read t) (others l x Write t)

-- the clock f, joined with that of each section in turn
abbrev pub joined_all : List Closed → (ℕ → ℕ) → List ℕ → ℕ → ℕ
joined_all qs f [] = f
joined_all qs f (n ∷ ns) = joined_all qs (join f (release_at qs n)) ns

-- how many sections an access of the kind by the thread meets under the locks: each release is one join
abbrev pub joins_under : Sums → ℕ → AccessKind → ℕ → List ℕ → ℕ
joins_under s x k t [] = 0
joins_under s x k t (l ∷ ls) = length (sources_of s l x k t) + joins_under s x k t ls

-- and for the one that a closing release finds
abbrev pub joins_latest : Option Closed → ℕ
joins_latest None = 0
joins_latest (Some q) = 1
