-- Threads that are marked as reached, while they are looked for.
use Rattle.std.specs.Prelude.{◌≡◌, ℕ, ◌+◌, ◌<◌, ◌⊎◌, ◌&&◌, Option, None, Bool, true, false, List, length}
use Rattle.std.specs.Prelude.{slice_get, Some, sum_by, if◌then◌else◌}
use Rattle.std.specs.List.{slice_index_or}
use Rattle.event_core.specs.declared.ids.ThreadId.{ThreadId}
use Rattle.script_text.specs.declared.lines.ScriptLine.{ScriptLine}
use Rattle.script_text.specs.Lines.{is_of, forks, thread_of, fork_of, join_of}
use Rattle.script_text.specs.Scripts.{Reached, names_thread}

-- thread u is marked
abbrev pub is_marked : List Bool → ℕ → Bool
is_marked marks u = slice_index_or marks u false

abbrev pub cost : Bool → ℕ
cost m = if m then 0 else 1

-- how many threads are not
abbrev pub unmarked : List Bool → ℕ
unmarked marks = sum_by cost marks

-- each thread that a line names is below n
abbrev pub AreBelow : List ScriptLine → ℕ → Type 0
AreBelow lines n = (k : ℕ) (l : ScriptLine) (u : ℕ) → slice_get lines k ≡ Some l → names_thread u l ≡ true
    → u < n

-- each thread that is marked is reached
abbrev pub MarksReached : List ScriptLine → List Bool → Type 0
MarksReached lines marks = (u : ℕ) → is_marked marks u ≡ true → Reached lines u

-- marks were only set
abbrev pub Keeps : List Bool → List Bool → Type 0
Keeps old new = (u : ℕ) → is_marked old u ≡ true → is_marked new u ≡ true

-- what the line forks is marked, where its own thread is
abbrev pub IsSpread : ScriptLine → List Bool → Type 0
IsSpread l marks = (t u : ℕ) → is_of t l ≡ true → forks u l ≡ true → is_marked marks t ≡ true
    → is_marked marks u ≡ true

-- so it is for each line
abbrev pub IsClosed : List ScriptLine → List Bool → Type 0
IsClosed lines marks = (k : ℕ) (l : ScriptLine) → slice_get lines k ≡ Some l → IsSpread l marks

-- the line's own thread is marked, and now the thread that it forks is too
pub record Sets (l : ScriptLine) (old new : List Bool) : Type 0 where
  pub own : ℕ
  pub child : ℕ
  pub of : is_of own l ≡ true
  pub forks : forks child l ≡ true
  pub marked : is_marked old own ≡ true
  pub new_child : is_marked old child ≡ false
  pub within : child < length old
  pub set : (u : ℕ) → is_marked new u ≡ true → (u ≡ child) ⊎ (is_marked old u ≡ true)
  pub keeps : Keeps old new
  pub fewer : unmarked new + 1 ≡ unmarked old

abbrev pub MarksLine : ScriptLine → List Bool → List Bool → Bool → Type 0
MarksLine l old new result =
    ((result ≡ false) × (new ≡ old) × IsSpread l old) ⊎ ((result ≡ true) × Sets l old new)

-- ---- the first line that names a thread without a mark

abbrev pub none_or_marked : List Bool → Option ThreadId → Bool
none_or_marked marks None = true
none_or_marked marks (Some u) = is_marked marks u.0

-- each thread that the line names is marked
abbrev pub names_marked : List Bool → ScriptLine → Bool
names_marked marks l =
    is_marked marks (thread_of l).0 && (none_or_marked marks (fork_of l) && none_or_marked marks (join_of l))

abbrev pub AllMarked : List ScriptLine → List Bool → Type 0
AllMarked lines marks = (k : ℕ) (l : ScriptLine) → slice_get lines k ≡ Some l → names_marked marks l ≡ true

pub record IsFirstUnmarked (lines : List ScriptLine) (marks : List Bool) (n : ℕ) : Type 0 where
  pub place : ℕ
  pub line : ScriptLine
  pub at : slice_get lines place ≡ Some line
  pub number : line.line ≡ n
  pub unmarked : names_marked marks line ≡ false
  pub first : (k : ℕ) (l : ScriptLine) → k < place → slice_get lines k ≡ Some l → names_marked marks l ≡ true
