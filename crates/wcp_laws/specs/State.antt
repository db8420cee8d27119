-- The numbers that the clocks keep, as functions of the numbers of threads, locks and variables.
use Rattle.std.specs.Prelude.{ℕ, Bool, false, List, []}
use Rattle.event_core.specs.declared.events.AccessKind.{AccessKind}
use Rattle.event_core.specs.Rows.{Rows, no_rows}
use Rattle.event_core.specs.Closed.{Closed}

pub record State : Type 0 where
  -- the rows of happens-before, and of the strict relation of weak causal precedence
  pub hb : Rows
  pub strict : Rows
  -- of a thread and a lock: how often it is held
  pub depth : ℕ → ℕ → ℕ
  -- of a thread and a lock: the position of the acquire of the open section, 0 where none is open
  pub opened : ℕ → ℕ → ℕ
  -- the locks that a thread holds, in the order of their outer acquires
  pub held : ℕ → List ℕ
  -- of a thread, a lock, a variable and a kind: whether the open section has such an access
  pub noted : ℕ → ℕ → ℕ → AccessKind → Bool
  -- of a lock, a variable, a kind and a thread: the clock of the closed sections of other threads that have
  -- such an access
  pub met_clock : ℕ → ℕ → AccessKind → ℕ → ℕ → ℕ
  -- of a lock: its closed sections, in the order of their releases
  pub closed : ℕ → List Closed

-- that of the empty log
abbrev pub empty : State
empty = record {
  hb = no_rows;
  strict = no_rows;
  depth = λ _ _. 0;
  opened = λ _ _. 0;
  held = λ _. [];
  noted = λ _ _ _ _. false;
  met_clock = λ _ _ _ _ _. 0;
  closed = λ _. [];
}
