-- What a memory means: what was done to each thread, who holds which lock, and what the variables have.
use Rattle.std.specs.Prelude.{ℕ, Bool, false, List, [], Option, None}
use Rattle.event_core.specs.declared.ids.ThreadId.{ThreadId}
use Rattle.event_core.specs.declared.ids.LockId.{LockId}

-- a thread: whether it was forked, joined, or had to do with any event, and the locks that it holds
pub record Thread : Type 0 where
  pub forked : Bool
  pub joined : Bool
  pub mentioned : Bool
  pub held : List LockId

-- a lock: who holds it, and how often
pub record Lock : Type 0 where
  pub holder : Option ThreadId
  pub depth : ℕ

-- how many events there were, how many acquires are still to be released, and each thread, lock and variable
pub record Meaning : Type 0 where
  pub length : ℕ
  pub holds : ℕ
  pub thread : ℕ → Thread
  pub lock : ℕ → Lock
  pub cell : ℕ → ℕ

abbrev pub unmentioned : Thread
unmentioned = record { forked = false; joined = false; mentioned = false; held = [] }

abbrev pub free : Lock
free = record { holder = None; depth = 0 }

-- before any event
abbrev pub nothing : Meaning
nothing = record { length = 0; holds = 0; thread = λ _. unmentioned; lock = λ _. free; cell = λ _. 0 }
