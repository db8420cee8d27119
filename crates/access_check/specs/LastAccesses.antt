-- The last accesses of one kind to a variable, thread by thread: what a verdict reads in them, and what an
-- access makes of them.
use Rattle.std.specs.Prelude.{◌≡◌, ℕ, ◌+◌, ◌<◌, ◌≤◌, List, [], ◌∷◌, ◌++◌, Option, Some, None, Bool, nat_eq}
use Rattle.std.specs.Prelude.{nat_lt, ◌||◌, fold, if◌then◌else◌, All, slice_set}
use Rattle.std.specs.List.{list_any, position}
use Rattle.event_core.specs.declared.ids.ThreadId.{ThreadId}
use Rattle.event_core.specs.declared.bounds.TheConstants.{MOST_EVENTS}
use Rattle.access_check.specs.declared.last_accesses.LastAccess.{LastAccess}

-- an access of a log that has at most so many events, so its numbers fit 32 bits
pub record IsPackable (p : LastAccess) : Type 0 where
  pub index : p.access.index < MOST_EVENTS
  pub some : 0 < p.access.position
  pub position : p.access.position ≤ MOST_EVENTS

-- the first of the accesses, and those of further threads
abbrev pub items_of : Option LastAccess → List LastAccess → List LastAccess
items_of None rest = []
items_of (Some p) rest = p ∷ rest

-- the room beside the first, where there is room for so many further threads
abbrev pub room_of : Option LastAccess → ℕ → ℕ
room_of None further = further + 1
room_of (Some p) further = further

-- there are further ones only where there is a first
abbrev pub FollowFirst : Option LastAccess → List LastAccess → Type 0
FollowFirst None rest = rest ≡ []
FollowFirst (Some p) rest = Unit {0}

-- what contracts see of a list: the last accesses, for how many more threads there is room, and for how many
-- accesses beside the first there is memory
pub record LastList : Type 0 where
  pub items : List LastAccess
  pub room : ℕ
  pub reserved : ℕ

abbrev pub no_last_accesses : LastList
no_last_accesses = record { items = []; room = 1; reserved = 0 }

-- the access is of the thread
abbrev pub is_of : ThreadId → LastAccess → Bool
is_of t p = nat_eq p.thread.0 t.0

-- there is room for an access by the thread
abbrev pub is_ready : ThreadId → LastList → Bool
is_ready t ps = list_any (is_of t) ps.items || nat_lt 0 ps.room

-- the greater index
abbrev pub later : Option ℕ → Option ℕ → Option ℕ
later None n = n
later (Some m) None = Some m
later (Some m) (Some n) = Some (if nat_lt m n then n else m)

-- the access's index, where it is not counted
abbrev pub unless_counted : ℕ → LastAccess → Option ℕ
unless_counted count p = if nat_lt count p.access.position then Some p.access.index else None

-- the access's index, where it is of another thread than t, and the clock does not count it
abbrev pub racing : ThreadId → (ℕ → ℕ) → LastAccess → Option ℕ
racing t clock p = if is_of t p then None else unless_counted (clock p.thread.0) p

-- the latest of those, and of the one that was found before
abbrev pub latest_from : Option ℕ → ThreadId → (ℕ → ℕ) → List LastAccess → Option ℕ
latest_from found t clock ps = fold (λ (n : Option ℕ) (p : LastAccess). later n (racing t clock p)) found ps

-- the latest of those
abbrev pub latest : ThreadId → (ℕ → ℕ) → List LastAccess → Option ℕ
latest t clock ps = latest_from None t clock ps

-- an access in the place of an earlier one, or at the end
abbrev pub put_at : Option ℕ → LastAccess → List LastAccess → List LastAccess
put_at (Some i) p ps = slice_set ps i p
put_at None p ps = ps ++ p ∷ []

-- the last accesses after one more, in the place of its thread's earlier one
abbrev pub put : LastAccess → List LastAccess → List LastAccess
put p ps = put_at (position (is_of p.thread) ps) p ps

-- each thread's number is below the width of a clock
abbrev pub AreNarrow : ℕ → List LastAccess → Type 0
AreNarrow width ps = All (λ p. p.thread.0 < width) ps
