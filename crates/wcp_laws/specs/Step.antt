-- What an event makes of the numbers.
use Rattle.std.specs.Prelude.{ℕ, Bool, true, false, not, ◌&&◌, ◌||◌, cond, nat_eq, nat_lt, List, [], ◌∷◌}
use Rattle.std.specs.Prelude.{◌++◌}
use Rattle.event_core.specs.declared.ids.ThreadId.{ThreadId}
use Rattle.event_core.specs.declared.ids.VarId.{VarId}
use Rattle.event_core.specs.declared.events.Event.{Event}
use Rattle.event_core.specs.declared.events.AccessKind.{AccessKind}
use Rattle.event_core.specs.declared.events.AccessKind.TheVariants.{Read, Write}
use Rattle.event_core.specs.Effect.{Effect, Accesses, Opens, Closes, effect_of}
use Rattle.event_core.specs.Rows.{no_clock, join, with_row, rows_after, brought, clock_after, depth_after}
use Rattle.event_core.specs.Closed.{Closed, below_closed}
use Rattle.wcp_laws.specs.State.{State}

-- what the event is to the clocks
abbrev pub effect : Event → State → Effect
effect e s = effect_of (s.depth e.thread.0) e.op

-- the event's happens-before clock
abbrev pub hb_row : Event → State → ℕ → ℕ
hb_row e s = clock_after e.thread (effect e s) s.hb

-- rule (a) under one lock: the clock of other threads' closed sections that have an access in conflict with
-- thread t's access of that kind
abbrev pub sources : State → VarId → AccessKind → ThreadId → ℕ → ℕ → ℕ
sources s x Read t l = s.met_clock l x.0 Write t.0
sources s x Write t l = join (s.met_clock l x.0 Read t.0) (s.met_clock l x.0 Write t.0)

-- the join of the clocks of the locks
abbrev pub join_all : (ℕ → ℕ → ℕ) → List ℕ → ℕ → ℕ
join_all f [] = no_clock
join_all f (l ∷ ls) = join (f l) (join_all f ls)

-- what the event adds to the strict clock of its thread: by rule (a) at an access, by rule (b) at a closing
-- release, and at a join or an outer acquire what that brings
abbrev pub extra : ThreadId → Effect → State → ℕ → ℕ
extra t (Accesses x k) s = join_all (sources s x k t) (s.held t.0)
extra t (Closes l) s = below_closed (s.strict.thread t.0) (s.closed l.0)
extra t k s = brought k s.strict

-- the event's strict clock; the event itself is not in it
abbrev pub strict_row : Event → State → ℕ → ℕ
strict_row e s = join (s.strict.thread e.thread.0) (extra e.thread (effect e s) s)

-- the position n of the acquire that opens a section, and 0 where it is closed
abbrev pub opened_after : ℕ → Effect → ℕ → (ℕ → ℕ → ℕ) → ℕ → ℕ → ℕ
opened_after t (Opens l) n f = with_row t (with_row l.0 n (f t)) f
opened_after t (Closes l) n f = with_row t (with_row l.0 0 (f t)) f
opened_after t _ n f = f

-- all but the lock
abbrev pub without : ℕ → List ℕ → List ℕ
without l [] = []
without l (m ∷ ms) = cond (nat_eq m l) (without l ms) (m ∷ without l ms)

-- a section's lock is held from its outer acquire to its outer release
abbrev pub held_after : ℕ → Effect → (ℕ → List ℕ) → ℕ → List ℕ
held_after t (Opens l) h = with_row t (h t ++ l.0 ∷ []) h
held_after t (Closes l) h = with_row t (without l.0 (h t)) h
held_after t _ h = h

abbrev pub kind_eq : AccessKind → AccessKind → Bool
kind_eq Read Read = true
kind_eq Write Write = true
kind_eq _ _ = false

-- an access is noted for each lock that its thread holds; a closing release forgets what was noted for its
-- lock
abbrev pub noted_after : ℕ → Effect → (ℕ → ℕ → ℕ) → (ℕ → ℕ → ℕ → AccessKind → Bool)
    → ℕ → ℕ → ℕ → AccessKind → Bool
noted_after t (Accesses x k) d f v l y j =
    f v l y j || (nat_eq v t && (nat_lt 0 (d t l) && (nat_eq y x.0 && kind_eq j k)))
noted_after t (Closes m) d f v l y j = f v l y j && not (nat_eq v t && nat_eq l m.0)
noted_after t _ d f v l y j = f v l y j

-- a closing release with the clock g joins it, for each other thread, to what has been noted for its lock
abbrev pub met_clock_after : ℕ → Effect → (ℕ → ℕ) → State → ℕ → ℕ → AccessKind → ℕ → ℕ → ℕ
met_clock_after t (Closes m) g s l x k v =
    cond (nat_eq l m.0 && (not (nat_eq v t) && s.noted t l x k))
    (join (s.met_clock l x k v) g) (s.met_clock l x k v)
met_clock_after t _ g s l x k v = s.met_clock l x k v

-- a closing release adds its section
abbrev pub closed_after : ℕ → Effect → (ℕ → ℕ) → State → ℕ → List Closed
closed_after t (Closes m) g s =
    with_row m.0 (s.closed m.0 ++ record { thread = t; position = s.opened t m.0; release = g } ∷ []) s.closed
closed_after t _ g s = s.closed

-- the step of an event
abbrev pub after : Event → State → State
after e s =
    let k : Effect = effect e s in
    let g : ℕ → ℕ = hb_row e s in
    record {
      hb = rows_after e.thread k g s.hb;
      strict = rows_after e.thread k (strict_row e s) s.strict;
      depth = depth_after e.thread.0 e.op s.depth;
      opened = opened_after e.thread.0 k (g e.thread.0) s.opened;
      held = held_after e.thread.0 k s.held;
      noted = noted_after e.thread.0 k s.depth s.noted;
      met_clock = met_clock_after e.thread.0 k g s;
      closed = closed_after e.thread.0 k g s;
    }
