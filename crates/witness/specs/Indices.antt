-- Lists of events of a log, by their indices: the events, and the last store to a variable.
use Rattle.std.specs.Prelude.{ℕ, zero, suc, Bool, false, List, [], ◌∷◌, ◌++◌, Option, Some, None, slice_get}
use Rattle.std.specs.Prelude.{if◌then◌else◌}
use Rattle.event_core.specs.declared.ids.VarId.{VarId}
use Rattle.event_core.specs.declared.events.Event.{Event}
use Rattle.event_core.specs.Refusal.{op_stores}

-- the indices below n, in order
unfoldable pub below : ℕ → List ℕ
below zero = []
below (suc n) = below n ++ n ∷ []

-- the event, if there is one, before these
abbrev pub with_event : Option Event → List Event → List Event
with_event None es = es
with_event (Some e) es = e ∷ es

-- the log's events at the indices
unfoldable pub events_at : List Event → List ℕ → List Event
events_at log [] = []
events_at log (k ∷ ks) = with_event (slice_get log k) (events_at log ks)

-- whether the event, if there is one, is a store to the variable
abbrev pub stores_to : VarId → Option Event → Bool
stores_to x None = false
stores_to x (Some e) = op_stores x e.op

-- the last of the indices at which the log has a store to the variable; where there is none, `before`
abbrev pub last_store_from : Option ℕ → List Event → VarId → List ℕ → Option ℕ
last_store_from before log x [] = before
last_store_from before log x (k ∷ ks) =
    last_store_from (if stores_to x (slice_get log k) then Some k else before) log x ks

-- the last of the indices at which the log has a store to the variable, if there is one
unfoldable pub last_store : List Event → VarId → List ℕ → Option ℕ
last_store log x ks = last_store_from None log x ks
