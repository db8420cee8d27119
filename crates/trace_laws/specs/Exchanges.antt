-- Logs whose events were written in another order.
use Rattle.std.specs.Prelude.{◌≡◌, ℕ, zero, suc, ◌<◌, true, ◌⊎◌, ◌↔◌, List, ◌∷◌, ◌++◌, length, slice_get}
use Rattle.event_core.specs.declared.ids.ThreadId.{ThreadId}
use Rattle.event_core.specs.declared.events.Event.{Event}
use Rattle.event_core.specs.declared.events.Op.{Op}
use Rattle.event_core.specs.declared.events.Op.TheVariants.{Fork, Join}
use Rattle.event_core.specs.Log.{Conflict}
use Rattle.event_core.specs.Order.{Po, Hb}
use Rattle.event_core.specs.Wcp.{Strict}
use Rattle.event_core.specs.Verdict.{Races}
use Rattle.trace_laws.specs.Repeats.{is_access, Ordered}

-- the operation forks or joins the thread
abbrev pub Names : ThreadId → Op → Type 0
Names u o = (o ≡ Fork u) ⊎ (o ≡ Join u)

-- two events that may be exchanged where they are side by side: they are of different threads, at least one
-- is an access, and neither forks or joins the other's thread
pub record MayExchange (e f : Event) : Type 0 where
  pub threads : e.thread ≡ f.thread → ⊥
  pub access : (is_access e.op ≡ true) ⊎ (is_access f.op ≡ true)
  pub first : Names f.thread e.op → ⊥
  pub second : Names e.thread f.op → ⊥

-- where event i is, once events n and n + 1 are exchanged
unfoldable pub exchanged : ℕ → ℕ → ℕ
exchanged zero zero = suc zero
exchanged zero (suc zero) = zero
exchanged zero (suc (suc i)) = suc (suc i)
exchanged (suc n) zero = zero
exchanged (suc n) (suc i) = suc (exchanged n i)

-- the other log comes from the log by exchanges of events side by side, and event i of the log is its event
-- (to i)
pub data IsReordered (log : List Event) : List Event → (ℕ → ℕ) → Type 0 where
  same : IsReordered log log (λ i. i)
  exchange : {to : ℕ → ℕ} (before after : List Event) (e f : Event) → MayExchange e f
      → IsReordered log (before ++ e ∷ f ∷ after) to
      → IsReordered log (before ++ f ∷ e ∷ after) (λ i. exchanged (length before) (to i))

-- two events race, whichever of them comes first
abbrev pub RaceWith : List Event → ℕ → ℕ → Type 0
RaceWith log i j = Races log i j ⊎ Races log j i

-- the other log has the same events, event i at (to i), with the same relations and the same races
pub record HasSameRaces (log other : List Event) (to : ℕ → ℕ) : Type 0 where
  pub events : (i : ℕ) → slice_get other (to i) ≡ slice_get log i
  pub onto : (k : ℕ) → (i : ℕ) × (to i ≡ k)
  pub ordered : Ordered other
  pub order : (i j : ℕ) → (Po log i j ↔ Po other (to i) (to j)) × (Hb log i j ↔ Hb other (to i) (to j))
      × (Strict log i j ↔ Strict other (to i) (to j))
  pub races : (i j : ℕ) → RaceWith log i j ↔ RaceWith other (to i) (to j)

-- exchanges change no race
abbrev pub ExchangesChangeNoRace : Type 0
ExchangesChangeNoRace =
    (log other : List Event) (to : ℕ → ℕ) → Ordered log → IsReordered log other to
    → HasSameRaces log other to

-- Of conflicting accesses that have changed their order, the later races with the earlier. So before the
-- first event that races all have kept it, and this event's races are races of the other log.
abbrev pub FirstRaceStands : Type 0
FirstRaceStands =
    (log other : List Event) (to : ℕ → ℕ) → Ordered log → IsReordered log other to
    → ((i k : ℕ) → Conflict log i k → i < k → to k < to i → Races log i k)
    × ((j : ℕ) → ((i k : ℕ) → k < j → Races log i k → ⊥)
    → ((i k : ℕ) → Conflict log i k → i < k → k < j → to i < to k)
    × ((i : ℕ) → Races log i j → RaceWith other (to i) (to j)))
