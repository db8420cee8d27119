-- The events of a thread and its forks: what its past goes out from.
use Rattle.std.proofs.Common.{ℕ, ◌<◌, List, [], ◌∷◌, ◌++◌, length, ◌⊎◌, inl, inr}
use Rattle.std.proofs.lemmas.Bool.{cases_lt}
use Rattle.std.proofs.lemmas.Option.{slice_get_within}
use Rattle.event_core.proofs.Words.{ThreadId, Event, Fork}
use Rattle.event_core.specs.Count.{Counts, Past}
use Rattle.event_core.specs.Log.{Does, Of}
use Rattle.event_core.specs.Order.{Po, fork_to_event}
use Rattle.event_core.specs.Orderly.{Orderly}
use Rattle.event_core.specs.Wcp.{Strict}
use Rattle.event_core.proofs.OrderProperties.{chain_one, po_thread}
use Rattle.event_core.proofs.CountsProperties.{counts_same}
use Rattle.event_core.proofs.RelationsStay.{longer, back, of, does, strict_too}

-- what a thread's past goes out from: its own events and its forks
abbrev pub Source : List Event → ThreadId → ℕ → Type 0
Source log t g = Of log g t ⊎ ((v : ThreadId) × Does log g v (Fork t))

-- such an event is in the log
pub source_within : (log : List Event) (t : ThreadId) (g : ℕ) → Source log t g → g < length log
source_within log t g (inl o) = slice_get_within log g o.event o.at
source_within log t g (inr d) = slice_get_within log g d.1.event d.1.at

-- in the log and in the longer one
module _ (log : List Event) (e : Event) where
  -- among the old events, a source after the new event was one before
  pub old_source : (t : ThreadId) (g : ℕ) → g < length log → Source (log ++ e ∷ []) t g → Source log t g
  old_source t g lt (inl o) = inl (of (back (longer log (e ∷ []))) lt o)
  old_source t g lt (inr d) = inr (d.0, does (back (longer log (e ∷ []))) lt d.1)

  -- a source of the log stays one after the new event
  pub new_source : (t : ThreadId) (g : ℕ) → g < length log → Source log t g → Source (log ++ e ∷ []) t g
  new_source t g lt (inl o) = inl (of (longer log (e ∷ [])) lt o)
  new_source t g lt (inr d) = inr (d.0, does (longer log (e ∷ [])) lt d.1)

-- a thread's past is in its past of the longer log
pub past_longer : (log : List Event) (e : Event) (t : ThreadId) (i : ℕ) → Past log (Strict log) t i
    → Past (log ++ e ∷ []) (Strict (log ++ e ∷ [])) t i
past_longer log e t i p =
    let lt = source_within log t p.0 p.1 in
    (p.0, new_source log e t p.0 lt p.1, strict_too (longer log (e ∷ [])) lt p.2)

-- what is below a thread's events is below its latest one, where the relation goes on along program order
pub past_latest : (log : List Event) (R : ℕ → ℕ → Type 0) (t u : ThreadId) (j n : ℕ) → Orderly log
    → ((i g : ℕ) → R i g → Po log g j → R i j) → Of log j t → ((k : ℕ) → j < k → Of log k t → ⊥)
    → Counts log u (Past log R t) n → Counts log u (λ i. R i j) n
past_latest log R t u j n ord on o last is =
    counts_same log u (Past log R t) (λ i. R i j) n
    (λ i of_i. (λ p. to i p.0 p.1 p.2, λ d. (j, inl o, d))) is
  where
    to : (i g : ℕ) → Source log t g → R i g → R i j
    to i g (inl a) d = elim (cases_lt j g) [
      | inl lt ↦ absurd (last g lt a)
      | inr le ↦ on i g d (po_thread t a o le)
    ]
    to i g (inr a) d =
        on i g d (chain_one (fork_to_event t a.0 (ord.fork_first g j t a.0 a.1 o) a.1 o))
