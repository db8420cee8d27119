-- The positions of the acquires of open sections, after an event.
use Rattle.std.proofs.Common.{◌≡◌, ℕ, ◌+◌, List, [], ◌∷◌, ◌++◌, refl}
use Rattle.event_core.specs.declared.events.Event.{Event}
use Rattle.event_core.specs.declared.ids.LockId.{LockId}
use Rattle.event_core.specs.Count.{events_of}
use Rattle.event_core.specs.Orderly.{Orderly}
use Rattle.event_core.specs.Effect.{Effect, Accesses, Opens, Forks, Joins, Inner}
use Rattle.event_core.proofs.EffectProperties.{Fits, accesses, opens, closes, forks, joins, again, inner}
use Rattle.event_core.proofs.OpenPositions.{ArePositions, positions_same, positions_more, positions_less}
use Rattle.event_core.proofs.OpenSections.{is_opens}
use Rattle.wcp_laws.specs.Step.{opened_after}

-- the table has the positions of the acquires that opened the open sections
pub opened_stand : (log : List Event) (e : Event) → Orderly (log ++ e ∷ []) → (k : Effect) → Fits log e k
    → (g : ℕ → ℕ) → g e.thread.0 ≡ events_of log e.thread + 1 → (f : ℕ → ℕ → ℕ) → ArePositions log f
    → ArePositions (log ++ e ∷ []) (opened_after e.thread.0 k (g e.thread.0) f)
opened_stand log e ord k fit g own f was = go k fit
  where
    same : (k : Effect) → Fits log e k → ((l : LockId) → k ≡ Opens l → ⊥) → ArePositions (log ++ e ∷ []) f
    same k fit none =
        positions_same log e ord f was (λ l o. none l (is_opens log e ord k fit l o.op o.outer))

    go : (k : Effect) → Fits log e k
        → ArePositions (log ++ e ∷ []) (opened_after e.thread.0 k (g e.thread.0) f)
    go _ (opens n o d) =
        positions_more log e ord f n (g e.thread.0) was (record { thread = refl; op = o; outer = d }) own
    go _ (closes n o d) =
        positions_less log e ord f n was (record { thread = refl; op = o; outer = d })
    go _ (accesses x j o) = same (Accesses x j) (accesses x j o) (λ l q. cc)
    go _ (forks u o) = same (Forks u) (forks u o) (λ l q. cc)
    go _ (joins u o) = same (Joins u) (joins u o) (λ l q. cc)
    go _ (again n o d) = same Inner (again n o d) (λ l q. cc)
    go _ (inner n o d) = same Inner (inner n o d) (λ l q. cc)
