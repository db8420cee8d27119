-- The clocks that rule (a) gives an access count what the access meets.
use Rattle.std.proofs.Common.{ℕ, ◌<◌, List, [], ◌∷◌, refl, subst, ◌⊎◌}
use mathlib.Core.Logic.{inl, inr}
use Rattle.event_core.specs.declared.events.AccessKind.{AccessKind}
use Rattle.event_core.specs.declared.events.AccessKind.TheVariants.{Read, Write}
use Rattle.event_core.specs.declared.events.Event.{Event}
use Rattle.event_core.specs.declared.ids.LockId.{LockId}
use Rattle.event_core.specs.declared.ids.ThreadId.{ThreadId}
use Rattle.event_core.specs.declared.ids.VarId.{VarId}
use Rattle.event_core.specs.Closed.{Others, Has, first, later}
use Rattle.event_core.specs.Log.{depth}
use Rattle.event_core.specs.Rows.{join, Counted}
use Rattle.event_core.proofs.CountedProperties.{counted_none, counted_join, counted_same}
use Rattle.event_core.proofs.DepthProperties.{same_lock_id}
use Rattle.event_core.proofs.HasProperties.{none_in}
use Rattle.wcp_laws.specs.Standing.{StandsFor}
use Rattle.wcp_laws.specs.State.{State}
use Rattle.wcp_laws.specs.Step.{sources, join_all}
use Rattle.wcp_laws.proofs.MetAccesses.{Met}

-- under one lock
counted_met : (log : List Event) (s : State) → StandsFor log s
    → (x : VarId) (k : AccessKind) (t : ThreadId) (l : LockId)
    → Counted log (Met log x k t l) (sources s x k t l.0)
counted_met log s st x Read t l = st.others l x Write t
counted_met log s st x Write t l =
    counted_join log (Others log l x Read t) (Others log l x Write t) _ _ (st.others l x Read t)
    (st.others l x Write t)

-- what the access meets under one of the locks
abbrev Under : List Event → VarId → AccessKind → ThreadId → List ℕ → ℕ → Type 0
Under log x k t ls i = (l : LockId) × Has l.0 ls × Met log x k t l i

-- the join over a list of locks
counted_listed : (log : List Event) (s : State) → StandsFor log s
    → (x : VarId) (k : AccessKind) (t : ThreadId) (ls : List ℕ)
    → Counted log (Under log x k t ls) (join_all (sources s x k t) ls)
counted_listed log s st x k t [] = counted_none log (Under log x k t []) (λ i p. none_in p.1)
counted_listed log s st x k t (b ∷ bs) =
    let l : LockId = record { 0 = b } in
    counted_same log (λ i. Met log x k t l i ⊎ Under log x k t bs i) (Under log x k t (b ∷ bs))
    (join (sources s x k t b) (join_all (sources s x k t) bs))
    (λ i p. to i p) (λ i p. from i p.0 p.1 p.2)
    (counted_join log (Met log x k t l) (Under log x k t bs) (sources s x k t b)
    (join_all (sources s x k t) bs) (counted_met log s st x k t l) (counted_listed log s st x k t bs))
  where
    head : LockId
    head = record { 0 = b }

    to : (i : ℕ) → Met log x k t head i ⊎ Under log x k t bs i → Under log x k t (b ∷ bs) i
    to i (inl p) = (head, first b bs refl, p)
    to i (inr p) = (p.0, later b bs p.1, p.2)

    from : (i : ℕ) (l : LockId) → Has l.0 (b ∷ bs) → Met log x k t l i
        → Met log x k t head i ⊎ Under log x k t bs i
    from i l (first b bs e) m = inl (subst (λ y. Met log x k t y i) (same_lock_id e) m)
    from i l (later b bs h) m = inr (l, h, m)

-- the join over the locks that the thread holds
pub counted_under : (log : List Event) (s : State) → StandsFor log s
    → (x : VarId) (k : AccessKind) (t : ThreadId)
    → Counted log (λ i. (l : LockId) × (0 < depth log t l) × Met log x k t l i)
    (join_all (sources s x k t) (s.held t.0))
counted_under log s st x k t =
    counted_same log (Under log x k t (s.held t.0))
    (λ i. (l : LockId) × (0 < depth log t l) × Met log x k t l i)
    (join_all (sources s x k t) (s.held t.0))
    (λ i p. (p.0, (st.held t p.0).0 p.1, p.2)) (λ i p. (p.0, (st.held t p.0).1 p.1, p.2))
    (counted_listed log s st x k t (s.held t.0))
