-- What was found counted stays counted.
use Rattle.std.proofs.Common.{◌≡◌, ℕ, ◌≤◌, cond, List, [], ◌∷◌, ◌++◌, Bool, true, false, sym, ap, subst}
use Rattle.std.proofs.Common.{arith, ◌⊎◌, inl, inr}
use Rattle.std.proofs.lemmas.Bool.{cases_Bool, leb-true, le-leb}
use Rattle.event_core.specs.declared.bounds.Limits.{Limits}
use Rattle.event_core.specs.declared.events.Event.{Event}
use Rattle.event_core.specs.declared.ids.LockId.{LockId}
use Rattle.event_core.specs.declared.ids.ThreadId.{ThreadId}
use Rattle.event_core.specs.Closed.{Closed, is_counted, number_counted}
use Rattle.event_core.specs.Refusal.{WellFormed}
use Rattle.event_core.specs.Rows.{with_row}
use Rattle.event_core.specs.Effect.{Effect, Closes}
use Rattle.event_core.proofs.DepthProperties.{lock_cases, same_lock_id, same_thread_id}
use Rattle.event_core.proofs.RowsAfterProperties.{row_same, row_other, cell_same, cell_other}
use Rattle.wcp_laws.specs.Conditions.{CursorsStand, found_at}
use Rattle.wcp_laws.specs.Standing.{StandsFor}
use Rattle.wcp_laws.specs.State.{State}
use Rattle.wcp_laws.specs.Step.{effect, hb_row, after, closed_after}
use Rattle.event_core.proofs.HeldDepths.{cell_cases}
use Rattle.wcp_laws.proofs.ConditionsProperties.{strict_grows}

-- a higher clock counts at least as many sections
number_up : (c d : ℕ → ℕ) (qs : List Closed) → ((u : ThreadId) → c u.0 ≤ d u.0)
    → number_counted c qs ≤ number_counted d qs
number_up c d [] le = omega arith
number_up c d (q ∷ qs) le =
    let rest : number_counted c qs ≤ number_counted d qs = number_up c d qs le in
    let head : cond {A = ℕ} (is_counted c q) 1 0 ≤ cond {A = ℕ} (is_counted d q) 1 0
    = go (cases_Bool (is_counted c q)) in
    omega arith
  where
    one_if : Bool → ℕ
    one_if b = cond b 1 0

    go : (is_counted c q ≡ true) ⊎ (is_counted c q ≡ false)
        → one_if (is_counted c q) ≤ one_if (is_counted d q)
    go (inl yes_c) =
        let below : q.position ≤ c q.thread = leb-true q.position (c q.thread) yes_c in
        let up : c q.thread ≤ d q.thread = le (record { 0 = q.thread }) in
        let yes_d : is_counted d q ≡ true = le-leb q.position (d q.thread) (omega arith) in
        let one_c : one_if (is_counted c q) ≡ 1 = ap one_if yes_c in
        let one_d : one_if (is_counted d q) ≡ 1 = ap one_if yes_d in
        omega arith
    go (inr no_c) =
        let none : one_if (is_counted c q) ≡ 0 = ap one_if no_c in
        omega arith

-- a longer list has at least as many
number_longer : (c : ℕ → ℕ) (qs rs : List Closed) → number_counted c qs ≤ number_counted c (qs ++ rs)
number_longer c [] rs = omega arith
number_longer c (q ∷ qs) rs =
    let rest : number_counted c qs ≤ number_counted c (qs ++ rs) = number_longer c qs rs in
    omega arith

-- an event takes no closed section away
number_after : (c : ℕ → ℕ) (t : ℕ) (k : Effect) (g : ℕ → ℕ) (s : State) (l : LockId)
    → number_counted c (s.closed l.0) ≤ number_counted c (closed_after t k g s l.0)
number_after c t (Closes n) g s l = go (lock_cases n l)
  where
    entry : Closed
    entry = record { thread = t; position = s.opened t n.0; release = g }

    longer : List Closed
    longer = s.closed n.0 ++ entry ∷ []

    go : (n ≡ l) ⊎ (n ≡ l → ⊥)
        → number_counted c (s.closed l.0) ≤ number_counted c (with_row n.0 longer s.closed l.0)
    go (inl same) =
        subst (λ (y : LockId).
        number_counted c (s.closed y.0) ≤ number_counted c (with_row n.0 longer s.closed y.0)) same
        (subst (λ qs. number_counted c (s.closed n.0) ≤ number_counted c qs)
        (sym (row_same n.0 longer s.closed)) (number_longer c (s.closed n.0) (entry ∷ [])))
    go (inr other) =
        subst (λ qs. number_counted c (s.closed l.0) ≤ number_counted c qs)
        (sym (row_other n.0 longer s.closed l.0 (λ q. other (same_lock_id (sym q))))) (omega arith)
number_after c t _ g s l = omega arith

-- what an event finds counted is so before it
found_stands : (t : ThreadId) (k : Effect) (s : State) (f : ℕ → ℕ → ℕ) → CursorsStand s f
    → CursorsStand s (found_at t k s f)
found_stands t (Closes n) s f stand l u = go (cell_cases t u n l)
  where
    new : ℕ → ℕ → ℕ
    new = found_at t (Closes n) s f

    number : ℕ → ℕ → ℕ
    number a b = number_counted (s.strict.thread b) (s.closed a)

    go : ((t ≡ u) × (n ≡ l)) ⊎ (t ≡ u → n ≡ l → ⊥) → new l.0 u.0 ≤ number l.0 u.0
    go (inl same) =
        let at : new n.0 t.0 ≡ number n.0 t.0 = cell_same n.0 t.0 (number n.0 t.0) f in
        subst (λ (v : ThreadId). new l.0 v.0 ≤ number l.0 v.0) same.0
        (subst (λ (y : LockId). new y.0 t.0 ≤ number y.0 t.0) same.1 (omega arith))
    go (inr other) =
        let kept : new l.0 u.0 ≡ f l.0 u.0
        = cell_other n.0 t.0 (number n.0 t.0) f l.0 u.0
        (λ p q. other (same_thread_id (sym q)) (same_lock_id (sym p))) in
        let old : f l.0 u.0 ≤ number l.0 u.0 = stand l u in
        omega arith
found_stands t _ s f stand l u = stand l u

-- what was found counted stays so
pub cursors_step : (limits : Limits) (log : List Event) (e : Event) (s : State) (f : ℕ → ℕ → ℕ)
    → WellFormed limits (log ++ e ∷ []) → StandsFor log s → CursorsStand s f
    → CursorsStand (after e s) (found_at e.thread (effect e s) s f)
cursors_step limits log e s f w st stand l t =
    let found : found_at e.thread (effect e s) s f l.0 t.0
    ≤ number_counted (s.strict.thread t.0) (s.closed l.0)
    = found_stands e.thread (effect e s) s f stand l t in
    let up : number_counted (s.strict.thread t.0) (s.closed l.0)
    ≤ number_counted ((after e s).strict.thread t.0) (s.closed l.0)
    = number_up (s.strict.thread t.0) ((after e s).strict.thread t.0) (s.closed l.0)
    (λ u. strict_grows limits log e s t u w st) in
    let more : number_counted ((after e s).strict.thread t.0) (s.closed l.0)
    ≤ number_counted ((after e s).strict.thread t.0) (closed_after e.thread.0 (effect e s) (hb_row e s) s l.0)
    = number_after ((after e s).strict.thread t.0) e.thread.0 (effect e s) (hb_row e s) s l in
    omega arith
