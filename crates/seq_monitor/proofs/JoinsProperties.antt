-- The joins of a log, one event longer.
use Rattle.std.proofs.Common.{◌≡◌, ℕ, zero, suc, ◌+◌, ◌<◌, ◌≤◌, List, [], ◌∷◌, ◌++◌, length, Bool, true}
use Rattle.std.proofs.Common.{false, cond, nat_eq, nat_lt, ◌||◌, append_assoc, append-nil, refl}
use Rattle.std.proofs.Common.{sym, ap, subst, ◌∙◌, inl, inr, ◌⊎◌, arith}
use Rattle.std.specs.Set.{is_member}
use Rattle.std.proofs.lemmas.Cmp.{nat_eq_equiv}
use Rattle.std.proofs.lemmas.Bool.{cases_eq, eqb-true, eq-eqb, lt-ltb, or_right}
use Rattle.std.proofs.lemmas.Map.Made.{length-le_from_is_member}
use Rattle.event_core.specs.declared.bounds.Limits.{Limits}
use Rattle.event_core.specs.declared.events.Event.{Event}
use Rattle.event_core.specs.declared.events.Op.{Op}
use Rattle.event_core.specs.declared.events.Op.TheVariants.{Acquire, Release}
use Rattle.event_core.specs.declared.ids.LockId.{LockId}
use Rattle.event_core.specs.declared.ids.ThreadId.{ThreadId}
use Rattle.event_core.specs.Closed.{Has}
use Rattle.event_core.specs.Log.{depth}
use Rattle.event_core.specs.Refusal.{WellFormed, lock_at, sum_locks}
use Rattle.event_core.specs.Effect.{Effect, Opens, Closes, Inner, effect_of}
use Rattle.event_core.proofs.HolderLaw.{lock_within}
use Rattle.event_core.proofs.HasProperties.{any_has}
use Rattle.wcp_laws.specs.Step.{effect}
use Rattle.wcp_clocks.specs.Parts.{Parts, state_of, work_of, most_joins}
use Rattle.wcp_clocks.specs.Standing.{StandsFor}
use Rattle.wcp_clocks.specs.WorkWithin.{IsWorkOf}
use Rattle.seq_monitor.specs.Joins.{locks_held, joins_at, joins_from, joins_of}

-- the numbers below n that pass the test
abbrev passing : (ℕ → Bool) → ℕ → List ℕ
passing p zero = []
passing p (suc n) = cond (p n) (n ∷ passing p n) (passing p n)

-- are as many as this counts
passing_length : (p : ℕ → Bool) (n : ℕ)
    → length (passing p n) ≡ sum_locks (λ (l : LockId). cond {A = ℕ} (p l.0) 1 0) n
passing_length p zero = refl
passing_length p (suc n) = go (p n) (passing_length p n)
  where
    go : (b : Bool) → length (passing p n) ≡ sum_locks (λ (l : LockId). cond {A = ℕ} (p l.0) 1 0) n
        → length (cond b (n ∷ passing p n) (passing p n))
        ≡ sum_locks (λ (l : LockId). cond {A = ℕ} (p l.0) 1 0) n + cond {A = ℕ} b 1 0
    go true same = omega arith
    go false same = omega arith

-- and each such number is among them
passing_has : (p : ℕ → Bool) (n q : ℕ) → q < n → p q ≡ true → is_member nat_eq (passing p n) q ≡ true
passing_has p zero q lt is = absurd (omega arith)
passing_has p (suc n) q lt is = go (λ less. passing_has p n q less is) (p n) refl (cases_eq q n)
  where
    go : (q < n → is_member nat_eq (passing p n) q ≡ true) → (b : Bool) → p n ≡ b → (q ≡ n) ⊎ (q ≡ n → ⊥)
        → is_member nat_eq (cond b (n ∷ passing p n) (passing p n)) q ≡ true
    go rest true at (inl same) = ap (λ (b : Bool). b || is_member nat_eq (passing p n) q) (eq-eqb q n same)
    go rest false at (inl same) = let no : p q ≡ false = ap p same ∙ at in cc
    go rest true at (inr differs) =
        or_right (nat_eq q n) (is_member nat_eq (passing p n) q)
        (rest (let no : q ≡ n → ⊥ = differs in omega arith))
    go rest false at (inr differs) = rest (let no : q ≡ n → ⊥ = differs in omega arith)

-- the list of the locks that a thread holds is no longer than that
held_few : (m : Limits) (log : List Event) (p : Parts) (t : ThreadId) → WellFormed m log → StandsFor log p
    → length ((state_of p).held t.0) ≤ locks_held m log t
held_few m log p t w st =
    subst (λ (n : ℕ). length held ≤ n) (passing_length holds m.locks)
    (length-le_from_is_member nat_eq_equiv held (passing holds m.locks) (st.distinct t) each)
  where
    held : List ℕ
    held = (state_of p).held t.0

    holds : ℕ → Bool
    holds q = nat_lt 0 (depth log t (lock_at q))

    each : (q : ℕ) → is_member nat_eq held q ≡ true → is_member nat_eq (passing holds m.locks) q ≡ true
    each q is =
        let member = any_has (nat_eq q) held is in
        let same : q ≡ member.0 = eqb-true q member.0 member.2 in
        let has : Has q held = subst (λ (n : ℕ). Has n held) (sym same) member.1 in
        let up : 0 < depth log t (lock_at q) = (st.strict.held t (lock_at q)).0 has in
        passing_has holds m.locks q (lock_within m log t (lock_at q) w up)
        (lt-ltb 0 (depth log t (lock_at q)) up)

-- the joins of one event
at_most_three : (b : Bool) (k : Effect) (held : ℕ) → most_joins k held ≤ 3
    → most_joins (cond b k Inner) held ≤ 3
at_most_three true k held le = le
at_most_three false k held le = omega arith

event_joins : (d : ℕ → ℕ) (o : Op) (held more : ℕ) → held ≤ more → most_joins (effect_of d o) held ≤
    joins_at o more
event_joins d (Acquire l) held more few = at_most_three (nat_eq (d l.0) 0) (Opens l) held (omega arith)
event_joins d (Release l) held more few = at_most_three (nat_eq (d l.0) 1) (Closes l) held (omega arith)
event_joins d _ held more few = omega arith

-- the last event's joins are added
joins_more : (m : Limits) (past es : List Event) (e : Event)
    → joins_from m past (es ++ e ∷ [])
    ≡ joins_from m past es + joins_at e.op (locks_held m (past ++ es) e.thread)
joins_more m past [] e =
    let same : joins_at e.op (locks_held m (past ++ []) e.thread) ≡ joins_at e.op (locks_held m past e.thread)
    = ap (λ (xs : List Event). joins_at e.op (locks_held m xs e.thread)) (append-nil past) in
    omega arith
joins_more m past (x ∷ xs) e =
    let rest : joins_from m (past ++ x ∷ []) (xs ++ e ∷ [])
    ≡ joins_from m (past ++ x ∷ []) xs + joins_at e.op (locks_held m ((past ++ x ∷ []) ++ xs) e.thread)
    = joins_more m (past ++ x ∷ []) xs e in
    let same : joins_at e.op (locks_held m ((past ++ x ∷ []) ++ xs) e.thread)
    ≡ joins_at e.op (locks_held m (past ++ x ∷ xs) e.thread)
    = ap (λ (ys : List Event). joins_at e.op (locks_held m ys e.thread)) (append_assoc past (x ∷ []) xs) in
    omega arith

-- a legal event keeps the joins within their bound
pub joins_step : (m : Limits) (log : List Event) (e : Event) (old new : Parts) → WellFormed m log
    → StandsFor log old → IsWorkOf e old new → (work_of old).joins ≤ joins_of m log
    → (work_of new).joins ≤ joins_of m (log ++ e ∷ [])
joins_step m log e old new w st work was =
    let held : length ((state_of old).held e.thread.0) ≤ locks_held m log e.thread
    = held_few m log old e.thread w st in
    let here : most_joins (effect e (state_of old)) (length ((state_of old).held e.thread.0))
    ≤ joins_at e.op (locks_held m log e.thread)
    = event_joins ((state_of old).depth e.thread.0) e.op _ (locks_held m log e.thread) held in
    let added = work.joins in
    let longer : joins_of m (log ++ e ∷ []) ≡ joins_of m log + joins_at e.op (locks_held m log e.thread)
    = joins_more m [] log e in
    omega arith
