-- Noting an event makes the tables stand for the log with it.
use Rattle.std.proofs.Common.{◌≡◌, ℕ, ◌+◌, List, [], ◌∷◌, ◌++◌, Bool, true, false, cond, nat_eq, length, refl}
use Rattle.std.proofs.Common.{sym, ap, subst, ◌∙◌, ◌⊎◌}
use Rattle.std.proofs.lemmas.Bool.{eqb-true}
use mathlib.Core.Logic.{inl, inr}
use Rattle.event_core.specs.declared.ids.ThreadId.{ThreadId}
use Rattle.event_core.specs.declared.ids.VarId.{VarId}
use Rattle.event_core.specs.declared.bounds.Limits.{Limits}
use Rattle.event_core.specs.declared.events.Event.{Event}
use Rattle.event_core.specs.declared.events.Op.{Op}
use Rattle.event_core.specs.declared.events.Op.TheVariants.{Load, Store}
use Rattle.event_core.specs.declared.events.AccessKind.{AccessKind}
use Rattle.event_core.specs.declared.events.AccessKind.TheVariants.{Read, Write}
use Rattle.event_core.specs.declared.replies.Verdict.{Verdict}
use Rattle.event_core.specs.declared.replies.Verdict.TheVariants.{Clear, Racy}
use Rattle.event_core.specs.Count.{events_of}
use Rattle.event_core.specs.Effect.{access_of}
use Rattle.event_core.specs.Refusal.{WellFormed}
use Rattle.event_core.specs.Verdict.{IsVerdict}
use Rattle.event_core.proofs.Accesses.{access_one}
use Rattle.event_core.proofs.ConflictProperties.{IsAccess, access_is}
use Rattle.event_core.proofs.CountedProperties.{nat_eq_same, nat_eq_other, events_own, events_other}
use Rattle.event_core.proofs.DepthProperties.{thread_cases, same_thread_id}
use Rattle.access_check.specs.declared.last_accesses.Access.{Access}
use Rattle.access_check.specs.declared.variable_accesses.VariableAccesses.{VariableAccesses}
use Rattle.access_check.specs.VariableAccesses.{kept, kept_after}
use Rattle.access_check.specs.Tables.{AccessTables, count_at, last_of, accesses_after, Notes}
use Rattle.access_check.specs.Standing.{VariableStands, StandsFor}
use Rattle.access_check.proofs.VariableStandsProperties.{untouched, put_stands, alone_stands}

-- the variable's accesses with the access
touched : (log : List Event) (e : Event) (x : VarId) (k : AccessKind) (v : Verdict) (a : Access)
    → e.op ≡ access_of x k → a.index ≡ length log → a.position ≡ events_of log e.thread + 1
    → (old ts : VariableAccesses) → ((m : AccessKind)
    → kept m ts ≡ kept_after v k (last_of e.thread a) m old)
    → IsVerdict (log ++ e ∷ []) (length log) v → VariableStands log x old
    → VariableStands (log ++ e ∷ []) x ts
touched log e x Read v a op at position old ts is verdict s =
    put_stands log e x Read a op at position old ts s (is Read) others
  where
    others : (m : AccessKind) → (Read ≡ m → ⊥) → kept m ts ≡ kept m old
    others Read ne = absurd (ne refl)
    others Write ne = is Write
touched log e x Write (Racy i) a op at position old ts is verdict s =
    put_stands log e x Write a op at position old ts s (is Write) others
  where
    others : (m : AccessKind) → (Write ≡ m → ⊥) → kept m ts ≡ kept m old
    others Read ne = is Read
    others Write ne = absurd (ne refl)
touched log e x Write Clear a op at position old ts is verdict s =
    alone_stands log e x Write a op at position old ts s refl (is Read) (is Write) verdict

-- each variable's accesses after the event
accesses_stand : (log : List Event) (e : Event) (o : Op) (v : Verdict) (a : Access) (x : VarId)
    (old ts : VariableAccesses) → e.op ≡ o → a.index ≡ length log → a.position ≡ events_of log e.thread + 1
    → ((m : AccessKind) → kept m ts ≡ accesses_after v e.thread o a x.0 m old)
    → IsVerdict (log ++ e ∷ []) (length log) v → VariableStands log x old
    → VariableStands (log ++ e ∷ []) x ts
accesses_stand log e o v a x old ts op at position is verdict s = go o op is
  where
    by_var : (k : AccessKind) (y : VarId) → e.op ≡ access_of y k → (b : Bool) → nat_eq x.0 y.0 ≡ b
        → ((m : AccessKind) → kept m ts ≡ cond b (kept_after v k (last_of e.thread a) m old) (kept m old))
        → VariableStands (log ++ e ∷ []) x ts
    by_var k y q true same is =
        let x_is_y : x ≡ y = var_id (eqb-true x.0 y.0 same) in
        touched log e x k v a (q ∙ ap (λ z. access_of z k) (sym x_is_y)) at position old ts is verdict s
      where
        var_id : x.0 ≡ y.0 → x ≡ y
        var_id q = λ i. record { 0 = q i }
    by_var k y q false same is = untouched log e x old ts is none s
      where
        none : (m : AccessKind) → e.op ≡ access_of x m → ⊥
        none m r =
            let y_is_x : y ≡ x = (access_one y x k m (sym q ∙ r)).0 in
            let there : nat_eq x.0 y.0 ≡ true
            = ap (λ (z : VarId). nat_eq x.0 z.0) y_is_x ∙ nat_eq_same x.0 in
            let clash : true ≡ false = sym there ∙ same in cc

    go : (o : Op) → e.op ≡ o → ((m : AccessKind) → kept m ts ≡ accesses_after v e.thread o a x.0 m old)
        → VariableStands (log ++ e ∷ []) x ts
    go (Load y) q is = by_var Read y q (nat_eq x.0 y.0) refl is
    go (Store y) q is = by_var Write y q (nat_eq x.0 y.0) refl is
    go _ q is = untouched log e x old ts is (λ m r. subst IsAccess (sym r ∙ q) (access_is x m)) s

-- a thread's count after the event
counts_stand : (log : List Event) (e : Event) (u : ThreadId) (n m : ℕ) → n ≡ events_of log u
    → m ≡ events_of log e.thread
    → cond (nat_eq u.0 e.thread.0) (n + 1) n ≡ events_of (log ++ e ∷ []) u
counts_stand log e u n m is own = go (thread_cases e.thread u)
  where
    go : (e.thread ≡ u) ⊎ (e.thread ≡ u → ⊥) → cond (nat_eq u.0 e.thread.0) (n + 1) n ≡ events_of
        (log ++ e ∷ []) u
    go (inl same) = ap (λ (b : Bool). cond b (n + 1) n) (ap (λ (v : ThreadId). nat_eq u.0 v.0) same
        ∙ nat_eq_same u.0)
        ∙ (ap (λ k. k + 1) is ∙ (ap (λ v. events_of log v + 1) (sym same) ∙ (sym (events_own log e)
        ∙ ap (λ v. events_of (log ++ e ∷ []) v) same)))
    go (inr other) = ap (λ (b : Bool). cond b (n + 1) n) (nat_eq_other u.0 e.thread.0 (λ q. other
        (same_thread_id (sym q))))
        ∙ (is ∙ sym (events_other log e u other))

-- noting an event keeps the tables standing for the log
pub note_stands : (before after : AccessTables) (log : List Event) (e : Event) (index : ℕ) (v : Verdict)
    → Notes before after e index v → StandsFor log before → index ≡ length log
    → WellFormed before.limits (log ++ e ∷ []) → IsVerdict (log ++ e ∷ []) (length log) v
    → StandsFor (log ++ e ∷ []) after
note_stands before after log e index v n s at well verdict = record {
  well_formed = subst (λ (m : Limits). WellFormed m (log ++ e ∷ [])) (sym n.limits) well;
  counts = λ u. n.counts u.0 ∙ counts_stand log e u _ _ (s.counts u) (s.counts e.thread);
  accesses = λ x. accesses_stand log e e.op v
      (record { index = index; position = count_at before.counts e.thread.0 + 1 }) x _ _ refl at
      (ap (λ k. k + 1) (s.counts e.thread)) (n.accesses x.0) verdict (s.accesses x);
}
