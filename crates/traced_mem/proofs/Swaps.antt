-- A swap that is allowed: its load is, and after that its store.
use Rattle.std.proofs.Common.{◌≡◌, ℕ, ◌+◌, ◌≤◌, ◌==◌, Bool, true, false, cond, [], ◌∷◌, Option, Some}
use Rattle.std.proofs.Common.{None, not, nat_eq, ◌||◌, ap, refl, sym, subst, Result, OnOk, ◌∙◌, arith}
use Rattle.std.proofs.lemmas.Bool.{le-leb}
use Rattle.event_core.specs.declared.ids.ThreadId.{ThreadId}
use Rattle.event_core.specs.declared.ids.VarId.{VarId}
use Rattle.event_core.specs.declared.bounds.Limits.{Limits}
use Rattle.event_core.specs.declared.bounds.Roots.{Roots}
use Rattle.event_core.specs.declared.bounds.Roots.TheVariants.{OnlyMain, Free}
use Rattle.event_core.specs.declared.replies.Refusal.{Refusal}
use Rattle.event_core.specs.declared.replies.Refusal.TheVariants.{NotStarted, Ended, LogFull}
use Rattle.event_core.specs.declared.events.Op.TheVariants.{Load, Store}
use Rattle.event_core.specs.Refusal.{first_of, when}
use Rattle.event_core.proofs.OrderlyProperties.{AllNone, all_none, when_none}
use Rattle.traced_mem.specs.Meaning.{Meaning, Thread}
use Rattle.traced_mem.specs.Refusals.{answer, refusal_at, swap_refusal_at, swap_reasons_at}
use Rattle.traced_mem.specs.Refusals.{forked_at, full_at}
use Rattle.traced_mem.specs.After.{after, mentioned_again}
use Rattle.traced_mem.proofs.AllowsProperties.{room}

-- there are n slots
fits : (k : Limits) (m : Meaning) (n : ℕ) → m.length + m.holds + n ≤ k.events → full_at k m n ≡ None
fits k m n h = ap (λ b. when (not b) LogFull) (le-leb (m.length + m.holds + n) k.events h)

-- to be mentioned again neither forks nor joins the thread
mentioned_if : (b : Bool) (t : Thread) → cond b (mentioned_again t) t
    ≡ record t { mentioned = b || t.mentioned }
mentioned_if true t = refl
mentioned_if false t = refl

forked_again : (r : Roots) (m : Meaning) (u : ThreadId) (x : VarId) (arg : ℕ)
    → forked_at r (after u (Load x) arg m) u ≡ forked_at r m u
forked_again OnlyMain m u x arg =
    ap (λ (t : Thread). nat_eq u.0 0 || t.forked) (mentioned_if (u.0 == u.0) (m.thread u.0))
forked_again Free m u x arg = refl

-- the load of a swap that is allowed is allowed
pub load_allowed : (k : Limits) (m : Meaning) (u : ThreadId) (x : VarId) → swap_refusal_at k m u x ≡ None
    → refusal_at k m u (Load x) ≡ None
unfolding swap_refusal_at refusal_at AllNone
load_allowed k m u x h =
    let r : AllNone (swap_reasons_at k m u x) = all_none (swap_reasons_at k m u x) h in
    let two : m.length + m.holds + 2 ≤ k.events
    = room (m.length + m.holds + 2) k.events (when_none _ LogFull r.1.1.1.1.0) in
    λ i. first_of (
    r.0 i ∷ r.1.0 i ∷ r.1.1.0 i ∷ r.1.1.1.0 i ∷ None ∷ None ∷ None ∷ None ∷ None
    ∷ fits k m 1 (omega arith) i ∷ []
    )

-- the store of a swap that is allowed is allowed after its load
pub store_allowed : (k : Limits) (m : Meaning) (u : ThreadId) (x : VarId) → swap_refusal_at k m u x ≡ None
    → refusal_at k (after u (Load x) 0 m) u (Store x) ≡ None
unfolding swap_refusal_at refusal_at AllNone
store_allowed k m u x h =
    let n : Meaning = after u (Load x) 0 m in
    let r : AllNone (swap_reasons_at k m u x) = all_none (swap_reasons_at k m u x) h in
    let two : m.length + m.holds + 2 ≤ k.events
    = room (m.length + m.holds + 2) k.events (when_none _ LogFull r.1.1.1.1.0) in
    let started : when (not (forked_at k.roots n u)) NotStarted ≡ None
    = ap (λ b. when (not b) NotStarted) (forked_again k.roots m u x 0) ∙ r.1.0 in
    let going : when (n.thread u.0).joined Ended ≡ None
    = ap (λ (t : Thread). when t.joined Ended) (mentioned_if (u.0 == u.0) (m.thread u.0)) ∙ r.1.1.0 in
    λ i. first_of (
    r.0 i ∷ started i ∷ going i ∷ r.1.1.1.0 i ∷ None ∷ None ∷ None ∷ None ∷ None
    ∷ fits k n 1 (omega arith) i ∷ []
    )

-- what follows from no refusal holds where the answer is Ok
pub on_ok : {P : Type 0} (o : Option Refusal) (r : Result (Unit {0}) Refusal) → r ≡ answer o → (o ≡ None → P)
    → OnOk r P
on_ok {P = P} None r e f = subst (λ (x : Result (Unit {0}) Refusal). OnOk x P) (sym e) (f refl)
on_ok {P = P} (Some x) r e f = subst (λ (y : Result (Unit {0}) Refusal). OnOk y P) (sym e) tt
