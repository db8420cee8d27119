-- Facts on the events and the sections of a log.
use Rattle.std.proofs.Common.{◌≡◌, ℕ, suc, ◌<◌, ◌≤◌, List, Some, sym, subst, ◌∙◌, arith, take}
use Rattle.std.proofs.lemmas.Bool.{cases_lt}
use mathlib.Core.Logic.{inl, inr}
use Rattle.event_core.proofs.Words.{ThreadId, LockId, Event, Op, Acquire, Release}
use Rattle.event_core.specs.Log.{Does, Of, depth, Inside, Section}
use Rattle.event_core.specs.Orderly.{Orderly}

-- an event is by one thread
pub does_thread : {log : List Event} {i : ℕ} {u v : ThreadId} {p q : Op} → Does log i u p → Does log i v q
    → u ≡ v
does_thread d e = let same : Some d.event ≡ Some e.event = sym d.at ∙ e.at in cc

-- an event has one operation
pub does_op : {log : List Event} {i : ℕ} {u v : ThreadId} {p q : Op} → Does log i u p → Does log i v q → p ≡ q
does_op d e = let same : Some d.event ≡ Some e.event = sym d.at ∙ e.at in cc

-- what a thread does is an event of the thread
pub of_does : {log : List Event} {i : ℕ} {u : ThreadId} {p : Op} → Does log i u p → Of log i u
of_does d = record { event = d.event; at = d.at; thread = d.thread }

-- an event is of one thread
pub of_one : {log : List Event} {i : ℕ} {u v : ThreadId} → Of log i u → Of log i v → u ≡ v
of_one d e = let same : Some d.event ≡ Some e.event = sym d.at ∙ e.at in cc

-- an event does not acquire and release
pub acquire_no_release : {log : List Event} {i : ℕ} {u v : ThreadId} {l m : LockId} → Does log i u (Acquire l)
    → Does log i v (Release m) → ⊥
acquire_no_release d e = let same : Acquire _ ≡ Release _ = does_op d e in cc

-- a release is of one lock
pub release_lock : {log : List Event} {i : ℕ} {u v : ThreadId} {l m : LockId} → Does log i u (Release l)
    → Does log i v (Release m) → l ≡ m
release_lock d e = let same : Release _ ≡ Release _ = does_op d e in cc

-- the event that opens a section is in it
pub inside_opener : {log : List Event} {u : ThreadId} {l : LockId} {a i : ℕ} → Inside log u l a i → Of log a u
inside_opener h = of_does h.opened.does

-- of two sections on one lock, the one that ends first ends before the other begins
pub sections_apart : {log : List Event} {u v : ThreadId} {l : LockId} {a r b s : ℕ}
    → Orderly log → Section log u l a r → Section log v l b s → r < s → r < b
sections_apart {log = log} {u = u} {v = v} {l = l} {a = a} {r = r} {b = b} {s = s} w p q lt =
    elim (cases_lt r b) [ inl h ↦ h | inr h ↦ absurd (below (let ne : b ≡ r → ⊥ = b_not_r in omega arith)) ]
  where
    b_not_r : b ≡ r → ⊥
    b_not_r e =
        acquire_no_release (subst (λ x. Does log x v (Acquire l)) e q.inside.opened.does) p.closed.does

    a_not_r : a ≡ r → ⊥
    a_not_r e =
        acquire_no_release (subst (λ x. Does log x u (Acquire l)) e p.inside.opened.does) p.closed.does

    below : (b < r) → ⊥
    below h =
        let a_lt : a < r
        = (let from : a ≤ r = p.inside.from in let ne : a ≡ r → ⊥ = a_not_r in omega arith) in
        let mine = p.inside.held r a_lt (omega arith) in
        let theirs = q.inside.held r h (omega arith) in
        let none = subst (λ x. depth (take (suc r) log) x l ≡ 0) (w.one_holder r u v l mine theirs)
        p.closed.outer in
        omega arith
