-- The further laws of the relations.
use Rattle.std.proofs.Common.{◌≡◌, ℕ, ◌<◌, ◌≤◌, List, refl, ap, subst, arith}
use Rattle.std.proofs.lemmas.Bool.{cases_order}
use mathlib.Core.Logic.{inl, inr}
use Rattle.event_core.proofs.Words.{ThreadId, LockId, Event, Verdict, Clear, Racy}
use Rattle.event_core.specs.Verdict.{IsVerdict}
use Rattle.event_core.specs.Log.{Of, Section, InSection}
use Rattle.event_core.specs.Order.{here, lock, Po, Hb}
use Rattle.event_core.specs.Wcp.{Strict, rule_c_left, rule_c_right, Below}
use Rattle.event_core.specs.Orderly.{Orderly}
use Rattle.event_core.proofs.LogProperties.{of_does, of_one, sections_apart}
use Rattle.event_core.proofs.OrderProperties.{chain_trans, chain_one, hb_trans, hb_thread, po_thread}
use Rattle.event_core.proofs.OrderProperties.{hb_forward, acquire_below, below_release}
use Rattle.event_core.proofs.RecurrenceProperties.{acquire_in, release_in}

-- of a thread's events the earlier ones are below whatever a later one is below
pub first_po : {log : List Event} {h i j : ℕ} (u : ThreadId) → Of log h u → Of log i u → h ≤ i → Po log i j
    → Po log h j
first_po u a b le p = chain_trans (po_thread u a b le) p

-- what an event of a thread happens before, the thread's earlier events happen before too
pub first_hb : {log : List Event} {h i j : ℕ} (u : ThreadId) → Of log h u → Of log i u → h ≤ i → Hb log i j
    → Hb log h j
first_hb u a b le p = hb_trans (hb_thread u a b le) p

-- what an event of a thread strictly precedes, the thread's earlier events strictly precede too
pub first_strict : {log : List Event} {h i j : ℕ} (u : ThreadId) → Of log h u → Of log i u → h ≤ i
    → Strict log i j → Strict log h j
first_strict u a b le p = rule_c_left (hb_thread u a b le) p

-- what an event of a thread is below, the thread's earlier events are below too
pub first_below : {log : List Event} {h i j : ℕ} (u : ThreadId) → Of log h u → Of log i u → h ≤ i
    → Below log i j → Below log h j
first_below u a b le (inl s) = inl (first_strict u a b le s)
first_below u a b le (inr p) = inr (first_po u a b le p)

-- of two sections on one lock, the release of the one is below the acquire of the other
pub sections_ordered : {log : List Event} {u v : ThreadId} {l : LockId} {a r b s : ℕ}
    → Orderly log → Section log u l a r → Section log v l b s → r < s → Hb log r b
sections_ordered {u = u} {v = v} {l = l} w p q lt =
    chain_one (lock u v l (sections_apart w p q lt) p.closed q.inside.opened)

-- a section's acquire is the only one
pub one_acquire : {log : List Event} {u v : ThreadId} {l : LockId} {a b r : ℕ} → Section log u l a r
    → Section log v l b r → a ≡ b
one_acquire {log = log} {u = u} {v = v} {l = l} {a = a} {b = b} {r = r} p q = elim (cases_order a b) [
  | inl e ↦ e
  | inr c ↦ elim c [ inl lt ↦ absurd (apart a b p q' lt) | inr gt ↦ absurd (apart b a q' p gt) ]
]
  where
    q' : Section log u l b r
    q' = subst (λ x. Section log x l b r) (of_one q.inside.of p.inside.of) q

    apart : (c d : ℕ) → Section log u l c r → Section log u l d r → c < d → ⊥
    apart c d x y lt =
        let h = x.inside.held d lt y.inside.from in omega arith

-- the premise of rule (b), as one pair
pub premise_from : {log : List Event} {u v : ThreadId} {l : LockId} {a r b s : ℕ} → Section log u l a r
    → Section log v l b s
    → Strict log a s → (e : ℕ) × (f : ℕ) × InSection log l r e × InSection log l s f × Strict log e f
premise_from {a = a} {s = s} x y d = (a, s, acquire_in x, release_in y, d)

-- where an event of a section strictly precedes one of another, the acquire strictly precedes the other's
-- release
pub premise_is : {log : List Event} {u : ThreadId} {l : LockId} {a r s e f : ℕ} → Section log u l a r
    → InSection log l r e → InSection log l s f → Strict log e f → Strict log a s
premise_is {log = log} {s = s} x p q d =
    let same : p.acquire ≡ _ = one_acquire p.section x in
    subst (λ i. Strict log i s) same (rule_c_right (rule_c_left (acquire_below p) d) (below_release q))

-- a section whose acquire is below the end of another on its lock ends below it
pub ends_below : {log : List Event} {u v : ThreadId} {l : LockId} {a r b s : ℕ}
    → Orderly log → Section log u l a r → Section log v l b s → Hb log a s → Hb log r s
ends_below {log = log} {v = v} {a = a} {r = r} {s = s} w p q h = elim (cases_order r s) [
  | inl e ↦ subst (λ x. Hb log r x) e here
  | inr c ↦ elim c [
    | inl lt ↦ hb_trans (sections_ordered w p q lt)
        (hb_thread v (of_does q.inside.opened.does) (of_does q.closed.does) q.inside.from)
    | inr gt ↦ absurd (
        let apart : s < a = sections_apart w q p gt in
        let le : a ≤ s = hb_forward h in
        omega arith)
  ]
]

-- an event has one verdict
pub verdict_is_unique : (log : List Event) (j : ℕ) (v w : Verdict) → IsVerdict log j v → IsVerdict log j w
    → v ≡ w
verdict_is_unique log j Clear Clear p q = refl
verdict_is_unique log j Clear (Racy i) p q = absurd (p i q.0)
verdict_is_unique log j (Racy i) Clear p q = absurd (q i p.0)
verdict_is_unique log j (Racy i) (Racy k) p q = elim (cases_order i k) [
  | inl e ↦ ap Racy e
  | inr c ↦ elim c [ inl lt ↦ absurd (p.1 k lt q.0) | inr gt ↦ absurd (q.1 i gt p.0) ]
]
