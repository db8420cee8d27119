-- Counts and sets after one more event.
use Rattle.std.proofs.Common.{◌≡◌, ℕ, ◌<◌, ◌+◌, List, [], ◌∷◌, ◌++◌, length, subst, arith, cond, ◌⊎◌, nat_eq}
use Rattle.std.proofs.Common.{refl}
use Rattle.std.proofs.lemmas.Option.{slice_get_within}
use mathlib.Core.Logic.{inl, inr}
use Rattle.event_core.proofs.Words.{ThreadId, LockId, Event, Release}
use Rattle.event_core.specs.Log.{OuterRelease}
use Rattle.event_core.specs.Order.{here}
use Rattle.event_core.specs.Wcp.{Strict, rule_a, rule_b, rule_c_left, rule_c_right}
use Rattle.event_core.specs.Recurrence.{Pre, old, access, release}
use Rattle.event_core.specs.Orderly.{Orderly}
use Rattle.event_core.specs.Count.{events_of, Counts, Past}
use Rattle.event_core.specs.Newest.{StrictNew, from_thread, from_join, from_lock, from_access, from_release}
use Rattle.event_core.specs.Newest.{HbNew, itself, by_thread, by_join, by_lock}
use Rattle.event_core.proofs.HbNewProperties.{hb_new, new_hb}
use Rattle.event_core.proofs.CountedProperties.{counts_bump, last_of, last_does}
use Rattle.event_core.proofs.DepthProperties.{section_of}
use Rattle.event_core.proofs.EffectProperties.{last_closes, closes_at_one}
use Rattle.event_core.proofs.LogProperties.{does_op, of_does, of_one}
use Rattle.event_core.proofs.RecurrenceProperties.{pre_strict, strict_pre, acquire_in, release_in}
use Rattle.event_core.proofs.NearProperties.{near_hb, near_before}
use Rattle.event_core.proofs.PastProperties.{source_within}
use Rattle.event_core.proofs.RelationsStay.{Agree, longer, back, section_too, hb_too, strict_too}

-- a new event adds one to its own thread's count of a set that has all of the thread's events
pub counts_new : (log : List Event) (e : Event) (u : ThreadId) (P : ℕ → Type 0) (n : ℕ)
    → Counts log u P n → (e.thread ≡ u → n ≡ events_of log u)
    → Counts (log ++ e ∷ []) u (λ i. P i ⊎ (i ≡ length log)) (n + cond (nat_eq e.thread.0 u.0) 1 0)
counts_new log e u P n a all =
    counts_bump log e u P (λ i. P i ⊎ (i ≡ length log)) n (λ i p. inl p)
    (λ i lt q. elim q [ inl p ↦ p | inr is ↦ absurd (omega arith) ]) (inr refl) all a

-- what strictly precedes a new event
pub strict_new : (log : List Event) (e : Event) (i : ℕ) → Orderly (log ++ e ∷ [])
    → Strict (log ++ e ∷ []) i (length log) → StrictNew log e i
strict_new log e i w s = go (strict_pre w s)
  where
    a : Agree (length log) (log ++ e ∷ []) log
    a = back (longer log (e ∷ []))

    on : {g : ℕ} → g < length log → Strict log i g → HbNew log e g → StrictNew log e i
    on lt d (itself is) = absurd (omega arith)
    on lt d (by_thread p) = from_thread (p.0, p.1, rule_c_right d p.2)
    on lt d (by_join u o p) = from_join u o (p.0, p.1, rule_c_right d p.2)
    on lt d (by_lock l o z p) = from_lock l o z (p.0, p.1, rule_c_right d p.2)

    own : {b g : ℕ} {l : LockId} → e.op ≡ Release l → g < length log → Strict log b g → HbNew log e g
        → Past log (Strict log) e.thread b
    own q lt d (itself is) = absurd (omega arith)
    own q lt d (by_thread p) = (p.0, p.1, rule_c_right d p.2)
    own q lt d (by_join u o p) = absurd cc
    own q lt d (by_lock l o z p) = absurd cc

    go : Pre (log ++ e ∷ []) i (length log) → StrictNew log e i
    go (old {g = g} n p) =
        let lt = near_before n in on lt (strict_too a lt (pre_strict w p)) (hb_new log e g (near_hb n))
    go (access {r = r} h m) = from_access r m (hb_too a m.before h)
    go (release {a = b} {r = r} {g = g} u v l lt x q n p h) =
        let o = does_op (last_does log e) q.does in
        let q' = subst (λ t. OuterRelease (log ++ e ∷ []) (length log) t l)
        (of_one (of_does q.does) (last_of log e)) q in
        let near = near_before n in
        from_release u l b r o (closes_at_one log e l w q') (section_too a lt x)
        (own o near (strict_too a near (pre_strict w p)) (hb_new log e g (near_hb n))) (hb_too a lt h)

-- each of the sets of `StrictNew` strictly precedes the new event
pub new_strict : (log : List Event) (e : Event) (i : ℕ) → Orderly (log ++ e ∷ []) → StrictNew log e i
    → Strict (log ++ e ∷ []) i (length log)
new_strict log e i w s = go s
  where
    a : Agree (length log) log (log ++ e ∷ [])
    a = longer log (e ∷ [])

    own : (b : ℕ) → Past log (Strict log) e.thread b → Strict (log ++ e ∷ []) b (length log)
    own b p =
        rule_c_right (strict_too a (source_within log e.thread p.0 p.1) p.2)
        (new_hb log e p.0 (by_thread (p.0, p.1, here)))

    go : StrictNew log e i → Strict (log ++ e ∷ []) i (length log)
    go (from_thread p) = own i p
    go (from_join u o p) =
        rule_c_right (strict_too a (source_within log u p.0 p.1) p.2)
        (new_hb log e p.0 (by_join u o (p.0, p.1, here)))
    go (from_lock l o z p) =
        rule_c_right (strict_too a (slice_get_within log p.0 p.1.1.does.event p.1.1.does.at) p.2)
        (new_hb log e p.0 (by_lock l o z (p.0, p.1, here)))
    go (from_access r m h) = rule_c_left (hb_too a m.before h) (rule_a m)
    go (from_release u l b r o z p q h) =
        let lt = slice_get_within log r p.closed.does.event p.closed.does.at in
        let mine = section_of (log ++ e ∷ []) e.thread l (length log) w (last_closes log e l o z) in
        rule_c_left (hb_too a lt h)
        (rule_b l lt (acquire_in (section_too a lt p)) (release_in mine.1) (own b q))
