-- What is ordered before an event happens before it.
use Rattle.std.proofs.Common.{◌≡◌, ℕ, ◌<◌, List, ◌⊎◌, subst, ◌∙◌, arith, take}
use Rattle.std.proofs.lemmas.Bool.{cases_order}
use mathlib.Core.Logic.{inl, inr}
use Rattle.event_core.proofs.Words.{Event, Release}
use Rattle.event_core.specs.Log.{Does, depth}
use Rattle.event_core.specs.Order.{lock, Hb}
use Rattle.event_core.specs.Orderly.{Orderly}
use Rattle.event_core.specs.Wcp.{Meets, Strict, rule_a, rule_b, rule_c_left, rule_c_right, Below}
use Rattle.event_core.proofs.OrderProperties.{chain_trans, chain_one, hb_trans, hb_of_po, hb_thread}
use Rattle.event_core.proofs.LogProperties.{of_does, of_one, acquire_no_release, inside_opener}
use Rattle.event_core.proofs.BelowProperties.{sections_ordered}

-- the premise of rule (a) is in happens-before: the sections are apart, since two threads hold no one lock
meets_hb : {log : List Event} {r j : ℕ} → Orderly log → Meets log r j → Hb log r j
meets_hb {log = log} {r = r} {j = j} w m = go (cases_order r m.acquire)
  where
    apart : m.in_section.thread ≡ m.thread → ⊥
    apart same =
        m.conflict.threads (of_one (of_does m.conflict.does_first) m.in_section.of
        ∙ (same ∙ of_one m.inside.of (of_does m.conflict.does_second)))

    go : (r ≡ m.acquire) ⊎ ((r < m.acquire) ⊎ (m.acquire < r)) → Hb log r j
    go (inl same) =
        absurd (acquire_no_release m.inside.opened.does (subst
        (λ k. Does log k m.in_section.thread (Release m.lock)) same m.in_section.section.closed.does))
    go (inr (inl lt)) =
        hb_trans
        (chain_one (lock m.in_section.thread m.thread m.lock lt m.in_section.section.closed m.inside.opened))
        (hb_thread m.thread (inside_opener m.inside) m.inside.of m.inside.from)
    go (inr (inr lt)) =
        let before : r < j = m.before in
        let mine : 0 < depth (take r log) m.thread m.lock = m.inside.held r lt (omega arith) in
        let theirs : 0 < depth (take r log) m.in_section.thread m.lock
        = w.held_at_release r m.in_section.thread m.lock m.in_section.section.closed.does in
        absurd (apart (w.one_holder r m.in_section.thread m.thread m.lock theirs mine))

-- what strictly precedes an event happens before it
pub strict_hb : {log : List Event} {i j : ℕ} → Orderly log → Strict log i j → Hb log i j
strict_hb w (rule_a m) = meets_hb w m
strict_hb w (rule_b l lt p q d) =
    hb_trans (sections_ordered w p.section q.section lt)
    (hb_thread q.thread (inside_opener q.section.inside) q.section.inside.of q.section.inside.from)
strict_hb w (rule_c_left h d) = hb_trans h (strict_hb w d)
strict_hb w (rule_c_right d h) = hb_trans (strict_hb w d) h

-- what is below an event happens before it
pub below_hb : {log : List Event} {i j : ℕ} → Orderly log → Below log i j → Hb log i j
below_hb w (inl s) = strict_hb w s
below_hb w (inr p) = hb_of_po p

-- what is below an event, and happens before it, is below all that the event is below
pub below_trans : {log : List Event} {i g j : ℕ} → Hb log i g → Below log i g → Below log g j → Below log i j
below_trans h (inl s) (inr p) = inl (rule_c_right s (hb_of_po p))
below_trans h (inr q) (inr p) = inr (chain_trans q p)
below_trans h _ (inl d) = inl (rule_c_left h d)
