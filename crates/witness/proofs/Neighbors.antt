-- Two conflicting accesses with nothing between them.
use Rattle.std.proofs.Common.{◌≡◌, ℕ, suc, ◌<◌, ◌≤◌, List, refl, subst, ◌∙◌, arith}
use Rattle.event_core.specs.declared.events.Event.{Event}
use Rattle.event_core.specs.Log.{Conflict}
use Rattle.event_core.specs.Order.{here, step, HbEdge, program, lock, Hb, same_thread, fork_to_event}
use Rattle.event_core.specs.Order.{fork_to_join, event_to_join}
use Rattle.event_core.proofs.ConflictProperties.{IsAccess, access_first, access_second}
use Rattle.event_core.proofs.OrderProperties.{edge_forward, hb_forward}
use Rattle.event_core.proofs.LogProperties.{of_does, of_one, does_op}

-- no edge leads from the one to the other
no_edge : {log : List Event} {n k : ℕ} → Conflict log n k → HbEdge log n k → ⊥
no_edge c (program (same_thread u lt a b)) =
    c.threads (of_one (of_does c.does_first) a ∙ of_one b (of_does c.does_second))
no_edge c (program (fork_to_event u v lt a b)) =
    subst IsAccess (does_op c.does_first a) (access_first c.first c.second c.ops)
no_edge c (program (fork_to_join u v w lt a b)) =
    subst IsAccess (does_op c.does_first a) (access_first c.first c.second c.ops)
no_edge c (program (event_to_join u w lt a b)) =
    subst IsAccess (does_op c.does_second b) (access_second c.first c.second c.ops)
no_edge c (lock u v l lt r a) =
    subst IsAccess (does_op c.does_first r.does) (access_first c.first c.second c.ops)

unordered_from : {log : List Event} (n k : ℕ) → Conflict log n k → k ≡ suc n → Hb log n k → ⊥
unordered_from n k c next here = omega arith
unordered_from {log = log} n k c next (step {g = g} p e) =
    let le : n ≤ g = hb_forward p in
    let lt : g < k = edge_forward g k e in
    let same : g ≡ n = omega arith in
    no_edge c (subst (λ (i : ℕ). HbEdge log i k) same e)

-- two conflicting accesses that are neighbors are unordered by happens-before
pub unordered : {log : List Event} (n : ℕ) → Conflict log n (suc n) → Hb log n (suc n) → ⊥
unordered n c h = unordered_from n (suc n) c refl h
