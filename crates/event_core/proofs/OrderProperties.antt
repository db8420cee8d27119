-- Laws of program order and happens-before.
use Rattle.std.proofs.Common.{◌≡◌, ℕ, ◌<◌, ◌≤◌, List, subst, arith}
use Rattle.std.proofs.lemmas.Bool.{cases_lt}
use mathlib.Core.Logic.{inl, inr}
use Rattle.event_core.proofs.Words.{ThreadId, LockId, Event}
use Rattle.event_core.specs.Log.{Of, InSection}
use Rattle.event_core.specs.Order.{Chain, here, step, ProgramEdge, same_thread, fork_to_event, fork_to_join}
use Rattle.event_core.specs.Order.{event_to_join, HbEdge, program, lock, Po, Hb}
use Rattle.event_core.proofs.LogProperties.{of_does}

-- two chains, the second from where the first ends, are one
pub chain_trans : {Edge : ℕ → ℕ → Type 0} {i g j : ℕ} → Chain Edge i g → Chain Edge g j → Chain Edge i j
chain_trans c here = c
chain_trans c (step d e) = step (chain_trans c d) e

-- an edge is a chain
pub chain_one : {Edge : ℕ → ℕ → Type 0} {i j : ℕ} → Edge i j → Chain Edge i j
chain_one e = step here e

pub chain_forward : {Edge : ℕ → ℕ → Type 0} {i j : ℕ} → ((m n : ℕ) → Edge m n → m < n) → Chain Edge i j
    → i ≤ j
chain_forward f here = omega arith
chain_forward {j = j} f (step {g = g} c e) =
    let lt : g < j = f g j e in let le = chain_forward f c in omega arith

-- an edge of program order goes forward
pub program_forward : {log : List Event} (i j : ℕ) → ProgramEdge log i j → i < j
program_forward i j (same_thread u lt a b) = lt
program_forward i j (fork_to_event u v lt a b) = lt
program_forward i j (fork_to_join u v w lt a b) = lt
program_forward i j (event_to_join u w lt a b) = lt

-- an edge of happens-before goes forward
pub edge_forward : {log : List Event} (i j : ℕ) → HbEdge log i j → i < j
edge_forward i j (program e) = program_forward i j e
edge_forward i j (lock u v l lt a b) = lt

-- program order does not go back
pub po_forward : {log : List Event} {i j : ℕ} → Po log i j → i ≤ j
po_forward c = chain_forward program_forward c

-- happens-before does not go back
pub hb_forward : {log : List Event} {i j : ℕ} → Hb log i j → i ≤ j
hb_forward c = chain_forward edge_forward c

-- happens-before is transitive
pub hb_trans : {log : List Event} {i g j : ℕ} → Hb log i g → Hb log g j → Hb log i j
hb_trans c d = chain_trans c d

-- what program order orders happens before
pub hb_of_po : {log : List Event} {i j : ℕ} → Po log i j → Hb log i j
hb_of_po here = here
hb_of_po (step c e) = step (hb_of_po c) (program e)

-- the events of one thread are in order
pub po_thread : {log : List Event} {i j : ℕ} (u : ThreadId) → Of log i u → Of log j u → i ≤ j → Po log i j
po_thread {log = log} {i = i} {j = j} u a b le = elim (cases_lt i j) [
  | inl lt ↦ chain_one (same_thread u lt a b)
  | inr ge ↦ let same : i ≡ j = omega arith in subst (λ x. Po log i x) same here
]

-- a thread's events happen before its later ones
pub hb_thread : {log : List Event} {i j : ℕ} (u : ThreadId) → Of log i u → Of log j u → i ≤ j → Hb log i j
hb_thread u a b le = hb_of_po (po_thread u a b le)

-- a section's acquire is below each event of it, and each event of it below its release
pub acquire_below : {log : List Event} {l : LockId} {r i : ℕ} → (s : InSection log l r i) → Hb log s.acquire i
acquire_below s = hb_thread s.thread (of_does s.section.inside.opened.does) s.of s.from

-- an event of a section happens before the section's release
pub below_release : {log : List Event} {l : LockId} {r i : ℕ} → (s : InSection log l r i) → Hb log i r
below_release s = hb_thread s.thread s.of (of_does s.section.closed.does) s.to
