-- The newest closed section of another thread with an access, after an event.
use Rattle.std.proofs.Common.{◌≡◌, ℕ, ◌≤◌, ◌+◌, List, [], ◌∷◌, ◌++◌, length, sym, subst, ◌∙◌, arith}
use mathlib.Core.Logic.{inl, inr}
use Rattle.event_core.specs.declared.events.AccessKind.{AccessKind}
use Rattle.event_core.specs.declared.events.Event.{Event}
use Rattle.event_core.specs.declared.ids.LockId.{LockId}
use Rattle.event_core.specs.declared.ids.ThreadId.{ThreadId}
use Rattle.event_core.specs.declared.ids.VarId.{VarId}
use Rattle.event_core.specs.Closed.{OtherSection, ended, number_of}
use Rattle.event_core.specs.Orderly.{Orderly}
use Rattle.event_core.proofs.OtherSections.{Leaves, other_old, other_new, other_split}
use Rattle.event_core.proofs.SectionNumbers.{number_longer, number_last, number_within}
use Rattle.event_core.proofs.ClosedProperties.{section_within}
use Rattle.section_sum.specs.Standing.{IsNewest}

module _ (log : List Event) (e : Event) (ord : Orderly (log ++ e ∷ [])) where
  old_number : (l : LockId) (x : VarId) (k : AccessKind) (t : ThreadId) (r : ℕ) → OtherSection log l x k t r
      → number_of (log ++ e ∷ []) l r ≡ number_of log l r
  old_number l x k t r q =
      number_longer log e l r (let lt = section_within q.section in omega (arith, lt))

  -- where the event ends no such section, the newest is the same
  pub newest_same : (l : LockId) (x : VarId) (k : AccessKind) (t : ThreadId) (n : ℕ)
      → (Leaves log e l x k t → ⊥) → IsNewest log l x k t n → IsNewest (log ++ e ∷ []) l x k t n
  newest_same l x k t n none was = record {
    some = λ up. (let q = was.some up in
        (q.0, other_old log e l x k t q.0 q.1, old_number l x k t q.0 q.1 ∙ q.2));
    newest = λ r q. elim (other_split log e ord l x k t r q) [
      | inl o ↦ subst (λ m. m ≤ n) (sym (old_number l x k t r o)) (was.newest r o)
      | inr o ↦ absurd (none o.1)
    ];
  }

  -- and where it does, that is the newest
  pub newest_new : (l : LockId) (x : VarId) (k : AccessKind) (t : ThreadId) (n : ℕ) → Leaves log e l x k t
      → n ≡ ended log l + 1 → IsNewest (log ++ e ∷ []) l x k t n
  newest_new l x k t n leaves is = record {
    some = λ up. (length log, other_new log e ord l x k t leaves, number_last log e l ∙ sym is);
    newest = λ r q. elim (other_split log e ord l x k t r q) [
      | inl o ↦
          let same = old_number l x k t r o in
          let at_most = number_within log l r o.thread o.section.closed in
          omega (arith, same, at_most, is)
      | inr o ↦
          let last = number_last log e l in
          subst (λ m. number_of (log ++ e ∷ []) l m ≤ n) (sym o.0) (omega (arith, last, is))
    ];
  }
