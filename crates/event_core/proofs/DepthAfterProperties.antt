-- How often each lock is held, after an event.
use Rattle.std.proofs.Common.{◌≡◌, ℕ, ◌+◌, ◌-◌, List, [], ◌∷◌, ◌++◌, refl, sym, ap, subst, ◌∙◌, inl, inr, ◌⊎◌}
use Rattle.event_core.proofs.Words.{ThreadId, LockId, Event, Op, Acquire, Release}
use Rattle.event_core.specs.Log.{depth}
use Rattle.event_core.specs.Orderly.{Orderly}
use Rattle.event_core.specs.Rows.{with_row, depth_after}
use Rattle.event_core.proofs.DepthProperties.{same_lock_id, same_thread_id}
use Rattle.event_core.proofs.EffectProperties.{depth_same, depth_up, depth_down}
use Rattle.event_core.proofs.RowsAfterProperties.{cell_same, cell_other}
use Rattle.event_core.proofs.HeldDepths.{cell_cases, same_at}

module _ (log : List Event) (e : Event) (ord : Orderly (log ++ e ∷ [])) where
  -- a lock that the thread acquires or releases has the new depth there
  written : (d : ℕ → ℕ → ℕ) → ((t : ThreadId) (l : LockId) → d t.0 l.0 ≡ depth log t l)
      → (n : LockId) (v : ℕ) → (e.op ≡ Acquire n) ⊎ (e.op ≡ Release n) → v ≡ depth (log ++ e ∷ []) e.thread n
      → (t : ThreadId) (l : LockId) → with_row e.thread.0 (with_row n.0 v (d e.thread.0)) d t.0 l.0 ≡ depth
      (log ++ e ∷ []) t l
  written d is n v o now t l = elim (cell_cases e.thread t n l) [
    | inl c ↦
        subst (λ (u : ThreadId). new u.0 l.0 ≡ depth (log ++ e ∷ []) u l) c.0
        (subst (λ (m : LockId). new e.thread.0 m.0 ≡ depth (log ++ e ∷ []) e.thread m) c.1
        (cell_same e.thread.0 n.0 v d ∙ now))
    | inr un ↦
        cell_other e.thread.0 n.0 v d t.0 l.0 (λ p q. un (same_thread_id (sym p)) (same_lock_id (sym q)))
        ∙ is t l ∙ sym (same_at log e ord t l n o un)
  ]
    where
      new : ℕ → ℕ → ℕ
      new = with_row e.thread.0 (with_row n.0 v (d e.thread.0)) d

  -- where numbers are the depths of a log, those after the event's operation are the depths after the event
  pub depths_stand : (d : ℕ → ℕ → ℕ) → ((t : ThreadId) (l : LockId) → d t.0 l.0 ≡ depth log t l)
      → (t : ThreadId) (l : LockId) → depth_after e.thread.0 e.op d t.0 l.0 ≡ depth (log ++ e ∷ []) t l
  depths_stand d is t l = go e.op refl
    where
      go : (o : Op) → e.op ≡ o → depth_after e.thread.0 o d t.0 l.0 ≡ depth (log ++ e ∷ []) t l
      go (Acquire n) o = written d is n (d e.thread.0 n.0 + 1) (inl o)
          (ap (λ k. k + 1) (is e.thread n) ∙ sym (depth_up log e n ord o)) t l
      go (Release n) o = written d is n (d e.thread.0 n.0 - 1) (inr o)
          (ap (λ k. k - 1) (is e.thread n) ∙ sym (depth_down log e n o)) t l
      go _ o = is t l ∙ sym (depth_same log e t l (λ p q. cc) (λ p q. cc))
