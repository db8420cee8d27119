-- How many acquires are still to be released after an accepted call.
use Rattle.std.proofs.Common.{◌≡◌, ◌+◌, Bool, true, false, cond, None, List, [], ◌∷◌, ◌++◌, ap, refl, arith}
use Rattle.std.specs.List.{count_by}
use Rattle.event_core.specs.declared.events.Event.{Event}
use Rattle.event_core.specs.declared.events.Call.{Call}
use Rattle.event_core.specs.declared.bounds.Limits.{Limits}
use Rattle.event_core.specs.declared.events.Op.{Op}
use Rattle.event_core.specs.declared.events.Op.TheVariants.{Acquire, Release}
use Rattle.event_core.specs.Refusal.{refusal, op_is_acquire, op_is_release, open_acquires, event_of}
use Rattle.event_core.specs.Refusal.{WellFormed}
use Rattle.event_core.proofs.DepthProperties.{count_with}
use Rattle.event_core.proofs.Slots.{no_more_releases}
use Rattle.traced_mem.specs.After.{holds_after}

module _ (k : Limits) (log : List Event) (c : Call) (w : WellFormed k log) (h : refusal k log c ≡ None) where
  counted : (p : Op → Bool) (b : Bool) → p c.op ≡ b
      → count_by (λ (e : Event). p e.op) (log ++ event_of log c ∷ [])
      ≡ count_by (λ (e : Event). p e.op) log + cond b 1 0
  counted p b is = count_with (λ (e : Event). p e.op) log (event_of log c) b is

  holds_law_at : (o : Op) → c.op ≡ o
      → open_acquires (log ++ event_of log c ∷ []) ≡ holds_after o (open_acquires log)
  unfolding open_acquires
  holds_law_at (Acquire l) q =
      omega (
        arith,
        no_more_releases k log w,
        counted op_is_acquire true (ap op_is_acquire q),
        counted op_is_release false (ap op_is_release q),
      )
  holds_law_at (Release l) q =
      omega (
        arith,
        counted op_is_acquire false (ap op_is_acquire q),
        counted op_is_release true (ap op_is_release q),
      )
  holds_law_at _ q =
      omega (
        arith,
        counted op_is_acquire false (ap op_is_acquire q),
        counted op_is_release false (ap op_is_release q),
      )

  -- the number of open acquires after an accepted call
  pub holds_law : open_acquires (log ++ event_of log c ∷ []) ≡ holds_after c.op (open_acquires log)
  holds_law = holds_law_at c.op refl
