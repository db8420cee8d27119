-- The locks after an accepted call.
use Rattle.std.proofs.Common.{◌≡◌, ℕ, ◌-◌, false, Option, Some, None, List, [], ◌∷◌, ◌++◌, nat_lt}
use Rattle.std.proofs.Common.{option_and_then, ap, ap₂, sym, refl, ◌∙◌, subst, if◌then◌else◌, arith}
use Rattle.std.proofs.lemmas.Bool.{cond-true, cond-false, ne_eqb}
use Rattle.event_core.specs.declared.ids.ThreadId.{ThreadId}
use Rattle.event_core.specs.declared.ids.LockId.{LockId}
use Rattle.event_core.specs.declared.events.Event.{Event}
use Rattle.event_core.specs.declared.events.Call.{Call}
use Rattle.event_core.specs.declared.bounds.Limits.{Limits}
use Rattle.event_core.specs.declared.events.Op.{Op}
use Rattle.event_core.specs.declared.events.Op.TheVariants.{Acquire, Release}
use Rattle.event_core.specs.Log.{depth, op_acquires, op_releases}
use Rattle.event_core.specs.Refusal.{refusal, lock_depth, depth_by, holder, last_acquirer, event_of, lock_at}
use Rattle.event_core.specs.Refusal.{WellFormed}
use Rattle.event_core.proofs.EffectProperties.{depth_up}
use Rattle.event_core.proofs.WellFormedProperties.{well_formed_grown, well_formed_front}
use Rattle.event_core.proofs.OpenAcquiresProperties.{acquired, released, last_holds}
use Rattle.event_core.proofs.OrderlyProperties.{acquirer_snoc, holder_is, holder_depth, orderly}
use Rattle.event_core.proofs.RunProperties.{allowed_legal}
use Rattle.traced_mem.specs.Refusals.{not_holder_at}
use Rattle.traced_mem.specs.After.{deeper, shallower, locks_after}
use Rattle.traced_mem.specs.Standing.{meaning_of}
use Rattle.traced_mem.proofs.AllowsProperties.{Allowed, allowed, release_holder}
use Rattle.traced_mem.proofs.RefusalsProperties.{same_refusal}
use Rattle.traced_mem.proofs.UpdatedProperties.{eqb_refl, is_updated}
use Rattle.traced_mem.proofs.LongerLogs.{same_depth, same_holder}
use Rattle.traced_mem.proofs.Depths.{depth_left}

-- a lock that the event has nothing to do with
same_lock : (log : List Event) (e : Event) (l : LockId) → op_acquires l e.op ≡ false
    → op_releases l e.op ≡ false
    → (meaning_of (log ++ e ∷ [])).lock l.0 ≡ (meaning_of log).lock l.0
unfolding lock_depth
same_lock log e l a r i = record {
  holder = same_holder log e l a r i;
  depth = (deep (holder (log ++ e ∷ []) l) ∙ ap (λ o. depth_by o log l) (same_holder log e l a r)) i;
}
  where
    deep : (o : Option ThreadId) → depth_by o (log ++ e ∷ []) l ≡ depth_by o log l
    deep None = refl
    deep (Some u) = same_depth log e u l a r

-- the lock of an acquire
acquired_lock : (k : Limits) (log : List Event) (e : Event) (l : LockId) → WellFormed k (log ++ e ∷ [])
    → e.op ≡ Acquire l → (meaning_of (log ++ e ∷ [])).lock l.0 ≡ deeper e.thread ((meaning_of log).lock l.0)
acquired_lock k log e l w o i = record { holder = is i; depth = acquired k log e w l o i }
  where
    is : holder (log ++ e ∷ []) l ≡ Some e.thread
    is = holder_is (log ++ e ∷ []) l e.thread
        (acquirer_snoc log e l ∙ cond-true _ _ _ (ap (op_acquires l) o ∙ eqb_refl l.0))
        (let more = depth_up log e l (orderly k (log ++ e ∷ []) w) o in omega arith)

-- the lock of a release
released_lock : (k : Limits) (log : List Event) (e : Event) (l : LockId) → WellFormed k (log ++ e ∷ [])
    → e.op ≡ Release l → holder log l ≡ Some e.thread
    → (meaning_of (log ++ e ∷ [])).lock l.0 ≡ shallower ((meaning_of log).lock l.0)
unfolding holder
released_lock k log e l w o held_now i = record { holder = is i; depth = less i }
  where
    less : lock_depth (log ++ e ∷ []) l ≡ lock_depth log l - 1
    less = let one = released k log e w l o in omega arith

    last : last_acquirer (log ++ e ∷ []) l ≡ Some e.thread
    last = acquirer_snoc log e l ∙ cond-false _ _ _ (ap (op_acquires l) o)
        ∙ last_holds k log e.thread l (well_formed_front k log (e ∷ []) w)
        (holder_depth log l e.thread held_now)

    is : holder (log ++ e ∷ []) l ≡ (if nat_lt 0 (lock_depth log l - 1) then holder log l else None)
    is = ap (option_and_then
        (λ (u : ThreadId). if nat_lt 0 (depth (log ++ e ∷ []) u l) then Some u else None)) last
        ∙ ap₂ (λ (d : ℕ) (o : Option ThreadId). if nat_lt 0 d then o else None)
        (depth_left log e l o held_now) (sym held_now)

module _ (k : Limits) (log : List Event) (c : Call) (w : WellFormed k log) (h : refusal k log c ≡ None) where
  -- no reason to refuse the call applies
  pub may : Allowed k (meaning_of log) c.thread c.op
  may = allowed k (meaning_of log) c.thread c.op (same_refusal k log c w ∙ h)

  -- the thread of an accepted release holds the lock
  pub holder_now : (l : LockId) → c.op ≡ Release l → holder log l ≡ Some c.thread
  holder_now l q =
      release_holder (meaning_of log) c.thread l
      (subst (λ o. not_holder_at (meaning_of log) c.thread o ≡ None) q may.holds)

  grown : WellFormed k (log ++ event_of log c ∷ [])
  grown = well_formed_grown k log (event_of log c) w (allowed_legal k log c h)

  locks_law_at : (o : Op) → c.op ≡ o → (n : ℕ)
      → (meaning_of (log ++ event_of log c ∷ [])).lock n ≡ locks_after c.thread o (meaning_of log).lock n
  locks_law_at (Acquire l) q =
      is_updated l.0 (deeper c.thread ((meaning_of log).lock l.0)) (meaning_of log).lock
      (meaning_of (log ++ event_of log c ∷ [])).lock (acquired_lock k log (event_of log c) l grown q)
      (λ n other. same_lock log (event_of log c) (lock_at n) (ap (op_acquires (lock_at n)) q
      ∙ ne_eqb l.0 n (λ e. other (sym e))) (ap (op_releases (lock_at n)) q))
  locks_law_at (Release l) q =
      is_updated l.0 (shallower ((meaning_of log).lock l.0)) (meaning_of log).lock
      (meaning_of (log ++ event_of log c ∷ [])).lock
      (released_lock k log (event_of log c) l grown q (holder_now l q))
      (λ n other. same_lock log (event_of log c) (lock_at n) (ap (op_acquires (lock_at n)) q)
      (ap (op_releases (lock_at n)) q ∙ ne_eqb l.0 n (λ e. other (sym e))))
  locks_law_at _ q =
      λ n. same_lock log (event_of log c) (lock_at n) (ap (op_acquires (lock_at n)) q)
      (ap (op_releases (lock_at n)) q)

  -- the holder and the depth of each lock after an accepted call
  pub locks_law : (meaning_of (log ++ event_of log c ∷ [])).lock
      ≡ locks_after c.thread c.op (meaning_of log).lock
  locks_law i n = locks_law_at c.op refl n i
