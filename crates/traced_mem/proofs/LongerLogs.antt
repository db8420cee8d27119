-- One more event at the end of a log: what its searches and depths come to.
use Rattle.std.proofs.Common.{◌≡◌, ℕ, Bool, false, Some, None, List, [], ◌∷◌, ◌++◌, nat_lt, ◌||◌}
use Rattle.std.proofs.Common.{option_and_then, ap, sym, refl, ◌∙◌, if◌then◌else◌, append-nil, append_assoc}
use Rattle.std.proofs.lemmas.Bool.{cond-false}
use Rattle.std.proofs.Math.Bool.{or-false}
use Rattle.std.proofs.lemmas.List.Folds.{list_any-append}
use Rattle.std.specs.List.{list_any}
use Rattle.event_core.specs.declared.ids.ThreadId.{ThreadId}
use Rattle.event_core.specs.declared.ids.LockId.{LockId}
use Rattle.event_core.specs.declared.ids.VarId.{VarId}
use Rattle.event_core.specs.declared.events.Event.{Event}
use Rattle.event_core.specs.Log.{depth, op_acquires, op_releases}
use Rattle.event_core.specs.Refusal.{held, op_stores, holder, last_acquirer, last_value_from}
use Rattle.event_core.proofs.EffectProperties.{depth_same}
use Rattle.event_core.proofs.OrderlyProperties.{acquirer_snoc}
use Rattle.traced_mem.specs.Standing.{held_after, held_from}
use Rattle.traced_mem.proofs.UpdatedProperties.{eqb_refl}

-- a test passes somewhere in a longer list if it passed before, or passes at its last event
pub any_snoc : (p : Event → Bool) (xs : List Event) (e : Event)
    → list_any p (xs ++ e ∷ []) ≡ (list_any p xs || p e)
any_snoc p xs e = list_any-append p xs (e ∷ []) ∙ ap (λ b. list_any p xs || b) (or-false (p e))

-- the last value of a variable is that of the last event, if it stores the variable
pub value_snoc : (n : ℕ) (xs : List Event) (e : Event) (x : VarId)
    → last_value_from n (xs ++ e ∷ []) x ≡ (if op_stores x e.op then e.value else last_value_from n xs x)
value_snoc n [] e x = refl
value_snoc n (y ∷ ys) e x = value_snoc (if op_stores x y.op then y.value else n) ys e x

-- the last event changes the list of the locks that a thread held before it
pub held_snoc : (before xs : List Event) (e : Event) (u : ThreadId) (held : List LockId)
    → held_from before (xs ++ e ∷ []) u held ≡ held_after (before ++ xs) u e e.op (held_from before xs u held)
held_snoc before [] e u held = ap (λ b. held_after b u e e.op held) (sym (append-nil before))
held_snoc before (x ∷ xs) e u held =
    held_snoc (before ++ x ∷ []) xs e u (held_after before u x x.op held)
    ∙ ap (λ b. held_after b u e e.op (held_from (before ++ x ∷ []) xs u (held_after before u x x.op held)))
    (append_assoc before (x ∷ []) xs)

-- an event that neither acquires nor releases a lock keeps its depth
pub same_depth : (log : List Event) (e : Event) (u : ThreadId) (l : LockId) → op_acquires l e.op ≡ false
    → op_releases l e.op ≡ false → depth (log ++ e ∷ []) u l ≡ depth log u l
same_depth log e u l a r =
    depth_same log e u l (λ t o. (let is = ap (op_acquires l) o ∙ eqb_refl l.0 in absurd cc))
    (λ t o. (let is = ap (op_releases l) o ∙ eqb_refl l.0 in absurd cc))

-- an event that neither acquires nor releases a lock keeps its holder
pub same_holder : (log : List Event) (e : Event) (l : LockId) → op_acquires l e.op ≡ false
    → op_releases l e.op ≡ false → holder (log ++ e ∷ []) l ≡ holder log l
unfolding holder
same_holder log e l a r i =
    option_and_then (λ u. if nat_lt 0 (same_depth log e u l a r i) then Some u else None)
    ((acquirer_snoc log e l ∙ cond-false (op_acquires l e.op) (Some e.thread) (last_acquirer log l) a) i)
