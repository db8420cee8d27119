-- The step of an event, from its step part by part.
use Rattle.std.proofs.Common.{◌≡◌, ℕ, ◌+◌, ◌-◌, ◌<◌, refl, sym, ap, ap₂, subst, ◌∙◌, arith, inl}
use Rattle.std.proofs.Common.{inr, ◌⊎◌, cond, nat_eq}
use Rattle.std.proofs.lemmas.Bool.{cases_eq, eq-eqb, ne_eqb}
use Rattle.event_core.specs.declared.ids.LockId.{LockId}
use Rattle.event_core.specs.declared.events.Event.{Event}
use Rattle.event_core.specs.declared.events.Op.{Op}
use Rattle.event_core.specs.declared.events.Op.TheVariants.{Load, Store, Acquire, Release}
use Rattle.event_core.specs.Rows.{depth_after}
use Rattle.event_core.specs.Effect.{Effect, Inner, effect_of}
use Rattle.event_core.proofs.RowsAfterProperties.{cell_same, cell_other}
use Rattle.hb_clocks.specs.State as hb
use Rattle.wcp_laws.specs.Step.{effect, after}
use Rattle.wcp_clocks.specs.Parts.{Parts, hb_of, state_of, AreParts, IsReady, Fits, IsAccess, KeepsReady}
use Rattle.wcp_clocks.specs.StrictRows.{HasThread, HasLock, HasNamed, SameRoom}
use Rattle.wcp_clocks.proofs.RowsKept.{room_back, thread_kept, lock_kept}
use Rattle.wcp_clocks.proofs.AreOrderedProperties.{ordered_more, ordered_same}
use Rattle.wcp_clocks.specs.Stepping.{IsDue, IsStep, IsStepBy, KeepsFor}

-- a lock that is held after the operation was held before it, or is the one that it acquires
abbrev IsTaken : ℕ → Op → ℕ → ℕ → Type 0
IsTaken t op u l = (u ≡ t) × (m : LockId) × (op ≡ Acquire m) × (l ≡ m.0)

held_before : (t : ℕ) (op : Op) (d : ℕ → ℕ → ℕ) (u l : ℕ) → 0 < depth_after t op d u l
    → (0 < d u l) ⊎ IsTaken t op u l
held_before t (Acquire m) d u l h = go (cases_eq u t) (cases_eq l m.0)
  where
    other : (u ≡ t → l ≡ m.0 → ⊥) → 0 < d u l
    other n = subst (λ x. 0 < x) (cell_other t m.0 (d t m.0 + 1) d u l n) h

    go : (u ≡ t) ⊎ (u ≡ t → ⊥) → (l ≡ m.0) ⊎ (l ≡ m.0 → ⊥) → (0 < d u l) ⊎ IsTaken t (Acquire m) u l
    go (inl q) (inl p) = inr (q, m, refl, p)
    go (inl q) (inr n) = inl (other (λ _ p. n p))
    go (inr n) _ = inl (other (λ q _. n q))
held_before t (Release m) d u l h = inl (go (cases_eq u t) (cases_eq l m.0))
  where
    other : (u ≡ t → l ≡ m.0 → ⊥) → 0 < d u l
    other n = subst (λ x. 0 < x) (cell_other t m.0 (d t m.0 - 1) d u l n) h

    go : (u ≡ t) ⊎ (u ≡ t → ⊥) → (l ≡ m.0) ⊎ (l ≡ m.0 → ⊥) → 0 < d u l
    go (inl q) (inl p) =
        let e : depth_after t (Release m) d u l ≡ d t m.0 - 1
        = ap₂ (depth_after t (Release m) d) q p ∙ cell_same t m.0 (d t m.0 - 1) d in
        let was : d u l ≡ d t m.0 = ap₂ d q p in
        omega arith
    go (inl q) (inr n) = other (λ _ p. n p)
    go (inr n) _ = other (λ q _. n q)
held_before t _ d u l h = inl h

module _ {e : Event} {old new : Parts} (by : IsStep e old new) where
  -- the step is the pure function's
  pub exact : state_of new ≡ after e (state_of old)
  exact i = record {
    hb = (by.hb i).hb;
    strict = record { thread = by.threads i; lock = by.locks i };
    depth = (by.hb i).depth;
    opened = by.opened i;
    held = by.held i;
    noted = by.noted i;
    met_clock = by.met i;
    closed = by.closed i;
  }

  abbrev at : Op → Effect
  at = effect_of ((hb_of old).depth e.thread.0)

  pub kept_parts : AreParts old → IsReady old e.thread e.op → AreParts new
  kept_parts parts ready = record {
    rows = by.memory.rows.width ∙ parts.rows ∙ sym by.limits.width;
    queues = ap (λ b. b.threads) by.limits.limits ∙ parts.queues ∙ sym by.limits.width;
    numbers = by.numbers;
    held_thread = λ t l h. thread l t (held_before e.thread.0 e.op (hb_of old).depth t l (was t l h));
    held_lock = λ t l h. lock l t (held_before e.thread.0 e.op (hb_of old).depth t l (was t l h));
    ordered = ordered_more new.rows old.hb new.hb by.order_room
        (ordered_same old.rows new.rows old.hb (thread_kept back) (lock_kept back) parts.ordered);
  }
    where
      back : SameRoom new.rows old.rows
      back = room_back by.memory.rows

      was : (t l : ℕ) → 0 < (hb_of new).depth t l → 0 < depth_after e.thread.0 e.op (hb_of old).depth t l
      was t l h = subst (λ (s : hb.HbState). 0 < s.depth t l) by.hb h

      thread : (l t : ℕ) → (0 < (hb_of old).depth t l) ⊎ IsTaken e.thread.0 e.op t l → HasThread new.rows t
      thread l t (inl h) = thread_kept by.memory.rows t (parts.held_thread t l h)
      thread l t (inr p) =
          thread_kept by.memory.rows t (subst (HasThread old.rows) (sym p.0) ready.rows.thread)

      lock : (l t : ℕ) → (0 < (hb_of old).depth t l) ⊎ IsTaken e.thread.0 e.op t l → HasLock new.rows l
      lock l t (inl h) = lock_kept by.memory.rows l (parts.held_lock t l h)
      lock l t (inr p) = lock_kept by.memory.rows l (subst (λ m. HasLock old.rows m) (sym p.3)
          (subst (λ (op : Op). HasNamed old.rows op) p.2 ready.rows.named))

  -- a step of an access keeps what is ready
  pub access_kept : (o : Op) → e.op ≡ o → IsAccess o → KeepsReady old new
  access_kept (Load x) is access = subst (λ (o : Op). KeepsFor (at o) old new) is by.kept
  access_kept (Store x) is access = subst (λ (o : Op). KeepsFor (at o) old new) is by.kept
  access_kept _ is access = absurd access

-- the step of an event with this effect
pub stepped : {e : Event} {k : Effect} {old new : Parts} → effect e (state_of old) ≡ k → IsStepBy e k old new
    → IsStep e old new
stepped {e} {k} {old} {new} told = subst (λ k. IsStepBy e k old new) (sym told)

-- the operation tells the effect
module _ {e : Event} {old : Parts} {o : Op} (op : e.op ≡ o) where
  -- a ready event that fits is due, by the effect that its depth gives
  pub due_by : IsReady old e.thread e.op → Fits e old
      → IsDue e (effect_of ((hb_of old).depth e.thread.0) o) old
  due_by ready fits =
      record { effect = ap (effect_of ((hb_of old).depth e.thread.0)) op; ready = ready; fits = fits }

  -- a step by that effect is the event's step
  pub done_by : {new : Parts} → IsStepBy e (effect_of ((hb_of old).depth e.thread.0) o) old new
      → IsStep e old new
  done_by {new} = subst (λ (p : Op). IsStepBy e (effect_of ((hb_of old).depth e.thread.0) p) old new) (sym op)

-- so the parts stay as they ought to be
pub kept_within : {e : Event} {k : Effect} {old new : Parts} → IsDue e k old → IsStepBy e k old new
    → AreParts old → AreParts new
kept_within due by parts = kept_parts (stepped due.effect by) parts due.ready

-- the parts within are those that are seen
module _ {e : Event} {k : Effect} {within now : Parts} (is : within ≡ now) where
  -- an event that is due for the parts as callers see them is due for the parts within
  pub due_within : IsDue e k now → IsDue e k within
  due_within = subst (IsDue e k) (sym is)

  -- a step of the parts within is one of the parts as callers see them
  pub seen_step : {new : Parts} → IsStepBy e k within new → IsStepBy e k now new
  seen_step {new} = subst (λ (p : Parts). IsStepBy e k p new) is

-- the operation o of the event is outer, and has the effect k, where its thread holds the lock to this depth
module _ (e : Event) (l : LockId) (k : Effect) (n : ℕ) {o : Op} {depth : ℕ} {within now : Parts}
    (op : e.op ≡ o) (of : (d : ℕ → ℕ) → effect_of d o ≡ cond (nat_eq (d l.0) n) k Inner)
    (is : within ≡ now) (read : depth ≡ (hb_of within).depth e.thread.0 l.0) where
  abbrev depths : ℕ → ℕ
  depths = (hb_of now).depth e.thread.0

  by_depth : effect e (state_of now) ≡ cond (nat_eq (depths l.0) n) k Inner
  by_depth = ap (effect_of depths) op ∙ of depths

  seen : depths l.0 ≡ depth
  seen = ap (λ (p : Parts). (hb_of p).depth e.thread.0 l.0) (sym is) ∙ sym read

  -- at the depth of an outer acquire or release the event has its effect
  outer : depth ≡ n → effect e (state_of now) ≡ k
  outer equal = by_depth ∙ ap (λ b. cond b k Inner) (eq-eqb (depths l.0) n (seen ∙ equal))

  -- at any other depth the event is inner
  inner : (depth ≡ n → ⊥) → effect e (state_of now) ≡ Inner
  inner other = by_depth ∙ ap (λ b. cond b k Inner) (ne_eqb (depths l.0) n (λ q. other (sym seen ∙ q)))

  -- an outer event that is built again from its parts is due, and so is an inner one
  pub due_outer : depth ≡ n → IsReady now e.thread e.op → Fits e now → IsDue (record e { op = o }) k now
  due_outer equal ready fits =
      subst (λ (p : Op). IsDue (record e { op = p }) k now) op
      (record { effect = outer equal; ready = ready; fits = fits })

  pub due_inner : (depth ≡ n → ⊥) → IsReady now e.thread e.op → Fits e now → IsDue e Inner now
  due_inner other ready fits = record { effect = inner other; ready = ready; fits = fits }

  -- its step is the event's step
  pub outer_step : {new : Parts} → depth ≡ n → IsStepBy (record e { op = o }) k now new → IsStep e now new
  outer_step {new} equal by =
      stepped (outer equal) (subst (λ (p : Op). IsStepBy (record e { op = p }) k now new) (sym op) by)

  pub inner_step : {new : Parts} → (depth ≡ n → ⊥) → IsStepBy e Inner now new → IsStep e now new
  inner_step other = stepped (inner other)
