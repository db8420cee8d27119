-- Open sections: which stay open at an event, and which the event opens or closes.
use Rattle.std.proofs.Common.{◌≡◌, ℕ, suc, ◌<◌, ◌≤◌, List, [], ◌∷◌, ◌++◌, length, sym}
use Rattle.std.proofs.Common.{subst, ◌∙◌, arith, take, refl}
use Rattle.std.proofs.Math.Seq.{take-length}
use Rattle.std.proofs.lemmas.Bool.{cases_lt, cond-true, eq-eqb}
use Rattle.std.proofs.lemmas.Option.{slice_get_within}
use mathlib.Core.Logic.{inl, inr}
use Rattle.event_core.proofs.Words.{Event, Acquire, Release, LockId, ThreadId}
use Rattle.event_core.specs.Closed.{Open, EndsSection}
use Rattle.event_core.specs.Log.{Does, depth, OuterRelease, Section}
use Rattle.event_core.specs.Orderly.{Orderly}
use Rattle.event_core.specs.Effect.{Effect, Opens, Closes, effect_of}
use Rattle.event_core.proofs.CountedProperties.{last_of, last_does, grown_length}
use Rattle.event_core.proofs.DepthProperties.{Opener, opener}
use Rattle.event_core.proofs.LogProperties.{does_op, acquire_no_release}
use Rattle.event_core.proofs.RelationsStay.{longer, back, acquire}
use Rattle.event_core.proofs.EffectProperties.{Fits, closes, fits, effect_at, whole, front, closes_at_one}

-- an open section stands in the log, and its lock is held
pub open_within : (xs : List Event) (t : ThreadId) (l : LockId) (a : ℕ) → Open xs t l a → a < length xs
open_within xs t l a p = slice_get_within xs a p.opened.does.event p.opened.does.at

-- a thread holds the lock of its open section
pub open_held : (xs : List Event) (t : ThreadId) (l : LockId) (a : ℕ) → Open xs t l a → 0 < depth xs t l
open_held xs t l a p =
    subst (λ ys. 0 < depth ys t l) (take-length xs)
    (p.held (length xs) (open_within xs t l a p) (omega arith))

-- a lock that is held has an open section
pub open_by_depth : (log : List Event) (t : ThreadId) (l : LockId) → 0 < depth log t l
    → (a : ℕ) × Open log t l a
open_by_depth log t l h =
    let p : Opener log t l (length log)
    = opener log t l (length log) (omega arith)
    (subst (λ xs. 0 < depth xs t l) (sym (take-length log)) h) in
    (p.index, record { opened = p.opened; held = p.held })

-- the effect of an event after a log
pub its_effect : (log : List Event) (e : Event) → (k : Effect) × Fits log e k
its_effect log e =
    let d : ℕ → ℕ = λ n. depth log e.thread (record { 0 = n }) in
    (effect_of d e.op, fits log e d (λ l. refl))

module _ (log : List Event) (e : Event) (ord : Orderly (log ++ e ∷ [])) where
  -- the effect of an outer acquire, and of an outer release
  pub is_opens : (k : Effect) → Fits log e k → (l : LockId) → e.op ≡ Acquire l → depth log e.thread l ≡ 0
      → k ≡ Opens l
  is_opens k f l a z = effect_at log e k (Acquire l) f a ∙ cond-true _ _ _ (eq-eqb _ 0 z)

  -- the effect of an outer release is that it closes the section on its lock
  pub is_closes : (k : Effect) → Fits log e k → (l : LockId)
      → OuterRelease (log ++ e ∷ []) (length log) e.thread l → k ≡ Closes l
  is_closes k f l r =
      effect_at log e k (Release l) f (does_op (last_does log e) r.does)
      ∙ cond-true _ _ _ (eq-eqb _ 1 (closes_at_one log e l ord r))

  -- and what the effect of an outer release says
  pub closes_at : (k : Effect) → Fits log e k → (l : LockId) → k ≡ Closes l → EndsSection log e.thread l e
  closes_at _ (closes n o d) l is =
      let same : n ≡ l = cc in
      record {
        thread = refl;
        op = subst (λ y. e.op ≡ Release y) same o;
        outer = subst (λ y. depth log e.thread y ≡ 1) same d;
      }
  closes_at _ f l is = absurd cc

  -- an outer release ends a section
  pub ends_at : (l : LockId) → OuterRelease (log ++ e ∷ []) (length log) e.thread l
      → EndsSection log e.thread l e
  ends_at l r = record {
    thread = refl;
    op = does_op (last_does log e) r.does;
    outer = closes_at_one log e l ord r;
  }

  -- a section that is open, and not by this event, was open
  pub open_old : (t : ThreadId) (l : LockId) (a : ℕ) → Open (log ++ e ∷ []) t l a → a < length log
      → Open log t l a
  open_old t l a p lt = record {
    opened = acquire (back (longer log (e ∷ []))) lt p.opened;
    held =
        λ k b c. subst (λ xs. 0 < depth xs t l) (front log e k c)
        (p.held k b (let g = grown_length log e in omega arith));
  }

  -- a section that was open is so while its lock is held
  pub open_new : (t : ThreadId) (l : LockId) (a : ℕ) → Open log t l a → 0 < depth (log ++ e ∷ []) t l
      → Open (log ++ e ∷ []) t l a
  open_new t l a p up = record {
    opened = acquire (longer log (e ∷ [])) (open_within log t l a p) p.opened;
    held = λ k b c. elim (cases_lt k (suc (length log))) [
      | inl s ↦ subst (λ xs. 0 < depth xs t l) (sym (front log e k (omega arith))) (p.held k b (omega arith))
      | inr s ↦
          let g = grown_length log e in
          let is : suc (length log) ≡ k = omega arith in
          subst (λ n. 0 < depth (take n (log ++ e ∷ [])) t l) is
          (subst (λ xs. 0 < depth xs t l) (sym (whole log e)) up)
    ];
  }

  -- it was open
  pub closing_open : (t : ThreadId) (l : LockId) (a : ℕ) → Section (log ++ e ∷ []) t l a (length log)
      → (a < length log) × Open log t l a
  closing_open t l a s = (
    lt,
    record {
      opened = acquire (back (longer log (e ∷ []))) lt s.inside.opened;
      held = λ k b c. subst (λ xs. 0 < depth xs t l) (front log e k c) (s.inside.held k b c);
    },
  )
    where
      lt : a < length log
      lt =
          let from : a ≤ length log = s.inside.from in
          let ne : a ≡ length log → ⊥
          = λ q. acquire_no_release
          (subst (λ n. Does (log ++ e ∷ []) n t (Acquire l)) q s.inside.opened.does) s.closed.does in
          omega arith

  -- a section that is open is closed by the outer release
  pub closing_section : (l : LockId) (a : ℕ) → Open log e.thread l a
      → OuterRelease (log ++ e ∷ []) (length log) e.thread l
      → Section (log ++ e ∷ []) e.thread l a (length log)
  closing_section l a p r =
      let lt = open_within log e.thread l a p in
      record {
        inside = record {
          opened = acquire (longer log (e ∷ [])) lt p.opened;
          of = last_of log e;
          from = omega arith;
          held = λ k b c. subst (λ xs. 0 < depth xs e.thread l) (sym (front log e k c)) (p.held k b c);
        };
        closed = r;
      }
