-- A thread that holds a lock holds it still where its pass has no step more, and may release it.
use Rattle.std.proofs.Common.{◌≡◌, ℕ, ◌<◌, ◌-◌, List, [], ◌∷◌, Bool, true, false, Some, ◌&&◌}
use Rattle.std.proofs.Common.{refl, sym, ap, ap₂, subst, ◌∙◌, arith, take, length, cond, nat_eq, count_by}
use Rattle.std.proofs.Common.{if◌then◌else◌, Result, Ok, Err, IfErr}
use mathlib.Core.Logic.{inl, inr}
use Rattle.std.proofs.lemmas.Bool.{cond-false}
use Rattle.std.proofs.lemmas.List.Sums.{sum_by-cons}
use Rattle.std.proofs.Math.Seq.{take-length}
use Rattle.std.specs.List.{list_any}
use Rattle.event_core.specs.declared.ids.ThreadId.{ThreadId}
use Rattle.event_core.specs.declared.ids.LockId.{LockId}
use Rattle.event_core.specs.declared.ids.SiteId.{SiteId}
use Rattle.event_core.specs.declared.events.Event.{Event}
use Rattle.event_core.specs.declared.bounds.Limits.{Limits}
use Rattle.event_core.specs.declared.replies.Refusal.{Refusal}
use Rattle.event_core.specs.declared.replies.Refusal.TheVariants.{Ended}
use Rattle.event_core.specs.declared.replies.Reply.{Reply}
use Rattle.event_core.specs.Log.{depth, acquires, releases, op_acquires, op_releases}
use Rattle.event_core.specs.Refusal.{refusal, holder, joins, last_acquirer, when}
use Rattle.event_core.specs.Steps.{log_of, own_events}
use Rattle.event_core.proofs.HolderLaw.{holder_refusal}
use Rattle.event_core.proofs.OrderlyProperties.{held_last, holder_depth, holder_is}
use Rattle.log_pass.specs.declared.views.PassView.{PassView}
use Rattle.live_monitor.specs.Calls.{release_by, Answers, HasComeTo}
use Rattle.traced_thread.specs.Sections.{HoldsLock, HasEnded, IsReleased}

-- what is counted of a thread's events alone is counted in its own
own_count : (p : Event → Bool) (u : ThreadId) → ((e : Event) → nat_eq e.thread.0 u.0 ≡ false → p e ≡ false)
    → (log : List Event) → count_by p (own_events u log) ≡ count_by p log
own_count p u other [] = refl
own_count p u other (e ∷ es) = go (nat_eq e.thread.0 u.0) refl (own_count p u other es)
  where
    own : List Event
    own = own_events u es

    go : (b : Bool) → nat_eq e.thread.0 u.0 ≡ b → count_by p own ≡ count_by p es
        → count_by p (if b then e ∷ own else own) ≡ count_by p (e ∷ es)
    go true t ih =
        let h = sum_by-cons (λ (x : Event). cond {A = ℕ} (p x) 1 0) e es in
        let k = sum_by-cons (λ (x : Event). cond {A = ℕ} (p x) 1 0) e own in
        omega arith
    go false t ih =
        let h = sum_by-cons (λ (x : Event). cond {A = ℕ} (p x) 1 0) e es in
        let none : cond {A = ℕ} (p e) 1 0 ≡ 0 = cond-false _ 1 0 (other e t) in
        omega arith

-- so a thread's own events tell how deep it holds a lock
own_depth : (u : ThreadId) (l : LockId) (log : List Event) → depth (own_events u log) u l ≡ depth log u l
unfolding depth
own_depth u l log =
    ap₂ (λ (a b : ℕ). a - b)
    (own_count (acquires u l) u (λ e o. ap (λ (b : Bool). b && op_acquires l e.op) o) log)
    (own_count (releases u l) u (λ e o. ap (λ (b : Bool). b && op_releases l e.op) o) log)

module _ {m : Limits} {before after : PassView} (l : LockId) (later : HasComeTo m before after)
    (mine : after.mine ≡ before.mine) (holds : HoldsLock m l before) where
  same_depth : depth (log_of after.seen) before.thread l ≡ depth (log_of before.seen) before.thread l
  same_depth =
      let t = before.thread in
      let its : log_of after.mine ≡ own_events t (log_of after.seen)
      = subst (λ u. log_of after.mine ≡ own_events u (log_of after.seen)) later.same_thread
      later.is_pass.own_events in
      let same : own_events t (log_of after.seen) ≡ own_events t (log_of before.seen)
      = sym its ∙ ap log_of mine ∙ holds.is_pass.own_events in
      sym (own_depth t l (log_of after.seen)) ∙ ap (λ xs. depth xs t l) same
      ∙ own_depth t l (log_of before.seen)

  still_holds : holder (log_of after.seen) l ≡ Some before.thread
  still_holds =
      let log = log_of after.seen in
      let t = before.thread in
      let deep : 0 < depth log t l
      = subst (λ n. 0 < n) (sym same_depth) (holder_depth (log_of before.seen) l t holds.holder) in
      let last : last_acquirer (take (length log) log) l ≡ Some t
      = held_last m log t l later.is_pass.formed.well_formed (length log)
      (subst (λ xs. 0 < depth xs t l) (sym (take-length log)) deep) in
      holder_is log l t (subst (λ xs. last_acquirer xs l ≡ Some t) (take-length log) last) deep

-- a release is refused to the lock's holder only where it has been joined
only_ended : {m : Limits} {before after : PassView} (l : LockId) (site : SiteId) (answer : Refusal)
    → HasComeTo m before after → after.mine ≡ before.mine
    → refusal m (log_of after.seen) (release_by before.thread l site) ≡ Some answer → HoldsLock m l before
    → HasEnded before.thread after answer
only_ended {m} {before} {after} l site answer later mine why holds =
    go (list_any (joins before.thread) (log_of after.seen)) refl
    (sym why ∙ holder_refusal m (log_of after.seen) (release_by before.thread l site) l
    later.is_pass.formed.well_formed refl (still_holds l later mine holds))
  where
    go : (b : Bool) → list_any (joins before.thread) (log_of after.seen) ≡ b → Some answer ≡ when b Ended
        → HasEnded before.thread after answer
    go true joined is = record { answer = cc; joined = joined }
    go false joined is = absurd (cc)

-- the same of what a release answers
pub holder_has_ended : {m : Limits} {before after : PassView} (l : LockId) (site : SiteId)
    (r : Result Reply Refusal) → Answers m (release_by before.thread l site) before after r
    → IfErr r (λ answer. refusal m (log_of after.seen) (release_by before.thread l site) ≡ Some answer)
    → IfErr r (λ answer. HoldsLock m l before → HasEnded before.thread after answer)
holder_has_ended l site (Ok reply) answers why = tt
holder_has_ended l site (Err answer) answers why =
    only_ended l site answer answers.later answers.declined.mine why

-- what a release answers is the end of a section
pub is_released : {m : Limits} {before after : PassView} (l : LockId) (site : SiteId)
    (r : Result Reply Refusal) → Answers m (release_by before.thread l site) before after r
    → IfErr r (λ answer. refusal m (log_of after.seen) (release_by before.thread l site) ≡ Some answer)
    → IfErr r (λ answer. HoldsLock m l before → HasEnded before.thread after answer)
    → IsReleased m l site before after
is_released l site (Ok reply) answers why ended = inl (reply, answers.accepted)
is_released l site (Err answer) answers why ended =
    inr (record { mine = answers.declined.mine; answer = answer; why = why; ended = ended })
