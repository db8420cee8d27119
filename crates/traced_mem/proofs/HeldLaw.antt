-- The list of a thread's locks is what it is said to be.
use Rattle.std.proofs.Common.{◌≡◌, ℕ, suc, ◌+◌, ◌-◌, ◌<◌, ◌≤◌, Bool, true, false, List, [], ◌∷◌, ◌++◌, length}
use Rattle.std.proofs.Common.{take, nat_eq, ◌&&◌, ap, sym, ◌∙◌, subst, ◌⊎◌, if◌then◌else◌, arith}
use Rattle.std.proofs.Common.{refl, append-nil, append_assoc}
use Rattle.std.proofs.lemmas.Bool.{cases_Bool, eqb-true, eq-eqb, ne_eqb, and_from, and_left, and_right}
use mathlib.Core.Logic.{inl, inr}
use Rattle.event_core.specs.declared.ids.ThreadId.{ThreadId}
use Rattle.event_core.specs.declared.ids.LockId.{LockId}
use Rattle.event_core.specs.declared.ids.VarId.{VarId}
use Rattle.event_core.specs.declared.events.Event.{Event}
use Rattle.event_core.specs.declared.events.Op.TheVariants.{Acquire, Release}
use Rattle.event_core.specs.declared.events.AccessKind.{AccessKind}
use Rattle.event_core.specs.declared.events.AccessKind.TheVariants.{Read, Write}
use Rattle.event_core.specs.declared.bounds.Limits.{Limits}
use Rattle.event_core.specs.Closed.{Open, Has, first, later}
use Rattle.event_core.specs.Effect.{Effect, Opens, Closes, access_of}
use Rattle.event_core.specs.Log.{depth, OuterAcquire}
use Rattle.event_core.specs.Orderly.{Orderly}
use Rattle.event_core.specs.Refusal.{WellFormed}
use Rattle.event_core.proofs.CountedProperties.{grown_length}
use Rattle.event_core.proofs.DepthProperties.{lock_cases, same_lock_id, thread_cases, same_thread_id}
use Rattle.event_core.proofs.EffectProperties.{Fits, accesses, opens, closes, forks, joins, again, inner}
use Rattle.event_core.proofs.EffectProperties.{depth_up, depth_down, last_opens, whole}
use Rattle.event_core.proofs.WellFormedProperties.{well_formed_front}
use Rattle.event_core.proofs.HeldDepths.{held_now, held_same, still_held}
use Rattle.event_core.proofs.OrderlyProperties.{holder_depth, orderly}
use Rattle.event_core.proofs.HasProperties.{none_in, has_front, has_last}
use Rattle.event_core.proofs.OpenSections.{its_effect, open_held, open_new, open_within}
use Rattle.traced_mem.specs.After.{without}
use Rattle.traced_mem.specs.Held.{InOrder, none, more, AreHeld}
use Rattle.traced_mem.specs.Standing.{held_after, held_from, held_in}
use Rattle.traced_mem.proofs.WithoutProperties.{without_here, without_next, has_without}

-- the list, as depths say it
record Are (log : List Event) (u : ThreadId) (ls : List LockId) : Type 0 where
  in_order : InOrder log u 0 ls
  all : (l : LockId) → 0 < depth log u l → Has l ls

-- each lock of the list is held
has_depth : (log : List Event) (u : ThreadId) (n : ℕ) (ls : List LockId) → InOrder log u n ls → (l : LockId)
    → Has l ls → 0 < depth log u l
has_depth log u n [] (none m) l h = absurd (none_in h)
has_depth log u n (y ∷ ls) (more m a x xs le s r) l (first _ _ same) =
    subst (λ (q : LockId). 0 < depth log u q) (sym same) (open_held log u y a s)
has_depth log u n (y ∷ ls) (more m a x xs le s r) l (later _ _ h) = has_depth log u (suc a) ls r l h

-- the lock of an open section is not that of a later one
no_again : (log : List Event) (u : ThreadId) (l : LockId) (a n : ℕ) (ls : List LockId) → Open log u l a
    → a < n → InOrder log u n ls → Has l ls → ⊥
no_again log u l a n [] s lt o h = none_in h
no_again log u l a n (y ∷ ls) s lt (more m b x xs le t r) (first _ _ same) =
    let w = open_within log u y b t in
    let up : 0 < depth (take b log) u l = s.held b (omega arith) (omega arith) in
    let zero : depth (take b log) u l ≡ 0
    = ap (λ (q : LockId). depth (take b log) u q) same ∙ t.opened.outer in
    omega arith
no_again log u l a n (y ∷ ls) s lt (more m b x xs le t r) (later _ _ h) =
    no_again log u l a (suc b) ls s (omega arith) r h

module _ (log : List Event) (e : Event) (u : ThreadId) (ord : Orderly (log ++ e ∷ [])) where
  keep : (n : ℕ) (ls : List LockId) → InOrder log u n ls
      → ((l : LockId) → Has l ls → 0 < depth (log ++ e ∷ []) u l) → InOrder (log ++ e ∷ []) u n ls
  keep n [] (none m) d = none n
  keep n (l ∷ ls) (more m a x xs le s r) d =
      more n a l ls le (open_new log e ord u l a s (d l (first l ls refl)))
      (keep (suc a) ls r (λ y h. d y (later l ls h)))

  push : (n : ℕ) (ls : List LockId) (y : LockId) → InOrder log u n ls
      → ((l : LockId) → Has l ls → 0 < depth (log ++ e ∷ []) u l)
      → n ≤ length log → Open (log ++ e ∷ []) u y (length log) → InOrder (log ++ e ∷ []) u n (ls ++ y ∷ [])
  push n [] y (none m) d le s = more n (length log) y [] le s (none (suc (length log)))
  push n (l ∷ ls) y (more m a x xs le s r) d le2 t =
      let lt = open_within log u l a s in
      more n a l (ls ++ y ∷ []) le (open_new log e ord u l a s (d l (first l ls refl)))
      (push (suc a) ls y r (λ z h. d z (later l ls h)) (omega arith) t)

  lower : (n m : ℕ) (ls : List LockId) → n ≤ m → InOrder (log ++ e ∷ []) u m ls
      → InOrder (log ++ e ∷ []) u n ls
  lower n m [] le (none k) = none n
  lower n m (l ∷ ls) le (more k a x xs le2 s r) = more n a l ls (omega arith) s r

  drops : (n : ℕ) (ls : List LockId) (y : LockId) → InOrder log u n ls
      → ((l : LockId) → (l ≡ y → ⊥) → Has l ls → 0 < depth (log ++ e ∷ []) u l)
      → InOrder (log ++ e ∷ []) u n (without y ls)
  drops n [] y (none m) d = none n
  drops n (l ∷ ls) y (more m a x xs le s r) d =
      go (cases_Bool (nat_eq l.0 y.0)) (drops (suc a) ls y r (λ z q h. d z q (later l ls h)))
    where
      go : (nat_eq l.0 y.0 ≡ true) ⊎ (nat_eq l.0 y.0 ≡ false)
          → InOrder (log ++ e ∷ []) u (suc a) (without y ls)
          → InOrder (log ++ e ∷ []) u n (without y (l ∷ ls))
      go (inl t) ih =
          let same : l ≡ y = same_lock_id (eqb-true l.0 y.0 t) in
          subst (InOrder (log ++ e ∷ []) u n) (sym (without_here y l ls t))
          (lower n (suc a) ls (omega arith)
          (keep (suc a) ls r (λ z h. d z
          (λ q. no_again log u l a (suc a) ls s (omega arith) r
          (subst (λ (w : LockId). Has w ls) (q ∙ sym same) h)) (later l ls h))))
      go (inr f) ih =
          let other : l ≡ y → ⊥ = λ q. (let t : nat_eq l.0 y.0 ≡ true
          = eq-eqb l.0 y.0 (ap (λ (w : LockId). w.0) q) in cc) in
          subst (InOrder (log ++ e ∷ []) u n) (sym (without_next y l ls f))
          (more n a l (without y ls) le (open_new log e ord u l a s (d l other (first l ls refl))) ih)

  -- the section that the event opens
  opened : (y : LockId) → e.thread ≡ u → e.op ≡ Acquire y → depth log e.thread y ≡ 0
      → Open (log ++ e ∷ []) u y (length log)
  opened y t o zero = record {
    opened = subst (λ v. OuterAcquire (log ++ e ∷ []) (length log) v y) t (last_opens log e y o zero);
    held = λ k b c. (
        let grown = grown_length log e in
        let is : suc (length log) ≡ k = omega arith in
        let up : depth (log ++ e ∷ []) e.thread y ≡ depth log e.thread y + 1 = depth_up log e y ord o in
        let now : 0 < depth (log ++ e ∷ []) u y
        = subst (λ v. 0 < depth (log ++ e ∷ []) v y) t (omega arith) in
        subst (λ n. 0 < depth (take n (log ++ e ∷ [])) u y) is
        (subst (λ xs. 0 < depth xs u y) (sym (whole log e)) now));
  }

module _ (log : List Event) (e : Event) (u : ThreadId) (ord : Orderly (log ++ e ∷ [])) (ls : List LockId)
    (are : Are log u ls) where
  -- by an event that neither opens nor closes a section of the thread the list stays
  same_list : (k : Effect) → Fits log e k → ((l : LockId) → e.thread ≡ u → k ≡ Opens l → ⊥)
      → ((l : LockId) → e.thread ≡ u → k ≡ Closes l → ⊥) → held_after log u e e.op ls ≡ ls
      → Are (log ++ e ∷ []) u (held_after log u e e.op ls)
  same_list k f un nc is = subst (Are (log ++ e ∷ []) u) (sym is) (record {
    in_order =
        keep log e u ord 0 ls are.in_order
        (λ l h. still_held log e ord k f u l (has_depth log u 0 ls are.in_order l h) (nc l));
    all = λ l d. are.all l ((held_same log e ord k f u l (un l) (nc l)).0 d);
  })

  same_thread : e.thread ≡ u → nat_eq e.thread.0 u.0 ≡ true
  same_thread t = eq-eqb _ _ (ap (λ (x : ThreadId). x.0) t)

  -- an event that does not begin or end the thread's hold of its lock passes no test
  no_test : (n : ℕ) → (e.thread ≡ u → n ≡ 0 → ⊥) → (nat_eq e.thread.0 u.0 && nat_eq n 0) ≡ false
  no_test n never = elim (thread_cases e.thread u) [
    | inl t ↦ and_right _ _ (ne_eqb n 0 (never t))
    | inr other ↦ and_left _ _ (ne_eqb _ _ (λ x. other (same_thread_id x)))
  ]

  acquires_if : (y : LockId) (b : Bool) → e.op ≡ Acquire y
      → (nat_eq e.thread.0 u.0 && nat_eq (depth log u y) 0) ≡ b
      → held_after log u e e.op ls ≡ (if b then ls ++ y ∷ [] else ls)
  acquires_if y b o test =
      ap (λ p. held_after log u e p ls) o ∙ ap (λ (c : Bool). if c then ls ++ y ∷ [] else ls) test

  releases_if : (y : LockId) (b : Bool) → e.op ≡ Release y
      → (nat_eq e.thread.0 u.0 && nat_eq (depth (log ++ e ∷ []) u y) 0) ≡ b
      → held_after log u e e.op ls ≡ (if b then without y ls else ls)
  releases_if y b o test =
      ap (λ p. held_after log u e p ls) o ∙ ap (λ (c : Bool). if c then without y ls else ls) test

  accesses_no_lock : (x : VarId) (k : AccessKind) → held_after log u e (access_of x k) ls ≡ ls
  accesses_no_lock x Read = refl
  accesses_no_lock x Write = refl

  next_list : (k : Effect) → Fits log e k → Are (log ++ e ∷ []) u (held_after log u e e.op ls)
  next_list k f = go k f (thread_cases e.thread u)
    where
      go : (k : Effect) → Fits log e k → (e.thread ≡ u) ⊎ (e.thread ≡ u → ⊥)
          → Are (log ++ e ∷ []) u (held_after log u e e.op ls)
      go k (accesses x j o) by = same_list k (accesses x j o) (λ l t is. cc) (λ l t is. cc)
          (ap (λ p. held_after log u e p ls) o ∙ accesses_no_lock x j)
      go k (forks v o) by = same_list k (forks v o) (λ l t is. cc) (λ l t is. cc)
          (ap (λ p. held_after log u e p ls) o)
      go k (joins v o) by = same_list k (joins v o) (λ l t is. cc) (λ l t is. cc)
          (ap (λ p. held_after log u e p ls) o)
      go k (again y o d) by = same_list k (again y o d) (λ l t is. cc) (λ l t is. cc)
          (acquires_if y false o (no_test _ (λ t z. d (subst (λ v. depth log v y ≡ 0) (sym t) z))))
      go k (inner y o d) by = same_list k (inner y o d) (λ l t is. cc) (λ l t is. cc)
          (releases_if y false o (no_test _ (λ t z. (
          let was : 0 < depth log e.thread y = held_now log e ord y o in
          let down : depth (log ++ e ∷ []) e.thread y ≡ depth log e.thread y - 1 = depth_down log e y o in
          let now : depth (log ++ e ∷ []) e.thread y ≡ 0
          = subst (λ v. depth (log ++ e ∷ []) v y ≡ 0) (sym t) z in
          d (omega arith)))))
      go k (opens y o d) (inr n) = same_list k (opens y o d) (λ l t is. n t) (λ l t is. cc)
          (acquires_if y false o (no_test _ (λ t. absurd (n t))))
      go k (closes y o d) (inr n) = same_list k (closes y o d) (λ l t is. cc) (λ l t is. n t)
          (releases_if y false o (no_test _ (λ t. absurd (n t))))
      go k (opens y o d) (inl t) =
          let zero : depth log u y ≡ 0 = subst (λ v. depth log v y ≡ 0) t d in
          subst (Are (log ++ e ∷ []) u) (sym (acquires_if y true o (and_from _ _ (same_thread t)
          (eq-eqb _ _ zero))))
          (record {
            in_order =
                push log e u ord 0 ls y are.in_order
                (λ l h. still_held log e ord k (opens y o d) u l (has_depth log u 0 ls are.in_order l h)
                (λ p is. cc))
                (omega arith) (opened log e u ord y t o d);
            all = λ l up. elim (lock_cases l y) [
              | inl same ↦ subst (λ (x : LockId). Has x (ls ++ y ∷ [])) (sym same) (has_last ls y)
              | inr n ↦ has_front l ls (y ∷ []) (are.all l
                  ((held_same log e ord (Opens y) (opens y o d) u l
                  (λ p is. n (let q : Opens y ≡ Opens l = is in cc)) (λ p is. cc)).0 up))
            ];
          })
      go k (closes y o d) (inl t) =
          let down : depth (log ++ e ∷ []) e.thread y ≡ depth log e.thread y - 1 = depth_down log e y o in
          let zero : depth (log ++ e ∷ []) u y ≡ 0
          = subst (λ v. depth (log ++ e ∷ []) v y ≡ 0) t (omega arith) in
          subst (Are (log ++ e ∷ []) u) (sym (releases_if y true o (and_from _ _ (same_thread t)
          (eq-eqb _ _ zero))))
          (record {
            in_order =
                drops log e u ord 0 ls y are.in_order
                (λ l n h. still_held log e ord k (closes y o d) u l (has_depth log u 0 ls are.in_order l h)
                (λ p is. n (let q : Closes y ≡ Closes l = is in cc)));
            all = λ l up. elim (lock_cases l y) [
              | inl same ↦ absurd (
                  let up' = subst (λ (x : LockId). 0 < depth (log ++ e ∷ []) u x) same up in
                  omega arith)
              | inr n ↦ has_without l y ls n (are.all l
                  ((held_same log e ord (Closes y) (closes y o d) u l (λ p is. cc)
                  (λ p is. n (let q : Closes y ≡ Closes l = is in cc))).0 up))
            ];
          })

-- event by event
list_from : (m : Limits) (before es : List Event) (u : ThreadId) (ls : List LockId)
    → WellFormed m (before ++ es) → Are before u ls → Are (before ++ es) u (held_from before es u ls)
list_from m before [] u ls w are = subst (λ xs. Are xs u ls) (sym (append-nil before)) are
list_from m before (e ∷ es) u ls w are =
    let split : (before ++ e ∷ []) ++ es ≡ before ++ e ∷ es = append_assoc before (e ∷ []) es in
    let longer : WellFormed m ((before ++ e ∷ []) ++ es) = subst (WellFormed m) (sym split) w in
    let ord = orderly m (before ++ e ∷ []) (well_formed_front m (before ++ e ∷ []) es longer) in
    let k = its_effect before e in
    subst (λ xs. Are xs u (held_from before (e ∷ es) u ls)) split
    (list_from m (before ++ e ∷ []) es u (held_after before u e e.op ls) longer
    (next_list before e u ord ls are k.0 k.1))

-- the list of the locks that a thread holds has each of them once, in the order of their outer acquires
pub held_in_order : (m : Limits) (log : List Event) (u : ThreadId) → WellFormed m log
    → AreHeld log u (held_in log u)
unfolding held_in depth
held_in_order m log u w =
    let a : Are log u (held_from [] log u [])
    = list_from m [] log u [] w (record { in_order = none 0; all = λ l d. absurd (omega arith) }) in
    record { in_order = a.in_order; all = λ l h. a.all l (holder_depth log l u h) }
