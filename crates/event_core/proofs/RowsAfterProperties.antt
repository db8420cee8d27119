-- The rows after an event, for any relation that an event's clock is known of.
use Rattle.std.proofs.Common.{◌≡◌, ℕ, ◌<◌, ◌≤◌, List, [], ◌∷◌, ◌++◌, Bool, true, false, length, refl, sym, ap}
use Rattle.std.proofs.Common.{subst, ◌∙◌, arith, cond, ◌⊎◌, ◌↔◌, None, nat_eq}
use Rattle.std.proofs.lemmas.Bool.{cases_eq, both_ways, or_left, or_right}
use Rattle.std.proofs.lemmas.Map.Keys.{any_passes_from_place}
use Rattle.std.proofs.lemmas.Option.{slice_get_within}
use mathlib.Core.Logic.{inl, inr}
use Rattle.event_core.proofs.Words.{ThreadId, LockId, Event, Limits, Roots, OnlyMain, Free, AlreadyStarted}
use Rattle.event_core.proofs.Words.{Op, Release, Fork}
use Rattle.event_core.specs.Log.{Does, Of, OuterRelease}
use Rattle.event_core.specs.Order.{Hb, here}
use Rattle.event_core.specs.Orderly.{Orderly}
use Rattle.event_core.specs.Refusal.{WellFormed, known, forks as forks_it, op_forks, mentions}
use Rattle.event_core.specs.Refusal.{already_started}
use Rattle.event_core.specs.Count.{Past, LockPast}
use Rattle.event_core.specs.Newest.{by_thread}
use Rattle.event_core.specs.Effect.{Effect}
use Rattle.event_core.specs.Rows.{Rows, with_row, to_child, to_lock, rows_after, Counted, RowsStand}
use Rattle.event_core.proofs.DepthProperties.{thread_cases, lock_cases, same_thread_id, same_lock_id}
use Rattle.event_core.proofs.DepthProperties.{section_of}
use Rattle.event_core.proofs.LogProperties.{of_does, does_op}
use Rattle.event_core.proofs.OrderProperties.{hb_trans, hb_thread}
use Rattle.event_core.proofs.RelationsStay.{longer, back, of, releases_it}
use Rattle.event_core.proofs.HbNewProperties.{new_hb}
use Rattle.event_core.proofs.BelowProperties.{sections_ordered}
use Rattle.event_core.proofs.OrderlyProperties.{legal_reasons, when_none}
use Rattle.event_core.proofs.WellFormedProperties.{well_formed_last}
use Rattle.event_core.proofs.CountedProperties.{nat_eq_same, nat_eq_other, counted_same, counted_longer}
use Rattle.event_core.proofs.CountedProperties.{last_of, last_does, last_as, is_last, last_thread, last_op}
use Rattle.event_core.proofs.EffectProperties.{Fits, closes, forks, last_closes, effect_at}
use Rattle.event_core.proofs.OpenSections.{is_closes}
use Rattle.event_core.proofs.PastProperties.{Source, source_within, old_source, new_source}

-- the row that was written
pub row_same : {A : Type 0} (t : ℕ) (g : A) (f : ℕ → A) → with_row t g f t ≡ g
row_same t g f = ap (λ (b : Bool). cond b g (f t)) (nat_eq_same t)

-- each other row
pub row_other : {A : Type 0} (t : ℕ) (g : A) (f : ℕ → A) (a : ℕ) → (a ≡ t → ⊥) → with_row t g f a ≡ f a
row_other t g f a n = ap (λ (b : Bool). cond b g (f a)) (nat_eq_other a t n)

-- one cell of a table of rows
pub cell_same : {A : Type 0} (t l : ℕ) (v : A) (f : ℕ → ℕ → A) → with_row t (with_row l v (f t)) f t l ≡ v
cell_same t l v f = ap (λ g. g l) (row_same t (with_row l v (f t)) f) ∙ row_same l v (f t)

-- each cell but the one that was written
pub cell_other : {A : Type 0} (t l : ℕ) (v : A) (f : ℕ → ℕ → A) (a b : ℕ) → (a ≡ t → b ≡ l → ⊥)
    → with_row t (with_row l v (f t)) f a b ≡ f a b
cell_other {A = A} t l v f a b n = elim (cases_eq a t) [
  | inl e ↦ subst (λ x. with_row t (with_row l v (f t)) f x b ≡ f x b) (sym e)
      (ap (λ g. g b) (row_same t (with_row l v (f t)) f) ∙ row_other l v (f t) b (n e))
  | inr ne ↦ ap (λ g. g b) (row_other t (with_row l v (f t)) f a ne)
]

-- the event is of the thread, or forks it
unfoldable pub Leads : Event → ThreadId → Type 0
Leads e t = (e.thread ≡ t) ⊎ (e.op ≡ Fork t)

fork_cases : (o : Op) (t : ThreadId) → (o ≡ Fork t) ⊎ (o ≡ Fork t → ⊥)
fork_cases (Fork u) t = elim (thread_cases u t) [ inl e ↦ inl (ap Fork e) | inr n ↦ inr (λ p. n cc) ]
fork_cases _ t = inr (λ p. cc)

-- an event leads into a thread or not
pub leads_cases : (e : Event) (t : ThreadId) → Leads e t ⊎ (Leads e t → ⊥)
unfolding Leads
leads_cases e t = elim (thread_cases e.thread t) [
  | inl a ↦ inl (inl a)
  | inr n ↦ elim (fork_cases e.op t) [
    | inl b ↦ inl (inr b)
    | inr m ↦ inr (λ l. elim l [ inl a ↦ n a | inr b ↦ m b ])
  ]
]

-- nothing of a forked thread stands before its fork
pub fresh : (m : Limits) (log : List Event) (e : Event) (u : ThreadId) → WellFormed m (log ++ e ∷ [])
    → e.op ≡ Fork u → (g : ℕ) (v : ThreadId) → Does log g v (Fork u) → ⊥
fresh m log e u w o g v d = go m.roots none
  where
    none : known m.roots log u ≡ false
    none =
        let r = legal_reasons m log e (well_formed_last m log e w) in
        when_none _ AlreadyStarted (subst (λ p. already_started m log p ≡ None) o r.not_known)

    is_fork : op_forks u d.event.op ≡ true
    is_fork = ap (op_forks u) d.does ∙ nat_eq_same u.0

    go : (r : Roots) → known r log u ≡ false → ⊥
    go OnlyMain f =
        both_ways _ f (or_right (nat_eq u.0 0) _
        (any_passes_from_place (forks_it u) log g d.event d.at is_fork))
    go Free f =
        both_ways _ f (any_passes_from_place (mentions u) log g d.event d.at
        (or_right (nat_eq d.event.thread.0 u.0) _ (or_left _ _ is_fork)))

module _ (m : Limits) (log : List Event) (e : Event) (w : WellFormed m (log ++ e ∷ []))
    (ord : Orderly (log ++ e ∷ []))
    (R Q : ℕ → ℕ → Type 0)
    (same : (i j : ℕ) → j < length log → R i j ↔ Q i j)
    (forward : (i j : ℕ) → Q i j → i ≤ j)
    (up : (i g j : ℕ) → Q i g → Hb (log ++ e ∷ []) g j → Q i j) where
  past_old : (t : ThreadId) (i : ℕ) → Past log R t i → Past (log ++ e ∷ []) Q t i
  past_old t i p =
      let lt = source_within log t p.0 p.1 in (p.0, new_source log e t p.0 lt p.1, (same i p.0 lt).0 p.2)

  past_last : (t : ThreadId) (i : ℕ) → Leads e t → Q i (length log) → Past (log ++ e ∷ []) Q t i
  unfolding Leads
  past_last t i (inl a) q =
      (length log, inl (subst (λ v. Of (log ++ e ∷ []) (length log) v) a (last_of log e)), q)
  past_last t i (inr a) q = (length log, inr (e.thread, last_as log e a), q)

  past_split : (t : ThreadId) (i : ℕ) → Past (log ++ e ∷ []) Q t i
      → Past log R t i ⊎ (Leads e t × Q i (length log))
  unfolding Leads
  past_split t i p = go p.1 (elim p.1 [
    | inl o ↦ is_last log e p.0 t o
    | inr d ↦ is_last log e p.0 d.0 (of_does d.1)
  ])
    where
      go : Source (log ++ e ∷ []) t p.0 → (p.0 < length log) ⊎ (p.0 ≡ length log)
          → Past log R t i ⊎ (Leads e t × Q i (length log))
      go s (inl lt) = inl (p.0, old_source log e t p.0 lt s, (same i p.0 lt).1 p.2)
      go (inl o) (inr is) = inr (inl (last_thread log e p.0 t is o), subst (λ j. Q i j) is p.2)
      go (inr d) (inr is) = inr (inr (last_op log e p.0 d.0 (Fork t) is d.1), subst (λ j. Q i j) is p.2)

  -- what is below a thread that the event leads is below the event
  past_led : (t : ThreadId) (i : ℕ) → Leads e t → Past log R t i → Q i (length log)
  unfolding Leads
  past_led t i (inl a) p =
      let lt = source_within log t p.0 p.1 in
      up i p.0 (length log) ((same i p.0 lt).0 p.2)
      (new_hb log e p.0 (by_thread (p.0, subst (λ v. Source log v p.0) (sym a) p.1, here)))
  past_led t i (inr a) p = absurd (elim p.1 [
    | inl o ↦
        let lt : p.0 < length log = source_within log t p.0 (inl o) in
        let f = ord.fork_first (length log) p.0 t e.thread (last_as log e a)
        (of (longer log (e ∷ [])) lt o) in
        omega arith
    | inr d ↦ fresh m log e t w a p.0 d.0 d.1
  ])

  child_row : (k : Effect) → Fits log e k → (t : ThreadId) (g : ℕ → ℕ) (f : ℕ → ℕ → ℕ) → e.op ≡ Fork t
      → to_child k g f t.0 ≡ g
  child_row k h t g f a =
      subst (λ q. to_child q g f t.0 ≡ g) (sym (effect_at log e k (Fork t) h a)) (row_same t.0 g f)

  child_other : (k : Effect) → Fits log e k → (t : ThreadId) (g : ℕ → ℕ) (f : ℕ → ℕ → ℕ) → (e.op ≡ Fork t → ⊥)
      → to_child k g f t.0 ≡ f t.0
  child_other _ (forks u o) t g f n = row_other u.0 g f t.0 (λ q. n (o ∙ ap Fork (sym (same_thread_id q))))
  child_other _ h t g f n = refl

  -- the row of a thread that the event leads into is the event's clock
  pub led_row : (k : Effect) → Fits log e k → (t : ThreadId) (g : ℕ → ℕ) (f : ℕ → ℕ → ℕ) → Leads e t
      → to_child k g (with_row e.thread.0 g f) t.0 ≡ g
  unfolding Leads
  led_row k h t g f (inr a) = child_row k h t g (with_row e.thread.0 g f) a
  led_row k h t g f (inl a) = elim (fork_cases e.op t) [
    | inl b ↦ child_row k h t g (with_row e.thread.0 g f) b
    | inr n ↦ child_other k h t g (with_row e.thread.0 g f) n
        ∙ subst (λ (v : ThreadId). with_row e.thread.0 g f v.0 ≡ g) a (row_same e.thread.0 g f)
  ]

  -- each other thread keeps its row
  pub other_row : (k : Effect) → Fits log e k → (t : ThreadId) (g : ℕ → ℕ) (f : ℕ → ℕ → ℕ) → (Leads e t → ⊥)
      → to_child k g (with_row e.thread.0 g f) t.0 ≡ f t.0
  unfolding Leads
  other_row k h t g f n =
      child_other k h t g (with_row e.thread.0 g f) (λ b. n (inr b))
      ∙ row_other e.thread.0 g f t.0 (λ q. n (inl (same_thread_id (sym q))))

  -- locks
  ClosesIt : LockId → Type 0
  ClosesIt l = OuterRelease (log ++ e ∷ []) (length log) e.thread l

  lock_old : (l : LockId) (i : ℕ) → LockPast log R l i → LockPast (log ++ e ∷ []) Q l i
  lock_old l i p =
      let lt : p.0 < length log = slice_get_within log p.0 p.1.1.does.event p.1.1.does.at in
      (p.0, (p.1.0, releases_it (longer log (e ∷ [])) lt p.1.1), (same i p.0 lt).0 p.2)

  lock_split : (l : LockId) (i : ℕ) → LockPast (log ++ e ∷ []) Q l i
      → LockPast log R l i ⊎ (ClosesIt l × Q i (length log))
  unfolding ClosesIt
  lock_split l i p = elim (is_last log e p.0 p.1.0 (of_does p.1.1.does)) [
    | inl lt ↦ inl (p.0, (p.1.0, releases_it (back (longer log (e ∷ []))) lt p.1.1), (same i p.0 lt).1 p.2)
    | inr is ↦ inr (
      subst (λ v. OuterRelease (log ++ e ∷ []) (length log) v l)
          (sym (last_thread log e p.0 p.1.0 is (of_does p.1.1.does)))
          (subst (λ j. OuterRelease (log ++ e ∷ []) j p.1.0 l) is p.1.1),
      subst (λ j. Q i j) is p.2,
    )
  ]

  -- an earlier release of the lock is below a closing one
  lock_led : (l : LockId) (i : ℕ) → ClosesIt l → LockPast log R l i → Q i (length log)
  unfolding ClosesIt
  lock_led l i c p =
      let lt : p.0 < length log = slice_get_within log p.0 p.1.1.does.event p.1.1.does.at in
      let s = section_of (log ++ e ∷ []) p.1.0 l p.0 ord (releases_it (longer log (e ∷ [])) lt p.1.1) in
      let t = section_of (log ++ e ∷ []) e.thread l (length log) ord c in
      let b : Hb (log ++ e ∷ []) p.0 t.0 = sections_ordered ord s.1 t.1 lt in
      up i p.0 (length log) ((same i p.0 lt).0 p.2)
      (hb_trans b
      (hb_thread e.thread (of_does t.1.inside.opened.does) (of_does t.1.closed.does) t.1.inside.from))

  closes_cases : (l : LockId) (k : Effect) → Fits log e k → (g : ℕ → ℕ) (f : ℕ → ℕ → ℕ)
      → (ClosesIt l × (to_lock k g f l.0 ≡ g)) ⊎ ((ClosesIt l → ⊥) × (to_lock k g f l.0 ≡ f l.0))
  unfolding ClosesIt
  closes_cases l _ (closes n o d) g f = elim (lock_cases l n) [
    | inl q ↦ inl (
      subst (λ x. OuterRelease (log ++ e ∷ []) (length log) e.thread x) (sym q) (last_closes log e n o d),
      subst (λ (x : LockId). with_row n.0 g f x.0 ≡ g) (sym q) (row_same n.0 g f),
    )
    | inr ne ↦ inr (
      λ c. ne (let h : Release n ≡ Release l = sym o ∙ does_op (last_does log e) c.does in cc),
      row_other n.0 g f l.0 (λ q. ne (same_lock_id q)),
    )
  ]
  closes_cases l k h g f = inr (λ c. absurd (let q = is_closes log e ord k h l c in cc), refl)

  -- a set that grows by what is below the event, where the event leads it
  record Grows (Lead : Type 0) (Old New : ℕ → Type 0) : Type 0 where
    pub old : (i : ℕ) → Old i → New i
    pub last : (i : ℕ) → Lead → Q i (length log) → New i
    pub split : (i : ℕ) → New i → Old i ⊎ (Lead × Q i (length log))
    pub led : (i : ℕ) → Lead → Old i → Q i (length log)
    pub within : (i : ℕ) → Old i → i < length log

  past_grows : (t : ThreadId) → Grows (Leads e t) (Past log R t) (Past (log ++ e ∷ []) Q t)
  past_grows t = record {
    old = past_old t;
    last = past_last t;
    split = past_split t;
    led = past_led t;
    within = λ i p. (
        let lt = source_within log t p.0 p.1 in
        let le = forward i p.0 ((same i p.0 lt).0 p.2) in
        omega arith);
  }

  lock_grows : (l : LockId) → Grows (ClosesIt l) (LockPast log R l) (LockPast (log ++ e ∷ []) Q l)
  unfolding ClosesIt
  lock_grows l = record {
    old = lock_old l;
    last = λ i c q. (length log, (e.thread, c), q);
    split = lock_split l;
    led = lock_led l;
    within = λ i p. (
        let lt = slice_get_within log p.0 p.1.1.does.event p.1.1.does.at in
        let le = forward i p.0 ((same i p.0 lt).0 p.2) in
        omega arith);
  }

  -- so its clock is the event's where the event leads it, and stays where it does not
  counted : {Lead : Type 0} {Old New : ℕ → Type 0} (f g row : ℕ → ℕ) → Grows Lead Old New
      → (Lead × (row ≡ g)) ⊎ ((Lead → ⊥) × (row ≡ f)) → Counted log Old f
      → Counted (log ++ e ∷ []) (λ i. Q i (length log)) g → Counted (log ++ e ∷ []) New row
  counted {Old = Old} {New = New} f g row grows cases was is = elim cases [
    | inl c ↦
        subst (Counted (log ++ e ∷ []) New) (sym c.1)
        (counted_same (log ++ e ∷ []) (λ i. Q i (length log)) New g (λ i q. grows.last i c.0 q)
        (λ i p. elim (grows.split i p) [ inl o ↦ grows.led i c.0 o | inr r ↦ r.1 ]) is)
    | inr c ↦
        subst (Counted (log ++ e ∷ []) New) (sym c.1)
        (counted_longer log e Old New f grows.old
        (λ i lt p. elim (grows.split i p) [ inl o ↦ o | inr r ↦ absurd (c.0 r.0) ])
        (λ i p. elim (grows.split i p) [ inl o ↦ grows.within i o | inr r ↦ absurd (c.0 r.0) ]) was)
  ]

  -- the rows after an event, whose clock counts what is below it, are those of the longer log
  pub rows_stand : (k : Effect) → Fits log e k → (g : ℕ → ℕ) (r : Rows) → RowsStand log R r
      → Counted (log ++ e ∷ []) (λ i. Q i (length log)) g
      → RowsStand (log ++ e ∷ []) Q (rows_after e.thread k g r)
  rows_stand k h g r s is = record {
    thread = λ t. counted (r.thread t.0) g (to_child k g (with_row e.thread.0 g r.thread) t.0) (past_grows t)
        (elim (leads_cases e t) [
          | inl l ↦ inl (l, led_row k h t g r.thread l)
          | inr n ↦ inr (n, other_row k h t g r.thread n)
        ]) (s.thread t) is;
    lock = λ l. counted (r.lock l.0) g (to_lock k g r.lock l.0) (lock_grows l) (closes_cases l k h g r.lock)
        (s.lock l) is;
  }
