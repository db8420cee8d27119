-- Closed sections and their entries, after an event.
use Rattle.std.proofs.Common.{◌≡◌, ℕ, ◌<◌, ◌≤◌, ◌+◌, List, [], ◌∷◌, ◌++◌, true}
use Rattle.std.proofs.Common.{length, sym, ap, subst, ◌∙◌, arith, take}
use Rattle.std.proofs.lemmas.Bool.{cases_lt, cases_Bool, leb-true, le-leb, cond-true, cond-false}
use Rattle.std.proofs.lemmas.Option.{slice_get_within}
use mathlib.Core.Logic.{inl, inr}
use Rattle.event_core.proofs.Words.{Event, LockId, ThreadId}
use Rattle.event_core.specs.Closed.{Closed, EndsSection, IsClosed, Open, is_counted, number_counted}
use Rattle.event_core.specs.Count.{events_of, Past}
use Rattle.event_core.specs.Log.{Of, Section}
use Rattle.event_core.specs.Order.{Hb, here}
use Rattle.event_core.specs.Orderly.{Orderly}
use Rattle.event_core.specs.Rows.{Counted}
use Rattle.event_core.specs.Wcp.{Strict, rule_c_left}
use Rattle.event_core.proofs.OrderProperties.{hb_forward, hb_trans, hb_thread}
use Rattle.event_core.proofs.CountedProperties.{counted_longer, is_last, last_thread}
use Rattle.event_core.proofs.DepthProperties.{section_of}
use Rattle.event_core.proofs.EffectProperties.{front, last_closes}
use Rattle.event_core.proofs.LogProperties.{of_does}
use Rattle.event_core.proofs.BelowProperties.{sections_ordered, one_acquire}
use Rattle.event_core.proofs.OpenSections.{closing_open}
use Rattle.event_core.proofs.RelationsStay.{longer, back, section_too, hb_too}

-- a section that has ended stands in the log
pub section_within : {log : List Event} {u : ThreadId} {l : LockId} {a r : ℕ} → Section log u l a r
    → r < length log
section_within {log = log} {r = r} s = slice_get_within log r s.closed.does.event s.closed.does.at

-- the test of an entry is that of the acquire of its section
pub counts_acquire : (log : List Event) (c : ℕ → ℕ) (u : ThreadId) (l : LockId) (a r : ℕ) (q : Closed)
    → IsClosed log u l a r q → is_counted c q ≡ true → events_of (take a log) u < c u.0
counts_acquire log c u l a r q is h =
    let le : q.position ≤ c q.thread = leb-true q.position (c q.thread) h in
    let same : c q.thread ≡ c u.0 = ap c is.thread in
    omega arith

-- a section is counted by a clock that counts its acquire
pub acquire_counted : (log : List Event) (c : ℕ → ℕ) (u : ThreadId) (l : LockId) (a r : ℕ) (q : Closed)
    → IsClosed log u l a r q → events_of (take a log) u < c u.0 → is_counted c q ≡ true
acquire_counted log c u l a r q is lt =
    let same : c q.thread ≡ c u.0 = ap c is.thread in
    let at : q.position ≡ events_of (take a log) u + 1 = is.position in
    le-leb q.position (c q.thread) (omega (arith, lt, same, at))

-- so it says whether the acquire is in the clock's set
pub counted_is : (log : List Event) (P : ℕ → Type 0) (c : ℕ → ℕ) (u : ThreadId) (l : LockId) (a r : ℕ)
    (q : Closed) → Counted log P c → IsClosed log u l a r q → is_counted c q ≡ true → P a
counted_is log P c u l a r q n is h =
    ((n u).first a (of_does is.section.inside.opened.does)).1 (counts_acquire log c u l a r q is h)

-- a section is counted by the clock of a set that has its acquire
pub is_counted_of : (log : List Event) (P : ℕ → Type 0) (c : ℕ → ℕ) (u : ThreadId) (l : LockId) (a r : ℕ)
    (q : Closed) → Counted log P c → IsClosed log u l a r q → P a → is_counted c q ≡ true
is_counted_of log P c u l a r q n is p =
    acquire_counted log c u l a r q is (((n u).first a (of_does is.section.inside.opened.does)).0 p)

-- no more sections are counted than there are
pub number_most : (c : ℕ → ℕ) (qs : List Closed) → number_counted c qs ≤ length qs
number_most c [] = omega arith
number_most c (q ∷ qs) = let ih = number_most c qs in elim (cases_Bool (is_counted c q)) [
  | inl t ↦ let one = cond-true {A = ℕ} (is_counted c q) 1 0 t in omega arith
  | inr f ↦ let none = cond-false {A = ℕ} (is_counted c q) 1 0 f in omega arith
]

-- with the acquire of a section, those of the earlier ones on its lock are in a thread's past
earlier_past : {log : List Event} {u v : ThreadId} {l : LockId} {a r b s : ℕ} → Orderly log
    → (t : ThreadId) → Section log u l a r → Section log v l b s → r ≤ s → Past log (Strict log) t b
    → Past log (Strict log) t a
earlier_past {log = log} {u = u} {l = l} {a = a} {r = r} {s = s} ord t x y le p = elim (cases_lt r s) [
  | inl lt ↦ (
    p.0,
    p.1,
    rule_c_left
        (hb_trans (hb_thread u (of_does x.inside.opened.does) (of_does x.closed.does) x.inside.from)
        (sections_ordered ord x y lt)) p.2,
  )
  | inr ge ↦
      let same : r ≡ s = omega arith in
      let z : Section log u l a s = subst (λ n. Section log u l a n) same x in
      subst (λ n. Past log (Strict log) t n) (sym (one_acquire z y)) p
]

-- so the clock of that past counts them with it
pub counted_before : (log : List Event) (t : ThreadId) (c : ℕ → ℕ) (u v : ThreadId) (l : LockId)
    (a r b s : ℕ) (p q : Closed) → Orderly log → Counted log (Past log (Strict log) t) c
    → IsClosed log u l a r p → IsClosed log v l b s q → r ≤ s → is_counted c q ≡ true → is_counted c p ≡ true
counted_before log t c u v l a r b s p q ord n x y le is =
    is_counted_of log (Past log (Strict log) t) c u l a r p n x
    (earlier_past ord t x.section y.section le
    (counted_is log (Past log (Strict log) t) c v l b s q n y is))

-- of two entries the one with the lower release clock is the earlier one
pub release_order : (log : List Event) (u v : ThreadId) (l : LockId) (a r b s : ℕ) (p q : Closed)
    → IsClosed log u l a r p → IsClosed log v l b s q → ((w : ThreadId) → p.release w.0 ≤ q.release w.0)
    → r ≤ s
release_order log u v l a r b s p q x y le =
    let o : Of log r u = of_does x.section.closed.does in
    let mine : events_of (take r log) u < p.release u.0 = ((x.release u).first r o).0 here in
    let up : p.release u.0 ≤ q.release u.0 = le u in
    hb_forward (((y.release u).first r o).1 (omega (arith, mine, up)))

-- what happens before the end of a section stands in the log
pub before_within : {log : List Event} {u : ThreadId} {l : LockId} {a r i : ℕ} → Section log u l a r
    → Hb log i r → i < length log
before_within {r = r} {i = i} s b =
    let lt = section_within s in
    let le : i ≤ r = hb_forward b in
    omega (arith, lt, le)

module _ (log : List Event) (e : Event) where
  -- what is so of the sections that ended before the event, and of the one that ends at it, is so of each
  pub each_section : (l : LockId) (P : ThreadId → ℕ → ℕ → Type 0)
      → ((u : ThreadId) (a r : ℕ) → r < length log → Section log u l a r → P u a r)
      → ((a : ℕ) → Section (log ++ e ∷ []) e.thread l a (length log) → P e.thread a (length log))
      → (u : ThreadId) (a r : ℕ) → Section (log ++ e ∷ []) u l a r → P u a r
  each_section l P old new u a r x = elim (is_last log e r u (of_does x.closed.does)) [
    | inl lt ↦ old u a r lt (section_too (back (longer log (e ∷ []))) lt x)
    | inr at ↦
        let th : e.thread ≡ u = last_thread log e r u at (of_does x.closed.does) in
        subst (λ n. P u a n) (sym at)
        (subst (λ v. P v a (length log)) th
        (new a (subst (λ v. Section (log ++ e ∷ []) v l a (length log)) (sym th)
        (subst (λ n. Section (log ++ e ∷ []) u l a n) at x))))
  ]

  -- the entry of a closed section is its entry in the longer log
  pub closed_longer : (u : ThreadId) (l : LockId) (a r : ℕ) (q : Closed) → IsClosed log u l a r q
      → IsClosed (log ++ e ∷ []) u l a r q
  closed_longer u l a r q c = record {
    section = section_too (longer log (e ∷ [])) lt c.section;
    thread = c.thread;
    position =
        c.position ∙ sym (ap (λ xs. events_of xs u + 1)
        (front log e a (let from : a ≤ r = c.section.inside.from in omega (arith, lt))));
    release =
        counted_longer log e (λ i. Hb log i r) (λ i. Hb (log ++ e ∷ []) i r) q.release
        (λ i h. hb_too (longer log (e ∷ [])) lt h) (λ i b h. hb_too (back (longer log (e ∷ []))) lt h)
        (λ i h. (let le : i ≤ r = hb_forward h in omega (arith, lt))) c.release;
  }
    where
      lt : r < length log
      lt = section_within c.section

module _ (log : List Event) (e : Event) (ord : Orderly (log ++ e ∷ [])) where
  -- the entry of the section that the event ends
  pub closed_now : (l : LockId) (q : Closed) → q.thread ≡ e.thread.0
      → ((a : ℕ) → Open log e.thread l a → q.position ≡ events_of (take a log) e.thread + 1)
      → Counted (log ++ e ∷ []) (λ i. Hb (log ++ e ∷ []) i (length log)) q.release
      → (a : ℕ) → Section (log ++ e ∷ []) e.thread l a (length log)
      → IsClosed (log ++ e ∷ []) e.thread l a (length log) q
  closed_now l q thread position release a x =
      let p = closing_open log e ord e.thread l a x in
      let lt : a < length log = p.0 in
      record {
        section = x;
        thread = thread;
        position =
            position a p.1 ∙ sym (ap (λ xs. events_of xs e.thread + 1) (front log e a (omega arith)));
        release = release;
      }

  -- what happens before the end of a section happens before that of a later one on its lock
  pub before_end : (l : LockId) → EndsSection log e.thread l e → (i : ℕ) (u : ThreadId) (a r : ℕ)
      → Section log u l a r → Hb log i r → Hb (log ++ e ∷ []) i (length log)
  before_end l is i u a r x b =
      let lt = section_within x in
      let closes = last_closes log e l is.op is.outer in
      let mine = section_of (log ++ e ∷ []) e.thread l (length log) ord closes in
      hb_trans (hb_too (longer log (e ∷ [])) lt b)
      (hb_trans (sections_ordered ord (section_too (longer log (e ∷ [])) lt x) mine.1 lt)
      (hb_thread e.thread (of_does mine.1.inside.opened.does) (of_does mine.1.closed.does)
      mine.1.inside.from))
