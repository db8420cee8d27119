-- The sections that rule (a) pairs with an access, and those that the summaries name.
use Rattle.std.proofs.Common.{◌≡◌, ℕ, ◌<◌, ◌≤◌, List, [], ◌∷◌, ◌++◌, cond}
use Rattle.std.proofs.Common.{refl, sym, ap, subst, ◌∙◌, arith, ◌⊎◌}
use Rattle.std.proofs.lemmas.Bool.{cases_eq, cases_order, eq-eqb, ne_eqb}
use mathlib.Core.Logic.{inl, inr}
use Rattle.event_core.specs.declared.events.AccessKind.{AccessKind}
use Rattle.event_core.specs.declared.events.AccessKind.TheVariants.{Read, Write}
use Rattle.event_core.specs.declared.events.Event.{Event}
use Rattle.event_core.specs.declared.ids.LockId.{LockId}
use Rattle.event_core.specs.declared.ids.ThreadId.{ThreadId}
use Rattle.event_core.specs.declared.ids.VarId.{VarId}
use Rattle.event_core.specs.Closed.{OtherSection, Has, first, later, number_of}
use Rattle.event_core.specs.Log.{depth, Section, OpsConflict}
use Rattle.event_core.specs.Order.{Hb, here}
use Rattle.event_core.specs.Orderly.{Orderly}
use Rattle.event_core.specs.Effect.{access_of}
use Rattle.event_core.specs.Rows.{join, Counted}
use Rattle.event_core.proofs.OrderProperties.{hb_trans, hb_thread}
use Rattle.event_core.proofs.CountedProperties.{counted_none, counted_join, counted_same}
use Rattle.event_core.proofs.OrderlyProperties.{orderly}
use Rattle.event_core.proofs.WellFormedProperties.{well_formed_front}
use Rattle.event_core.proofs.LogProperties.{of_does}
use Rattle.event_core.proofs.HasProperties.{none_in, has_front, has_back, has_either}
use Rattle.event_core.proofs.BelowProperties.{sections_ordered}
use Rattle.event_core.proofs.SectionNumbers.{number_order, number_same}
use Rattle.event_core.proofs.OtherSections.{meets_other, other_meets}
use Rattle.event_core.proofs.RelationsStay.{longer, back, section_too}
use Rattle.section_sum.specs.Laws.{SourcesCount}
use Rattle.section_sum.specs.Newest.{section}
use Rattle.section_sum.specs.Paired.{Pairs, AreSources, AreReleaseClocks, joined, IsBelowPaired}
use Rattle.section_sum.specs.Standing.{StandsFor, IsAccessBy}
use Rattle.section_sum.specs.Sums.{Sums, others_of, sources_of}

module _ (log : List Event) (e : Event) where
  -- a section whose release the rule pairs with the event stands in the log
  paired_section : (l : LockId) (r : ℕ) → Pairs log e l r → (u : ThreadId) × (a : ℕ) × Section log u l a r
  paired_section l r p =
      let m = p.meets in (
        m.in_section.thread,
        m.in_section.acquire,
        subst (λ y. Section log m.in_section.thread y m.in_section.acquire r) p.lock
            (section_too (back (longer log (e ∷ []))) m.before m.in_section.section),
      )

  -- it has an access of the variable that conflicts, and is another thread's
  pub paired_other : (l : LockId) (x : VarId) (k : AccessKind) (r : ℕ) → e.op ≡ access_of x k
      → Pairs log e l r
      → (j : AccessKind) × OpsConflict (access_of x j) (access_of x k) × OtherSection log l x j e.thread r
  paired_other l x k r o p =
      let q = meets_other log e x k r o p.meets in
      (q.0, q.1, subst (λ y. OtherSection log y x q.0 e.thread r) p.lock q.2)

  -- and the rule pairs the release of each such section
  pub other_paired : (l : LockId) (x : VarId) (k j : AccessKind) (r : ℕ) → e.op ≡ access_of x k
      → 0 < depth log e.thread l → OpsConflict (access_of x j) (access_of x k)
      → OtherSection log l x j e.thread r → Pairs log e l r
  other_paired l x k j r o held c q =
      let m = other_meets log e l x k j r o held c q in record { meets = m.0; lock = m.1 }

-- a number of one section is that section's
in_section_of : (m n : ℕ) → Has n (section m) → (0 < m) × (n ≡ m)
in_section_of m n h = go (cases_eq m 0)
  where
    go : (m ≡ 0) ⊎ (m ≡ 0 → ⊥) → (0 < m) × (n ≡ m)
    go (inl z) =
        absurd (none_in (subst (λ b. Has n (cond b [] (m ∷ []))) (eq-eqb m 0 z) h))
    go (inr some) = by (subst (λ b. Has n (cond b [] (m ∷ []))) (ne_eqb m 0 some) h)
      where
        by : Has n (m ∷ []) → (0 < m) × (n ≡ m)
        by (first _ _ is) = (omega (arith, some), is)
        by (later _ _ x) = absurd (none_in x)

of_section : (m : ℕ) → 0 < m → Has m (section m)
of_section m up =
    subst (λ b. Has m (cond b [] (m ∷ []))) (sym (ne_eqb m 0 (λ z. omega (arith, z, up)))) (first m [] refl)

-- the list has a number of each kind that conflicts, and no other
record HasKinds (s : Sums) (l : LockId) (x : VarId) (k : AccessKind) (t : ThreadId) (numbers : List ℕ)
    : Type 0 where
  pub from : (n : ℕ) → Has n numbers
      → (j : AccessKind) × OpsConflict (access_of x j) (access_of x k) × (0 < n)
      × (n ≡ others_of s l.0 x.0 j t.0)
  pub has : (j : AccessKind) → OpsConflict (access_of x j) (access_of x k) → 0 < others_of s l.0 x.0 j t.0
      → Has (others_of s l.0 x.0 j t.0) numbers

has_kinds : (s : Sums) (l : LockId) (x : VarId) (k : AccessKind) (t : ThreadId)
    → HasKinds s l x k t (sources_of s l.0 x.0 k t.0)
unfolding sources_of
has_kinds s l x Read t = record {
  from = λ n h. (let a = in_section_of _ n h in (Write, refl, subst (λ m. 0 < m) (sym a.1) a.0, a.1));
  has = has;
}
  where
    has : (j : AccessKind) → OpsConflict (access_of x j) (access_of x Read) → 0 < others_of s l.0 x.0 j t.0
        → Has (others_of s l.0 x.0 j t.0) (section (others_of s l.0 x.0 Write t.0))
    has Write c up = of_section _ up
    has Read c up = absurd c
has_kinds s l x Write t = record { from = from; has = has }
  where
    stores : ℕ
    stores = others_of s l.0 x.0 Write t.0

    loads : ℕ
    loads = others_of s l.0 x.0 Read t.0

    from : (n : ℕ) → Has n (section stores ++ section loads)
        → (j : AccessKind) × OpsConflict (access_of x j) (access_of x Write) × (0 < n)
        × (n ≡ others_of s l.0 x.0 j t.0)
    from n h = go (has_either (section stores) (section loads) h)
      where
        go : Has n (section stores) ⊎ Has n (section loads)
            → (j : AccessKind) × OpsConflict (access_of x j) (access_of x Write) × (0 < n)
            × (n ≡ others_of s l.0 x.0 j t.0)
        go (inl a) = let b = in_section_of stores n a in (Write, refl, subst (λ m. 0 < m) (sym b.1) b.0, b.1)
        go (inr a) = let b = in_section_of loads n a in (Read, refl, subst (λ m. 0 < m) (sym b.1) b.0, b.1)

    has : (j : AccessKind) → OpsConflict (access_of x j) (access_of x Write) → 0 < others_of s l.0 x.0 j t.0
        → Has (others_of s l.0 x.0 j t.0) (section stores ++ section loads)
    has Write c up = has_front stores (section stores) (section loads) (of_section stores up)
    has Read c up = has_back (section stores) (section loads) (of_section loads up)

-- what the summaries name to an access are the sources of the rule
pub sources_stand : (log : List Event) (e : Event) (s : Sums) (l : LockId) (x : VarId) (k : AccessKind)
    → StandsFor log s → e.op ≡ access_of x k → 0 < depth log e.thread l
    → AreSources log e l (sources_of s l.0 x.0 k e.thread.0)
sources_stand log e s l x k st o held = record {
  paired = λ n h. (let a = kinds.from n h in paired n a.0 a.1 a.2 a.3);
  newest = λ r p. (let q = paired_other log e l x k r o p in newest r q.0 q.1 q.2);
}
  where
    kinds : HasKinds s l x k e.thread (sources_of s l.0 x.0 k e.thread.0)
    kinds = has_kinds s l x k e.thread

    paired : (n : ℕ) (j : AccessKind) → OpsConflict (access_of x j) (access_of x k) → 0 < n
        → n ≡ others_of s l.0 x.0 j e.thread.0 → (r : ℕ) × Pairs log e l r × (number_of log l r ≡ n)
    paired n j c up is =
        let q = (st.others l x j e.thread).some (subst (λ m. 0 < m) is up) in
        (q.0, other_paired log e l x k j q.0 o held c q.1, q.2 ∙ sym is)

    newest : (r : ℕ) (j : AccessKind) → OpsConflict (access_of x j) (access_of x k)
        → OtherSection log l x j e.thread r
        → (n : ℕ) × Has n (sources_of s l.0 x.0 k e.thread.0) × (number_of log l r ≤ n)
    newest r j c q =
        let le = (st.others l x j e.thread).newest r q in
        (others_of s l.0 x.0 j e.thread.0, kinds.has j c (omega (arith, le)), le)

-- i happens before the release with the number that the rule pairs with the event
abbrev Below : List Event → Event → LockId → ℕ → ℕ → Type 0
Below log e l n i = (r : ℕ) × Pairs log e l r × (number_of log l r ≡ n) × Hb log i r

-- and so before one of those with the numbers
abbrev Listed : List Event → Event → LockId → List ℕ → ℕ → Type 0
Listed log e l ns i = (n : ℕ) × Has n ns × Below log e l n i

module _ (log : List Event) (e : Event) (l : LockId) (ord : Orderly log) where
  -- the clock of a number counts what happens before its release
  counted_one : (clocks : ℕ → ℕ → ℕ) → AreReleaseClocks log l clocks → (n : ℕ)
      → (r : ℕ) × Pairs log e l r × (number_of log l r ≡ n) → Counted log (Below log e l n) (clocks n)
  counted_one clocks are n p =
      let s = paired_section log e l p.0 p.1 in
      subst (λ m. Counted log (Below log e l n) (clocks m)) p.2
      (counted_same log (λ i. Hb log i p.0) (Below log e l n) (clocks (number_of log l p.0))
      (λ i h. (p.0, p.1, p.2, h))
      (λ i q. (let t = paired_section log e l q.0 q.1 in
      subst (λ r. Hb log i r)
      (number_same log l q.0 p.0 t.0 s.0 t.2.closed s.2.closed (q.2 ∙ sym p.2)) q.3))
      (are s.0 s.1 p.0 s.2))

  counted_all : (clocks : ℕ → ℕ → ℕ) → AreReleaseClocks log l clocks → (ns : List ℕ)
      → ((n : ℕ) → Has n ns → (r : ℕ) × Pairs log e l r × (number_of log l r ≡ n))
      → Counted log (Listed log e l ns) (joined clocks ns)
  counted_all clocks are [] paired = counted_none log (Listed log e l []) (λ i p. none_in p.1)
  counted_all clocks are (m ∷ ms) paired =
      counted_same log (λ i. Below log e l m i ⊎ Listed log e l ms i) (Listed log e l (m ∷ ms))
      (join (clocks m) (joined clocks ms)) to (λ i p. from i p.0 p.1 p.2)
      (counted_join log (Below log e l m) (Listed log e l ms) (clocks m) (joined clocks ms)
      (counted_one clocks are m (paired m (first m ms refl)))
      (counted_all clocks are ms (λ n h. paired n (later m ms h))))
    where
      to : (i : ℕ) → Below log e l m i ⊎ Listed log e l ms i → Listed log e l (m ∷ ms) i
      to i (inl p) = (m, first m ms refl, p)
      to i (inr p) = (p.0, later m ms p.1, p.2)

      from : (i n : ℕ) → Has n (m ∷ ms) → Below log e l n i → Below log e l m i ⊎ Listed log e l ms i
      from i n (first _ _ is) p = inl (subst (λ k. Below log e l k i) is p)
      from i n (later _ _ h) p = inr (n, h, p)

  -- of two sections on the lock, the release of the one with the lower number happens before the other's
  lower_before : (r s : ℕ) → Pairs log e l r → Pairs log e l s → number_of log l r ≤ number_of log l s
      → Hb log r s
  lower_before r s p q le =
      go (cases_order r s) (number_order log l r s y.0 y.2.closed le)
    where
      x : (u : ThreadId) × (a : ℕ) × Section log u l a r
      x = paired_section log e l r p

      y : (u : ThreadId) × (a : ℕ) × Section log u l a s
      y = paired_section log e l s q

      go : (r ≡ s) ⊎ ((r < s) ⊎ (s < r)) → r ≤ s → Hb log r s
      go (inl same) at_most = subst (λ i. Hb log r i) same here
      go (inr (inl lt)) at_most =
          hb_trans (sections_ordered ord x.2 y.2 lt)
          (hb_thread y.0 (of_does y.2.inside.opened.does) (of_does y.2.closed.does) y.2.inside.from)
      go (inr (inr gt)) at_most = absurd (omega (arith, gt, at_most))

-- the clocks of the sources count what happens before the releases that the rule pairs with the event
pub sources_count : SourcesCount
sources_count limits log e l numbers clocks w sources are =
    counted_same log (Listed log e l numbers) (IsBelowPaired log e l) (joined clocks numbers)
    (λ i p. (p.2.0, p.2.1, p.2.3)) (λ i p. from i p.0 p.1 p.2)
    (counted_all log e l ord clocks are numbers sources.paired)
  where
    ord : Orderly log
    ord = orderly limits log (well_formed_front limits log (e ∷ []) w)

    from : (i r : ℕ) → Pairs log e l r → Hb log i r → Listed log e l numbers i
    from i r p h =
        let n = sources.newest r p in
        let s = sources.paired n.0 n.1 in
        let le : number_of log l r ≤ number_of log l s.0
        = subst (λ m. number_of log l r ≤ m) (sym s.2) n.2 in
        (n.0, n.1, (s.0, s.1, s.2, hb_trans h (lower_before log e l ord r s.0 p s.1 le)))

-- the same in the words of the contract
pub sources_paired : (log : List Event) (e : Event) (s : Sums) (t : ThreadId) (l : LockId) (x : VarId)
    (k : AccessKind) (numbers : List ℕ) → numbers ≡ sources_of s l.0 x.0 k t.0 → IsAccessBy t x k e
    → 0 < depth log t l → StandsFor log s → AreSources log e l numbers
sources_paired log e s t l x k numbers exact is held st =
    subst (λ ns. AreSources log e l ns)
    (ap (λ (u : ThreadId). sources_of s l.0 x.0 k u.0) is.thread ∙ sym exact)
    (sources_stand log e s l x k st is.op (subst (λ u. 0 < depth log u l) (sym is.thread) held))
