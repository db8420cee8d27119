-- The clock that rule (b) gives a closing release counts what is below the earlier sections on its lock.
use Rattle.std.proofs.Common.{◌≡◌, ℕ, List, [], ◌∷◌, Bool, true, false, cond, refl, sym, subst, ◌⊎◌}
use Rattle.std.proofs.lemmas.Bool.{cases_Bool}
use mathlib.Core.Logic.{inl, inr}
use Rattle.event_core.specs.declared.events.Event.{Event}
use Rattle.event_core.specs.declared.ids.LockId.{LockId}
use Rattle.event_core.specs.declared.ids.ThreadId.{ThreadId}
use Rattle.event_core.specs.Closed.{Closed, is_counted, below_closed, Has, first, later, IsClosed}
use Rattle.event_core.specs.Count.{Past}
use Rattle.event_core.specs.Order.{Hb}
use Rattle.event_core.specs.Rows.{join, no_clock, Counted}
use Rattle.event_core.specs.Wcp.{Strict}
use Rattle.event_core.proofs.CountsProperties.{counts_same}
use Rattle.event_core.proofs.CountedProperties.{counted_none, counted_join, counted_same}
use Rattle.event_core.proofs.HasProperties.{none_in}
use Rattle.event_core.proofs.ClosedProperties.{counted_is, is_counted_of}
use Rattle.wcp_laws.specs.Standing.{StandsFor}
use Rattle.wcp_laws.specs.State.{State}
use Rattle.wcp_laws.proofs.StrictSteps.{Behind}
use Rattle.event_core.proofs.BoolProperties.{not_both}

-- the entry is of a section whose acquire is in the set, and i is below its release
record Entry (log : List Event) (P : ℕ → Type 0) (l : LockId) (q : Closed) (i : ℕ) : Type 0 where
  pub thread : ThreadId
  pub acquire : ℕ
  pub release : ℕ
  pub is : IsClosed log thread l acquire release q
  pub counted : P acquire
  pub below : Hb log i release

-- and so is some entry of the list
abbrev Listed : List Event → (ℕ → Type 0) → LockId → List Closed → ℕ → Type 0
Listed log P l qs i = (q : Closed) × Has q qs × Entry log P l q i

-- the clock of one entry counts what is below it, and the join of the list what is below all
counted_entry : (log : List Event) (P : ℕ → Type 0) (c : ℕ → ℕ) (l : LockId) (q : Closed) → Counted log P c
    → ((u : ThreadId) × (a : ℕ) × (r : ℕ) × IsClosed log u l a r q)
    → Counted log (Entry log P l q) (cond (is_counted c q) q.release no_clock)
counted_entry log P c l q n is = go (cases_Bool (is_counted c q))
  where
    Goal : Bool → Type 0
    Goal b = Counted log (Entry log P l q) (cond b q.release no_clock)

    go : (is_counted c q ≡ true) ⊎ (is_counted c q ≡ false) → Goal (is_counted c q)
    go (inl is_so) =
        subst Goal (sym is_so)
        (λ v. counts_same log v (λ i. Hb log i is.2) (Entry log P l q) (q.release v.0) (λ i o. (
          λ h. record {
            thread = is.0;
            acquire = is.1;
            release = is.2;
            is = is.3;
            counted = counted_is log P c is.0 l is.1 is.2 q n is.3 is_so;
            below = h;
          },
          λ x. ((is.3.release v).first i o).1 (((x.is.release v).first i o).0 x.below),
        )) (is.3.release v))
    go (inr not_so) =
        subst Goal (sym not_so)
        (counted_none log (Entry log P l q)
        (λ i x. not_both (is_counted_of log P c x.thread l x.acquire x.release q n x.is x.counted) not_so))

counted_listed : (log : List Event) (P : ℕ → Type 0) (c : ℕ → ℕ) (l : LockId) (qs : List Closed)
    → Counted log P c
    → ((q : Closed) → Has q qs → (u : ThreadId) × (a : ℕ) × (r : ℕ) × IsClosed log u l a r q)
    → Counted log (Listed log P l qs) (below_closed c qs)
counted_listed log P c l [] n sound = counted_none log (Listed log P l []) (λ i p. none_in p.1)
counted_listed log P c l (b ∷ bs) n sound =
    counted_same log (λ i. Entry log P l b i ⊎ Listed log P l bs i) (Listed log P l (b ∷ bs))
    (join (cond (is_counted c b) b.release no_clock) (below_closed c bs))
    (λ i p. to i p) (λ i p. from i p.0 p.1 p.2)
    (counted_join log (Entry log P l b) (Listed log P l bs) (cond (is_counted c b) b.release no_clock)
    (below_closed c bs)
    (counted_entry log P c l b n (sound b (first b bs refl)))
    (counted_listed log P c l bs n (λ q h. sound q (later b bs h))))
  where
    to : (i : ℕ) → Entry log P l b i ⊎ Listed log P l bs i → Listed log P l (b ∷ bs) i
    to i (inl p) = (b, first b bs refl, p)
    to i (inr p) = (p.0, later b bs p.1, p.2)

    from : (i : ℕ) (q : Closed) → Has q (b ∷ bs) → Entry log P l q i
        → Entry log P l b i ⊎ Listed log P l bs i
    from i q (first b bs e) m = inl (subst (λ y. Entry log P l y i) e m)
    from i q (later b bs h) m = inr (q, h, m)

-- what a closing release adds is counted
pub counted_behind : (log : List Event) (s : State) → StandsFor log s → (t : ThreadId) (l : LockId)
    → Counted log (Behind log t l) (below_closed (s.strict.thread t.0) (s.closed l.0))
counted_behind log s st t l =
    let P : ℕ → Type 0 = Past log (Strict log) t in
    counted_same log (Listed log P l (s.closed l.0)) (Behind log t l)
    (below_closed (s.strict.thread t.0) (s.closed l.0))
    (λ i p. record {
      thread = p.2.thread;
      acquire = p.2.acquire;
      release = p.2.release;
      section = p.2.is.section;
      counted = p.2.counted;
      below = p.2.below;
    })
    (λ i b. (let c = (st.closed l).complete b.thread b.acquire b.release b.section in (
      c.0,
      c.1,
      record {
        thread = b.thread;
        acquire = b.acquire;
        release = b.release;
        is = c.2;
        counted = b.counted;
        below = b.below;
      },
    )))
    (counted_listed log P (s.strict.thread t.0) l (s.closed l.0) (st.strict.thread t) (st.closed l).sound)
