-- What a closing release makes of the sections that accesses meet.
use Rattle.std.proofs.Common.{◌≡◌, ℕ, zero, suc, ◌+◌, ◌<◌, ◌≤◌, Bool, true, false, nat_eq, not, ◌&&◌, cond}
use Rattle.std.proofs.Common.{max, List, [], ◌∷◌, ◌++◌, length, length-append, refl, sym, ap, ap₂, subst, ◌∙◌}
use Rattle.std.proofs.Common.{arith, inl, inr, ◌⊎◌}
use Rattle.std.proofs.Math.ListN.{get_or-append}
use Rattle.std.proofs.Math.Seq.{get_or-append_seam}
use Rattle.std.proofs.lemmas.Bool.{cases_Bool, cases_eq, ne_eqb}
use Rattle.event_core.specs.declared.events.AccessKind.{AccessKind}
use Rattle.event_core.specs.Closed.{Closed}
use Rattle.event_core.specs.Rows.{join, brought, with_row}
use Rattle.event_core.specs.Effect.{Effect, Closes}
use Rattle.event_core.specs.declared.events.Event.{Event}
use Rattle.event_core.specs.declared.ids.LockId.{LockId}
use Rattle.hb_clocks.specs.State.{HbState, effect, hb_row}
use Rattle.hb_clocks.proofs.JoinReleaseLaws.{bump_same}
use Rattle.event_core.proofs.RowsAfterProperties.{row_same, row_other}
use Rattle.lock_queues.specs.Sections.{no_closed}
use Rattle.hb_clocks.specs.Releases.{before}
use Rattle.hb_clocks.proofs.ReleasesProperties.{before_bumped}
use Rattle.section_sum.specs.Sums.{Sums, noted_of, others_of}
use Rattle.wcp_clocks.specs.Met.{release_at, met_clocks, AreNumbers}

-- just before a closing release its thread has the clock that it had
pub before_closing : (e : Event) (s : HbState) (l : LockId) → effect e s ≡ Closes l → (u : ℕ)
    → before e.thread.0 (hb_row e s) u ≡ s.hb.thread e.thread.0 u
before_closing e s l is u =
    let t : ℕ = e.thread.0 in
    let none : brought (effect e s) s.hb u ≡ 0 = ap (λ (k : Effect). brought k s.hb u) is in
    let all : before t (hb_row e s) u ≡ max (s.hb.thread t u) (brought (effect e s) s.hb u)
    = before_bumped t (join (s.hb.thread t) (brought (effect e s) s.hb)) u in
    omega arith

-- the clock of an event counts the event itself
pub counts_itself : (e : Event) (s : HbState) → 0 < hb_row e s e.thread.0
counts_itself e s =
    let t : ℕ = e.thread.0 in
    let own : hb_row e s t ≡ join (s.hb.thread t) (brought (effect e s) s.hb) t + 1
    = bump_same t (join (s.hb.thread t) (brought (effect e s) s.hb)) in
    omega arith

-- the sections before the last one are as they were
earlier_release : (qs : List Closed) (q : Closed) (n : ℕ) → n ≤ length qs
    → release_at (qs ++ q ∷ []) n ≡ release_at qs n
earlier_release qs q zero le = refl
earlier_release qs q (suc n) le =
    ap (λ (c : Closed). c.release) (get_or-append qs (q ∷ []) no_closed n (omega arith))

last_release : (qs : List Closed) (q : Closed) → release_at (qs ++ q ∷ []) (suc (length qs)) ≡ q.release
last_release qs q = ap (λ (c : Closed). c.release) (get_or-append_seam qs q [] no_closed)

-- the thread's section on the lock m is closed as q, and has the number after those before it
module _ (old new : Sums) (t m number : ℕ) (q : Closed) (closed after : ℕ → List Closed)
    (are : AreNumbers old closed) (next : number ≡ suc (length (closed m)))
    (longer : after ≡ with_row m (closed m ++ q ∷ []) closed)
    (others : (l x : ℕ) (k : AccessKind) (v : ℕ) → others_of new l x k v
    ≡ cond (nat_eq l m && (not (nat_eq v t) && noted_of old t l x k)) number (others_of old l x k v)) where
  -- to the thread v it is the newest with such an access
  abbrev newest : ℕ → ℕ → AccessKind → ℕ → Bool
  newest l x k v = nat_eq l m && (not (nat_eq v t) && noted_of old t l x k)

  here : after m ≡ closed m ++ q ∷ []
  here = ap (λ (f : ℕ → List Closed). f m) longer ∙ row_same m (closed m ++ q ∷ []) closed

  elsewhere : (l : ℕ) → (l ≡ m → ⊥) → after l ≡ closed l
  elsewhere l n = ap (λ (f : ℕ → List Closed). f l) longer ∙ row_other m (closed m ++ q ∷ []) closed l n

  unlike : (l x : ℕ) (k : AccessKind) (v : ℕ) → (l ≡ m → ⊥) → newest l x k v ≡ false
  unlike l x k v n = ap (λ b. b && (not (nat_eq v t) && noted_of old t l x k)) (ne_eqb l m n)

  is_old : (l x : ℕ) (k : AccessKind) (v : ℕ) → newest l x k v ≡ false
      → others_of new l x k v ≡ others_of old l x k v
  is_old l x k v e = others l x k v ∙ ap (λ b. cond b number (others_of old l x k v)) e

  is_next : (l x : ℕ) (k : AccessKind) (v : ℕ) → newest l x k v ≡ true
      → others_of new l x k v ≡ suc (length (closed m))
  is_next l x k v e = others l x k v ∙ ap (λ b. cond b number (others_of old l x k v)) e ∙ next

  -- after the release, too, each number that is kept is one of a closed section of its lock
  pub closing_numbers : AreNumbers new after
  closing_numbers l x k v = go (cases_eq l m)
    where
      at_lock : (newest m x k v ≡ true) ⊎ (newest m x k v ≡ false) → others_of new m x k v ≤ length (after m)
      at_lock (inl e) =
          let n = is_next m x k v e in
          let w = ap (λ (qs : List Closed). length qs) here in
          let g : length (closed m ++ q ∷ []) ≡ length (closed m) + 1 = length-append (closed m) (q ∷ []) in
          omega arith
      at_lock (inr e) =
          let n = is_old m x k v e in
          let le = are m x k v in
          let w = ap (λ (qs : List Closed). length qs) here in
          let g : length (closed m ++ q ∷ []) ≡ length (closed m) + 1 = length-append (closed m) (q ∷ []) in
          omega arith

      go : (l ≡ m) ⊎ (l ≡ m → ⊥) → others_of new l x k v ≤ length (after l)
      go (inl e) = subst (λ a. others_of new a x k v ≤ length (after a)) (sym e)
          (at_lock (cases_Bool (newest m x k v)))
      go (inr n) =
          let e = is_old l x k v (unlike l x k v n) in
          let le = are l x k v in
          let w = ap (λ (qs : List Closed). length qs) (elsewhere l n) in
          omega arith

  -- the clocks that accesses meet after a closing release
  pub closing_clocks : (g : ℕ → ℕ) → q.release ≡ g
      → ((x : ℕ) (k : AccessKind) (v u : ℕ) → met_clocks old closed m x k v u ≤ g u)
      → met_clocks new after ≡ (λ l x k v. cond (newest l x k v) (join (met_clocks old closed l x k v) g)
      (met_clocks old closed l x k v))
  closing_clocks g is above i l x k v = go (cases_eq l m) i
    where
      Joined : ℕ → Bool → ℕ → ℕ
      Joined l b = cond b (join (met_clocks old closed l x k v) g) (met_clocks old closed l x k v)

      taken : (u : ℕ) → g u ≡ max (met_clocks old closed m x k v u) (g u)
      taken u = let le = above x k v u in omega arith

      at_lock : (newest m x k v ≡ true) ⊎ (newest m x k v ≡ false)
          → met_clocks new after m x k v ≡ Joined m (newest m x k v)
      at_lock (inl e) =
          ap₂ (λ qs n. release_at qs n) here (is_next m x k v e) ∙ last_release (closed m) q ∙ is
          ∙ (λ j u. taken u j) ∙ sym (ap (Joined m) e)
      at_lock (inr e) =
          ap₂ (λ qs n. release_at qs n) here (is_old m x k v e)
          ∙ earlier_release (closed m) q (others_of old m x k v) (are m x k v) ∙ sym (ap (Joined m) e)

      go : (l ≡ m) ⊎ (l ≡ m → ⊥) → met_clocks new after l x k v ≡ Joined l (newest l x k v)
      go (inl e) = subst (λ a. met_clocks new after a x k v ≡ Joined a (newest a x k v)) (sym e)
          (at_lock (cases_Bool (newest m x k v)))
      go (inr n) =
          ap₂ (λ qs n. release_at qs n) (elsewhere l n) (is_old l x k v (unlike l x k v n))
          ∙ sym (ap (Joined l) (unlike l x k v n))
