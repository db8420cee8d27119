-- The lists of closed sections: their entries, and what an event makes of them.
use Rattle.std.proofs.Common.{◌≡◌, ℕ, suc, ◌<◌, ◌+◌, ◌-◌, List, [], ◌∷◌, ◌++◌, length, sym, ap, subst}
use Rattle.std.proofs.Common.{◌∙◌, arith, take, length-append}
use Rattle.std.proofs.Math.Seq.{take-length}
use Rattle.event_core.specs.declared.events.Event.{Event}
use Rattle.event_core.specs.declared.ids.LockId.{LockId}
use Rattle.event_core.specs.declared.ids.ThreadId.{ThreadId}
use Rattle.event_core.specs.Closed.{Closed, Has, first, later, IsClosed, Open, ended, number_of}
use Rattle.event_core.specs.Count.{events_of}
use Rattle.event_core.specs.Log.{OuterRelease, Section}
use Rattle.event_core.specs.Order.{Hb}
use Rattle.event_core.specs.Orderly.{Orderly}
use Rattle.event_core.specs.Rows.{Counted}
use Rattle.event_core.proofs.DepthProperties.{section_of}
use Rattle.event_core.proofs.SectionNumbers.{ended_same, ended_one, number_within, number_longer, number_last}
use Rattle.event_core.proofs.SectionNumbers.{at_number}
use Rattle.event_core.proofs.ClosedProperties.{section_within, each_section, closed_longer, closed_now}
use Rattle.lock_queues.specs.Sections.{closed_at}
use Rattle.lock_queues.specs.Standing.{AreSections}
use Rattle.lock_queues.proofs.SectionsOfProperties.{at_front, at_end}

-- an entry stands at a place
pub has_place : (q : Closed) (qs : List Closed) → Has q qs → (k : ℕ) × (k < length qs) × (closed_at qs k ≡ q)
has_place q _ (first b bs is) = (0, omega arith, sym is)
has_place q _ (later b bs h) =
    let x = has_place q bs h in let lt : x.0 < length bs = x.1 in (suc x.0, omega arith, x.2)

-- a section of the log, with its entry
pub record Entered (log : List Event) (l : LockId) (k : ℕ) (q : Closed) : Type 0 where
  pub thread : ThreadId
  pub acquire : ℕ
  pub release : ℕ
  pub is : IsClosed log thread l acquire release q
  pub number : number_of log l release ≡ k + 1

-- each listed section has its entry in the log
pub entered : (log : List Event) (l : LockId) (qs : List Closed) → Orderly log → AreSections log l qs
    → (k : ℕ) → k < length qs → Entered log l k (closed_at qs k)
entered log l qs ord are k lt =
    let count : length qs ≡ ended log l = are.count in
    let all : ended (take (length log) log) l ≡ ended log l = ap (λ xs. ended xs l) (take-length log) in
    let x = at_number log l k (length log) (omega arith) (omega arith) in
    let s = section_of log x.1 l x.0 ord x.2 in
    let place : number_of log l x.0 - 1 ≡ k = (let n = x.3 in omega (arith, n)) in
    record {
      thread = x.1;
      acquire = s.0;
      release = x.0;
      is = subst (λ m. IsClosed log x.1 l s.0 x.0 (closed_at qs m)) place (are.each x.1 s.0 x.0 s.1);
      number = x.3;
    }

-- the place of a section's entry
pub place_within : (log : List Event) (l : LockId) (qs : List Closed) → AreSections log l qs
    → (u : ThreadId) (a r : ℕ) → Section log u l a r → number_of log l r - 1 < length qs
place_within log l qs are u a r s =
    let count : length qs ≡ ended log l = are.count in
    let le = number_within log l r u s.closed in
    omega (arith, count, le)

module _ (log : List Event) (e : Event) (ord : Orderly (log ++ e ∷ [])) where
  -- a section that ended before the event has the same place
  old_entry : (u : ThreadId) (l : LockId) (a r : ℕ) (qs : List Closed) → AreSections log l qs
      → Section log u l a r
      → (number_of (log ++ e ∷ []) l r - 1 < length qs)
      × IsClosed (log ++ e ∷ []) u l a r (closed_at qs (number_of (log ++ e ∷ []) l r - 1))
  old_entry u l a r qs are s =
      let same = number_longer log e l r (let lt = section_within s in omega (arith, lt)) in
      subst (λ n. (n - 1 < length qs) × IsClosed (log ++ e ∷ []) u l a r (closed_at qs (n - 1))) (sym same)
      (place_within log l qs are u a r s, closed_longer log e u l a r _ (are.each u a r s))

  -- where the event ends no section on the lock, the list is the same
  pub sections_same : (l : LockId) (qs : List Closed)
      → (OuterRelease (log ++ e ∷ []) (length log) e.thread l → ⊥)
      → AreSections log l qs → AreSections (log ++ e ∷ []) l qs
  sections_same l qs none are = record {
    count = are.count ∙ sym (ended_same log e l none);
    each = each_section log e l Entry (λ u a r lt s. (old_entry u l a r qs are s).1)
        (λ a s. absurd (none s.closed));
  }
    where
      Entry : ThreadId → ℕ → ℕ → Type 0
      Entry u a r = IsClosed (log ++ e ∷ []) u l a r (closed_at qs (number_of (log ++ e ∷ []) l r - 1))

  -- and where it ends one, the list has its entry more
  pub sections_more : (l : LockId) (qs : List Closed) (q : Closed)
      → OuterRelease (log ++ e ∷ []) (length log) e.thread l → q.thread ≡ e.thread.0
      → ((a : ℕ) → Open log e.thread l a → q.position ≡ events_of (take a log) e.thread + 1)
      → Counted (log ++ e ∷ []) (λ i. Hb (log ++ e ∷ []) i (length log)) q.release
      → AreSections log l qs → AreSections (log ++ e ∷ []) l (qs ++ q ∷ [])
  sections_more l qs q closes thread position release are = record {
    count = length-append qs (q ∷ []) ∙ ap (λ n. n + 1) are.count ∙ sym (ended_one log e l closes);
    each = each_section log e l Entry old new;
  }
    where
      Entry : ThreadId → ℕ → ℕ → Type 0
      Entry u a r =
          IsClosed (log ++ e ∷ []) u l a r (closed_at (qs ++ q ∷ []) (number_of (log ++ e ∷ []) l r - 1))

      last_place : number_of (log ++ e ∷ []) l (length log) - 1 ≡ length qs
      last_place =
          let n = number_last log e l in
          let count : length qs ≡ ended log l = are.count in
          omega (arith, n, count)

      old : (u : ThreadId) (a r : ℕ) → r < length log → Section log u l a r → Entry u a r
      old u a r lt s =
          let entry = old_entry u l a r qs are s in
          subst (λ c. IsClosed (log ++ e ∷ []) u l a r c)
          (sym (at_front qs q (number_of (log ++ e ∷ []) l r - 1) entry.0)) entry.1

      new : (a : ℕ) → Section (log ++ e ∷ []) e.thread l a (length log) → Entry e.thread a (length log)
      new a s =
          subst (λ c. IsClosed (log ++ e ∷ []) e.thread l a (length log) c)
          (sym (at_end qs q _ (sym last_place)))
          (closed_now log e ord l q thread position release a s)
