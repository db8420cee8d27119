-- What an effect does to the clocks, in the words of the step.
use Rattle.std.proofs.Common.{◌≡◌, ℕ, ◌+◌, ◌<◌, Bool, true, false, nat_eq, nat_lt, not, ◌&&◌, ◌||◌, List, []}
use Rattle.std.proofs.Common.{◌∷◌, max, sym, ap, ap₂, ◌∙◌, refl, arith, inl, inr, ◌⊎◌, ◌↔◌}
use Rattle.std.proofs.lemmas.Bool.{cases_Bool, eqb-true, eq-eqb, ltb_from_iff}
use Rattle.event_core.specs.declared.ids.LockId.{LockId}
use Rattle.event_core.specs.declared.ids.VarId.{VarId}
use Rattle.event_core.specs.declared.ids.ThreadId.{ThreadId}
use Rattle.event_core.specs.declared.events.Event.{Event}
use Rattle.event_core.specs.declared.events.AccessKind.{AccessKind}
use Rattle.event_core.specs.declared.events.AccessKind.TheVariants.{Read, Write}
use Rattle.event_core.specs.Closed.{Closed, Has, first, later}
use Rattle.event_core.specs.Rows.{join, brought}
use Rattle.event_core.specs.Effect.{Accesses, Opens, Closes}
use Rattle.hb_clocks.specs.State as hb
use Rattle.hb_clocks.proofs.JoinReleaseLaws.{bump_same}
use Rattle.section_sum.specs.Cell.{is_kind}
use Rattle.section_sum.specs.Sums.{Sums, noted_of, is_held, is_access, SameOthers}
use Rattle.wcp_laws.specs.State.{State}
use Rattle.wcp_laws.specs.Step.{sources, kind_eq, noted_after}
use Rattle.wcp_clocks.specs.HeldLists.{numbers_of}
use Rattle.wcp_clocks.specs.Met.{release_at, met_clocks, met_under, AreNumbers}
use Rattle.wcp_clocks.proofs.Rows.{own_row}

-- the sources under a lock are those of the rule
pub same_sources : (s : State) (x : VarId) (k : AccessKind) (t : ThreadId)
    → met_under s.met_clock x.0 k t.0 ≡ sources s x k t
same_sources s x Read t = refl
same_sources s x Write t = refl

-- a lock is held where its number is one of the list's
held_has : (locks : List LockId) (l : ℕ) → is_held locks l ≡ true → Has l (numbers_of locks)
held_has [] l e = absurd (cc e)
held_has (m ∷ ms) l e = go (held_has ms l) (cases_Bool (nat_eq l m.0)) e
  where
    go : (is_held ms l ≡ true → Has l (numbers_of ms)) → (nat_eq l m.0 ≡ true) ⊎ (nat_eq l m.0 ≡ false)
        → (nat_eq l m.0 || is_held ms l) ≡ true → Has l (numbers_of (m ∷ ms))
    go rest (inl q) e = first m.0 (numbers_of ms) (eqb-true l m.0 q)
    go rest (inr n) e = later m.0 (numbers_of ms) (rest (sym (ap (λ b. b || is_held ms l) n) ∙ e))

has_held : (locks : List LockId) (l : ℕ) → Has l (numbers_of locks) → is_held locks l ≡ true
has_held [] l h = elim h [ ]
has_held (m ∷ ms) l (first _ _ q) = ap (λ b. b || is_held ms l) (eq-eqb l m.0 q)
has_held (m ∷ ms) l (later _ _ h) = go (nat_eq l m.0) (has_held ms l h)
  where
    go : (b : Bool) → is_held ms l ≡ true → (b || is_held ms l) ≡ true
    go true e = refl
    go false e = e

pub held_is : (locks : List LockId) (d l : ℕ) → (Has l (numbers_of locks) ↔ (0 < d))
    → is_held locks l ≡ nat_lt 0 d
held_is locks d l iff = ltb_from_iff (λ e. iff.0 (held_has locks l e), λ h. has_held locks l (iff.1 h))

kinds : (j k : AccessKind) → is_kind j k ≡ kind_eq j k
kinds Read Read = refl
kinds Read Write = refl
kinds Write Read = refl
kinds Write Write = refl

-- an access that is noted, in the words of the step
pub same_noted : (old new : Sums) (d : ℕ → ℕ → ℕ) (t : ThreadId) (locks : List LockId) (x : VarId)
    (k : AccessKind)
    → ((l : LockId) → Has l.0 (numbers_of locks) ↔ (0 < d t.0 l.0))
    → ((v l y : ℕ) (j : AccessKind) → noted_of new v l y j
    ≡ (noted_of old v l y j || is_access t.0 locks x.0 k v l y j))
    → noted_of new ≡ noted_after t.0 (Accesses x k) d (noted_of old)
same_noted old new d t locks x k held noted i v l y j =
    (noted v l y j
    ∙ ap (λ (b : Bool). noted_of old v l y j || (nat_eq v t.0 && b))
    (ap₂ (λ (h : Bool) (m : Bool). h && (nat_eq y x.0 && m))
    (held_is locks (d t.0 l) l (held (record { 0 = l }))) (kinds j k))) i

-- where the numbers and the closed sections are the same, so are the clocks
pub same_clocks : (old new : Sums) (closed : ℕ → List Closed) → SameOthers old new
    → met_clocks new closed ≡ met_clocks old closed
same_clocks old new closed same i l v k t = release_at (closed l) (same l v k t i)

-- and each number is that of a closed section
pub same_numbers : (old new : Sums) (closed : ℕ → List Closed) → SameOthers old new → AreNumbers old closed
    → AreNumbers new closed
same_numbers old new closed same are l v k t =
    let e = same l v k t in let n = are l v k t in omega arith

-- the thread's clock of happens-before after its event
pub own_happens_before : (e : Event) (old new : hb.HbState) → new ≡ hb.after e old
    → new.hb.thread e.thread.0 ≡ hb.hb_row e old
own_happens_before e old new is =
    ap (λ (s : hb.HbState). s.hb.thread e.thread.0) is
    ∙ own_row (hb.effect e old) e.thread.0 (hb.hb_row e old) old.hb.thread

-- after an outer acquire the thread counts one event more of itself, where the lock's clock counts none
-- beyond
pub own_opened : (e : Event) (l : LockId) (old new : hb.HbState) → hb.effect e old ≡ Opens l
    → new ≡ hb.after e old → new.hb.thread e.thread.0 e.thread.0
    ≡ max (old.hb.thread e.thread.0 e.thread.0) (old.hb.lock l.0 e.thread.0) + 1
own_opened e l old new opens is =
    let t : ℕ = e.thread.0 in
    ap (λ (f : ℕ → ℕ). f t) (own_happens_before e old new is)
    ∙ bump_same t (join (old.hb.thread t) (brought (hb.effect e old) old.hb))
    ∙ ap (λ k. join (old.hb.thread t) (brought k old.hb) t + 1) opens

-- what a closing release forgets, in the words of the step
pub closed_noted : (old new : Sums) (d : ℕ → ℕ → ℕ) (t : ThreadId) (m : LockId)
    → ((v l y : ℕ) (j : AccessKind) → noted_of new v l y j
    ≡ (noted_of old v l y j && not (nat_eq v t.0 && nat_eq l m.0)))
    → noted_of new ≡ noted_after t.0 (Closes m) d (noted_of old)
closed_noted old new d t m noted i v l y j = noted v l y j i
