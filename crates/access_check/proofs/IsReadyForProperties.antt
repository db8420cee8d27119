-- Noting an access leaves room for its thread's other accesses.
use Rattle.std.proofs.Common.{◌≡◌, ℕ, ◌+◌, ◌<◌, List, [], ◌∷◌, length, Some, None, Bool}
use Rattle.std.proofs.Common.{true, false, ◌||◌, cond, not, nat_lt, refl, sym, ap, ◌∙◌, ◌⊎◌, arith}
use mathlib.Core.Logic.{inl, inr}
use Rattle.std.specs.List.{list_any, position, position_or_len}
use Rattle.std.proofs.lemmas.Bool.{lt-ltb, ltb-true}
use Rattle.event_core.specs.declared.ids.ThreadId.{ThreadId}
use Rattle.event_core.specs.declared.events.Op.{Op}
use Rattle.event_core.specs.declared.events.Op.TheVariants.{Load, Store}
use Rattle.event_core.specs.declared.events.AccessKind.{AccessKind}
use Rattle.event_core.specs.declared.events.AccessKind.TheVariants.{Read, Write}
use Rattle.event_core.specs.Closed.{Has, first, later}
use Rattle.event_core.proofs.CountedProperties.{nat_eq_same}
use Rattle.event_core.proofs.HasProperties.{none_in}
use Rattle.access_check.specs.declared.last_accesses.LastAccess.{LastAccess}
use Rattle.access_check.specs.declared.variable_accesses.VariableAccesses.{VariableAccesses}
use Rattle.access_check.specs.Tables.{IsReadyAt, IsReadyFor}
use Rattle.access_check.specs.LastAccesses.{LastList, is_of, is_ready, put}
use Rattle.access_check.proofs.PutProperties.{put_new}

or_true : (b c : Bool) → c ≡ true → (b || c) ≡ true
or_true true c is = refl
or_true false c is = is

-- a member settles the test
any_of : (f : LastAccess → Bool) (p : LastAccess) (ps : List LastAccess) → Has p ps → f p ≡ true
    → list_any f ps ≡ true
any_of f p [] h is = absurd (none_in h)
any_of f p (q ∷ qs) (first _ _ same) is = ap (λ (b : Bool). b || list_any f qs) (ap f (sym same) ∙ is)
any_of f p (q ∷ qs) (later _ _ h) is = or_true (f q) (list_any f qs) (any_of f p qs h is)

-- there is room for the thread's next access
pub room_put : (p : LastAccess) (old new : LastList) → new.items ≡ put p old.items
    → is_ready p.thread new ≡ true
room_put p old new is =
    ap (λ (b : Bool). b || nat_lt 0 new.room)
    (ap (list_any (is_of p.thread)) is
    ∙ any_of (is_of p.thread) p (put p old.items) (put_new p old.items) (nat_eq_same p.thread.0))

-- where no place is found there is none
none_or : (p : LastAccess → Bool) (ps : List LastAccess)
    → (list_any p ps ≡ false) ⊎ (position_or_len p ps < length ps)
none_or p [] = inl refl
none_or p (q ∷ qs) = go (p q) refl (none_or p qs)
  where
    go : (b : Bool) → p q ≡ b → (list_any p qs ≡ false) ⊎ (position_or_len p qs < length qs)
        → (list_any p (q ∷ qs) ≡ false) ⊎ (position_or_len p (q ∷ qs) < length (q ∷ qs))
    go true is rest =
        let at : position_or_len p (q ∷ qs) ≡ 0
        = ap (λ (b : Bool). cond {A = ℕ} (not b) (1 + position_or_len p qs) 0) is in
        inr (omega arith)
    go false is (inl none) = inl (ap (λ (b : Bool). b || list_any p qs) is ∙ none)
    go false is (inr lt) =
        let at : position_or_len p (q ∷ qs) ≡ 1 + position_or_len p qs
        = ap (λ (b : Bool). cond {A = ℕ} (not b) (1 + position_or_len p qs) 0) is in
        inr (omega arith)

no_place : (p : LastAccess → Bool) (ps : List LastAccess) → position p ps ≡ None → list_any p ps ≡ false
no_place p ps is = elim (none_or p ps) [
  | inl none ↦ none
  | inr lt ↦ absurd (
      let there : position p ps ≡ Some (position_or_len p ps)
      = ap (λ (b : Bool). cond b (Some (position_or_len p ps)) None) (lt-ltb _ _ lt) in
      let q : None ≡ Some (position_or_len p ps) = sym is ∙ there in cc)
]

-- where the thread has no access the room is for one more
pub room_left : (t : ThreadId) (ps : LastList) → position (is_of t) ps.items ≡ None → is_ready t ps ≡ true
    → 0 < ps.room
room_left t ps found room =
    let none = no_place (is_of t) ps.items found in
    ltb-true 0 ps.room (sym (ap (λ (b : Bool). b || nat_lt 0 ps.room) none) ∙ room)

-- where there is room for the same accesses there is room for the same operations
pub room_for : (old new : List VariableAccesses) (t : ThreadId)
    → ((x : ℕ) (k : AccessKind) → IsReadyAt old t x k → IsReadyAt new t x k) → (o : Op) → IsReadyFor old t o
    → IsReadyFor new t o
room_for old new t kept (Load x) h = kept x.0 Read h
room_for old new t kept (Store x) h = kept x.0 Write h
room_for old new t kept _ h = tt
