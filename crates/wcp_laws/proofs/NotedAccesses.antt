-- What is noted of the accesses in open sections, after an event.
use Rattle.std.proofs.Common.{◌≡◌, ℕ, ◌<◌, List, [], ◌∷◌, ◌++◌, Bool, true, refl, sym, subst, ◌∙◌, ◌↔◌}
use Rattle.std.proofs.Common.{nat_lt}
use Rattle.std.proofs.lemmas.Bool.{ltb-true, lt-ltb}
use Rattle.std.specs.Prelude.{IsTrue}
use Rattle.event_core.specs.declared.events.AccessKind.{AccessKind}
use Rattle.event_core.specs.declared.events.AccessKind.TheVariants.{Read, Write}
use Rattle.event_core.specs.declared.events.Event.{Event}
use Rattle.event_core.specs.declared.ids.LockId.{LockId}
use Rattle.event_core.specs.declared.ids.ThreadId.{ThreadId}
use Rattle.event_core.specs.declared.ids.VarId.{VarId}
use Rattle.event_core.specs.Closed.{Noted}
use Rattle.event_core.specs.Log.{depth}
use Rattle.event_core.specs.Orderly.{Orderly}
use Rattle.event_core.specs.Effect.{Effect, Opens, Closes, Forks, Joins, Inner, access_of}
use Rattle.event_core.proofs.Accesses.{access_no_acquire, access_no_release, access_no_fork, access_no_join}
use Rattle.event_core.proofs.EffectProperties.{Fits, accesses, opens, closes, forks, joins, again, inner}
use Rattle.event_core.proofs.NotedAccesses.{noted_same, noted_more, noted_less}
use Rattle.wcp_laws.specs.Step.{kind_eq, noted_after}

-- the test of kinds
kind_eq_is : (a b : AccessKind) → kind_eq a b ≡ true → a ≡ b
kind_eq_is Read Write h = absurd cc
kind_eq_is Write Read h = absurd cc
kind_eq_is _ _ h = refl

kind_eq_same : (a b : AccessKind) → a ≡ b → kind_eq a b ≡ true
kind_eq_same Read Write h = absurd cc
kind_eq_same Write Read h = absurd cc
kind_eq_same _ _ h = refl

-- the table has what is noted
pub noted_stand : (log : List Event) (e : Event) → Orderly (log ++ e ∷ []) → (k : Effect) → Fits log e k
    → (d : ℕ → ℕ → ℕ) → ((t : ThreadId) (l : LockId) → d t.0 l.0 ≡ depth log t l)
    → (f : ℕ → ℕ → ℕ → AccessKind → Bool)
    → ((t : ThreadId) (l : LockId) (x : VarId) (j : AccessKind)
    → IsTrue (f t.0 l.0 x.0 j) ↔ Noted log t l x j)
    → (t : ThreadId) (l : LockId) (x : VarId) (j : AccessKind)
    → IsTrue (noted_after e.thread.0 k d f t.0 l.0 x.0 j) ↔ Noted (log ++ e ∷ []) t l x j
noted_stand log e ord k fit d is f was t l x j = go k fit
  where
    Goal : Bool → Type 0
    Goal b = IsTrue b ↔ Noted (log ++ e ∷ []) t l x j

    -- where nothing is noted and nothing closed
    kept : (k : Effect) → Fits log e k → (e.op ≡ access_of x j → ⊥) → (k ≡ Closes l → ⊥)
        → Goal (f t.0 l.0 x.0 j)
    kept k fit na nc =
        noted_same log e ord k fit t l x j (λ p q. na q) (λ p q. nc q) (f t.0 l.0 x.0 j) (was t l x j)

    held : IsTrue (nat_lt 0 (d e.thread.0 l.0)) ↔ (0 < depth log e.thread l)
    held = (
      λ h. subst (λ n. 0 < n) (is e.thread l) (ltb-true 0 (d e.thread.0 l.0) h),
      λ up. lt-ltb 0 (d e.thread.0 l.0) (subst (λ n. 0 < n) (sym (is e.thread l)) up),
    )

    go : (k : Effect) → Fits log e k → Goal (noted_after e.thread.0 k d f t.0 l.0 x.0 j)
    go _ (forks u o) = kept (Forks u) (forks u o) (λ p. access_no_fork x j u (sym p ∙ o)) (λ q. cc)
    go _ (joins u o) = kept (Joins u) (joins u o) (λ p. access_no_join x j u (sym p ∙ o)) (λ q. cc)
    go _ (opens n o z) = kept (Opens n) (opens n o z) (λ p. access_no_acquire x j n (sym p ∙ o)) (λ q. cc)
    go _ (again n o z) = kept Inner (again n o z) (λ p. access_no_acquire x j n (sym p ∙ o)) (λ q. cc)
    go _ (inner n o z) = kept Inner (inner n o z) (λ p. access_no_release x j n (sym p ∙ o)) (λ q. cc)
    go _ (accesses y i o) =
        noted_more log e ord y i o t l x j (f t.0 l.0 x.0 j) (nat_lt 0 (d e.thread.0 l.0)) (kind_eq j i)
        (was t l x j) held (kind_eq_is j i, kind_eq_same j i)
    go _ (closes n o z) = noted_less log e ord n o z t l x j (f t.0 l.0 x.0 j) (was t l x j)
