-- The calls keep what the summaries stand for.
use Rattle.std.proofs.Common.{◌≡◌, ℕ, ◌<◌, ◌+◌, List, [], ◌∷◌, ◌++◌, Bool, true, false, not, ◌&&◌}
use Rattle.std.proofs.Common.{cond, length, refl, sym, ap, subst, ◌∙◌, arith, ◌⊎◌, ◌↔◌, nat_eq, take}
use Rattle.std.proofs.Math.Seq.{take-length}
use Rattle.std.proofs.lemmas.Option.{slice_get_within}
use Rattle.std.proofs.lemmas.Bool.{cases_Bool, and_parts, eqb-true}
use Rattle.std.specs.Prelude.{IsTrue}
use mathlib.Core.Logic.{inl, inr}
use Rattle.event_core.specs.declared.bounds.Limits.{Limits}
use Rattle.event_core.specs.declared.events.AccessKind.{AccessKind}
use Rattle.event_core.specs.declared.events.AccessKind.TheVariants.{Read, Write}
use Rattle.event_core.specs.declared.events.Event.{Event}
use Rattle.event_core.specs.declared.events.Op.TheVariants.{Release}
use Rattle.event_core.specs.declared.ids.LockId.{LockId}
use Rattle.event_core.specs.declared.ids.ThreadId.{ThreadId}
use Rattle.event_core.specs.declared.ids.VarId.{VarId}
use Rattle.event_core.specs.Closed.{EndsSection, Noted, ended}
use Rattle.event_core.specs.Log.{depth}
use Rattle.event_core.specs.Orderly.{Orderly}
use Rattle.event_core.specs.Refusal.{WellFormed}
use Rattle.event_core.specs.Effect.{Effect, access_of}
use Rattle.event_core.proofs.Accesses.{access_no_release}
use Rattle.event_core.proofs.DepthProperties.{same_lock_id}
use Rattle.event_core.proofs.EffectProperties.{Fits, last_closes}
use Rattle.event_core.proofs.OrderlyProperties.{orderly}
use Rattle.event_core.proofs.NotedAccesses.{noted_same, noted_more, noted_less, noted_held}
use Rattle.event_core.proofs.OpenSections.{its_effect, closes_at, ends_at}
use Rattle.event_core.proofs.OtherSections.{Leaves, leaves_test}
use Rattle.event_core.proofs.ClosedProperties.{section_within}
use Rattle.event_core.proofs.BoolProperties.{not_both}
use Rattle.section_sum.specs.Cell.{is_kind}
use Rattle.section_sum.specs.Laws.{OthersLeaveThem, HoldersAreAlone}
use Rattle.section_sum.specs.Standing.{StandsFor, IsNewest, IsAccessBy, AreHeld}
use Rattle.section_sum.specs.Sums.{Sums, said_of, noted_of, others_of, is_held, SameNoted, SameOthers}
use Rattle.section_sum.specs.Locks.{HaveNoted, HaveClosed}
use Rattle.section_sum.proofs.ClosedAccesses.{newest_same, newest_new}

-- summaries that say nothing stand for the empty log
pub nothing_stands : (s : Sums) → ((t l v : ℕ) (k : AccessKind) → noted_of s t l v k ≡ false)
    → ((l v : ℕ) (k : AccessKind) (t : ℕ) → others_of s l v k t ≡ 0) → StandsFor [] s
nothing_stands s noted others = record {
  noted = λ t l x k. (
    λ h. absurd (not_both h (noted t.0 l.0 x.0 k)),
    λ n. absurd (let lt : n.access < 0 = slice_get_within [] n.access n.does.event n.does.at in omega arith),
  );
  others = λ l x k t. subst (λ n. IsNewest [] l x k t n) (sym (others l.0 x.0 k t.0)) (record {
    some = λ up. absurd (omega arith);
    newest = λ r q. absurd (let lt = section_within q.section in omega (arith, lt));
  });
}

-- summaries that say the same stand for the same log
pub same_stands : (log : List Event) (old new : Sums) → SameNoted old new → SameOthers old new
    → StandsFor log old → StandsFor log new
same_stands log old new noted others st = record {
  noted = λ t l x k. subst (λ b. IsTrue b ↔ Noted log t l x k) (sym (noted t.0 l.0 x.0 k)) (st.noted t l x k);
  others = λ l x k t. subst (λ n. IsNewest log l x k t n) (sym (others l.0 x.0 k t.0)) (st.others l x k t);
}

-- an event that is no access and ends no section leaves them as they are
pub others_leave_them : OthersLeaveThem
others_leave_them limits log e s w o st = record {
  noted = λ t l x k. noted_same log e ord f.0 f.1 t l x k (λ p q. o.access x k q)
      (λ p q. o.ends l (closes_at log e ord f.0 f.1 l q)) (noted_of s t.0 l.0 x.0 k) (st.noted t l x k);
  others = λ l x k t. newest_same log e ord l x k t (others_of s l.0 x.0 k t.0)
      (λ q. o.ends l (ends_at log e ord l q.closes)) (st.others l x k t);
}
  where
    ord : Orderly (log ++ e ∷ [])
    ord = orderly limits (log ++ e ∷ []) w

    f : (k : Effect) × Fits log e k
    f = its_effect log e

kind_is : (a b : AccessKind) → is_kind a b ≡ true → a ≡ b
kind_is Read Read h = refl
kind_is Write Write h = refl
kind_is Read Write h = absurd cc
kind_is Write Read h = absurd cc

kind_same : (a b : AccessKind) → a ≡ b → is_kind a b ≡ true
kind_same Read Read h = refl
kind_same Write Write h = refl
kind_same Read Write h = absurd cc
kind_same Write Read h = absurd cc

-- an access in the sections that are open at it
note_own : (limits : Limits) (log : List Event) (e : Event) (old new : Sums) (held : List LockId) (x : VarId)
    (k : AccessKind) → HaveNoted e.thread.0 held x.0 k (said_of old) (said_of new) → WellFormed limits
    (log ++ e ∷ [])
    → e.op ≡ access_of x k → AreHeld log e.thread held → StandsFor log old → StandsFor (log ++ e ∷ []) new
unfolding noted_of others_of
note_own limits log e old new held x k notes w o are st = record {
  noted = λ t l y j. subst (λ b. IsTrue b ↔ Noted (log ++ e ∷ []) t l y j)
      (sym ((notes l.0).noted t.0 y.0 j))
      (noted_more log e ord x k o t l y j (noted_of old t.0 l.0 y.0 j) (is_held held l.0) (is_kind j k)
      (st.noted t l y j) (are l) (kind_is j k, kind_same j k));
  others = λ l y j t. subst (λ n. IsNewest (log ++ e ∷ []) l y j t n) (sym ((notes l.0).others y.0 j t.0))
      (newest_same log e ord l y j t (others_of old l.0 y.0 j t.0)
      (λ q. access_no_release x k l (sym o ∙ (ends_at log e ord l q.closes).op)) (st.others l y j t));
}
  where
    ord : Orderly (log ++ e ∷ [])
    ord = orderly limits (log ++ e ∷ []) w

-- a noted access makes the summaries stand for the longer log
pub note_stands : (limits : Limits) (log : List Event) (e : Event) (old new : Sums) (t : ThreadId)
    (held : List LockId) (x : VarId) (k : AccessKind) → HaveNoted t.0 held x.0 k (said_of old) (said_of new)
    → WellFormed limits (log ++ e ∷ []) → IsAccessBy t x k e → AreHeld log t held → StandsFor log old
    → StandsFor (log ++ e ∷ []) new
note_stands limits log e old new t held x k notes w is are st =
    note_own limits log e old new held x k
    (subst (λ (u : ThreadId). HaveNoted u.0 held x.0 k (said_of old) (said_of new))
    (sym is.thread) notes) w is.op
    (subst (λ (u : ThreadId). AreHeld log u held) (sym is.thread) are) st

-- the end of a section
close_own : (limits : Limits) (log : List Event) (e : Event) (old new : Sums) (l : LockId) (n : ℕ)
    → HaveClosed e.thread.0 l.0 n (said_of old) (said_of new) → WellFormed limits (log ++ e ∷ []) → e.op
    ≡ Release l
    → depth log e.thread l ≡ 1 → n ≡ ended log l + 1 → StandsFor log old → StandsFor (log ++ e ∷ []) new
unfolding noted_of others_of
close_own limits log e old new l n ends w o one number st = record {
  noted = λ t m x k. subst (λ b. IsTrue b ↔ Noted (log ++ e ∷ []) t m x k) (sym ((ends m.0).noted t.0 x.0 k))
      (noted_less log e ord l o one t m x k (noted_of old t.0 m.0 x.0 k) (st.noted t m x k));
  others = λ m x k t. subst (λ i. IsNewest (log ++ e ∷ []) m x k t i) (sym ((ends m.0).others x.0 k t.0))
      (others m x k t (leaves_test log e ord l (last_closes log e l o one) m x k t
      (noted_of old e.thread.0 m.0 x.0 k) (st.noted e.thread m x k)) (cases_Bool (test m x k t)));
}
  where
    ord : Orderly (log ++ e ∷ [])
    ord = orderly limits (log ++ e ∷ []) w

    test : LockId → VarId → AccessKind → ThreadId → Bool
    test m x k t = nat_eq m.0 l.0 && (not (nat_eq t.0 e.thread.0) && noted_of old e.thread.0 m.0 x.0 k)

    others : (m : LockId) (x : VarId) (k : AccessKind) (t : ThreadId)
        → IsTrue (test m x k t) ↔ Leaves log e m x k t
        → (test m x k t ≡ true) ⊎ (test m x k t ≡ false)
        → IsNewest (log ++ e ∷ []) m x k t (cond (test m x k t) n (others_of old m.0 x.0 k t.0))
    others m x k t leaves (inl h) =
        let same : l ≡ m = same_lock_id (sym (eqb-true m.0 l.0 (and_parts _ _ h).0)) in
        subst (λ c. IsNewest (log ++ e ∷ []) m x k t (cond c n (others_of old m.0 x.0 k t.0))) (sym h)
        (newest_new log e ord m x k t n (leaves.0 h) (number ∙ ap (λ y. ended log y + 1) same))
    others m x k t leaves (inr h) =
        subst (λ c. IsNewest (log ++ e ∷ []) m x k t (cond c n (others_of old m.0 x.0 k t.0))) (sym h)
        (newest_same log e ord m x k t (others_of old m.0 x.0 k t.0)
        (λ q. not_both (leaves.1 q) h) (st.others m x k t))

-- a section's end makes the summaries stand for the longer log
pub close_stands : (limits : Limits) (log : List Event) (e : Event) (old new : Sums) (t : ThreadId)
    (l : LockId) (n : ℕ) → HaveClosed t.0 l.0 n (said_of old) (said_of new) → WellFormed limits
    (log ++ e ∷ []) → EndsSection log t l e
    → n ≡ ended log l + 1 → StandsFor log old → StandsFor (log ++ e ∷ []) new
close_stands limits log e old new t l n ends w is number st =
    close_own limits log e old new l n
    (subst (λ (u : ThreadId). HaveClosed u.0 l.0 n (said_of old) (said_of new)) (sym is.thread) ends) w is.op
    (subst (λ u. depth log u l ≡ 1) (sym is.thread) is.outer) number st

-- a lock that the thread holds is held by no other
pub holders_are_alone : HoldersAreAlone
holders_are_alone limits log s t held w are st l u v k is ne = go (cases_Bool (noted_of s u l v k))
  where
    lock : LockId
    lock = record { 0 = l }

    other : ThreadId
    other = record { 0 = u }

    go : (noted_of s u l v k ≡ true) ⊎ (noted_of s u l v k ≡ false) → noted_of s u l v k ≡ false
    go (inr none) = none
    go (inl some) =
        let var : VarId = record { 0 = v } in
        let n = (st.noted other lock var k).0 some in
        let whole = take-length log in
        let a : 0 < depth (take (length log) log) other lock
        = subst (λ xs. 0 < depth xs other lock) (sym whole) (noted_held log other lock var k n) in
        let b : 0 < depth (take (length log) log) t lock
        = subst (λ xs. 0 < depth xs t lock) (sym whole) ((are lock).0 is) in
        let same = (orderly limits log w).one_holder (length log) other t lock a b in
        absurd (ne (ap (λ (w : ThreadId). w.0) same))
