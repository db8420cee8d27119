-- The members of a list of last accesses after one more.
use Rattle.std.proofs.Common.{◌≡◌, ℕ, zero, suc, ◌<◌, List, [], ◌∷◌, length, get_or, Option, Some, None}
use Rattle.std.proofs.Common.{true, ◌⊎◌, refl, ap, ◌∙◌, arith}
use Rattle.std.proofs.Math.ListN.{set}
use mathlib.Core.Logic.{inl, inr}
use Rattle.std.specs.List.{position}
use Rattle.std.proofs.lemmas.List.Quantifiers.{position-Some}
use Rattle.std.proofs.lemmas.Bool.{eqb-true}
use Rattle.event_core.specs.Closed.{Has, first, later}
use Rattle.event_core.proofs.DepthProperties.{same_thread_id}
use Rattle.event_core.proofs.HasProperties.{none_in, has_front, has_last, has_split}
use Rattle.access_check.specs.declared.last_accesses.LastAccess.{LastAccess}
use Rattle.access_check.specs.LastAccesses.{is_of, put_at, put}

has_set : (q p : LastAccess) (ps : List LastAccess) (i : ℕ) → Has q (set ps i p) → Has q ps ⊎ (q ≡ p)
has_set q p [] zero h = absurd (none_in h)
has_set q p [] (suc i) h = absurd (none_in h)
has_set q p (x ∷ xs) zero (first _ _ is) = inr is
has_set q p (x ∷ xs) zero (later _ _ h) = inl (later x xs h)
has_set q p (x ∷ xs) (suc i) (first _ _ is) = inl (first x xs is)
has_set q p (x ∷ xs) (suc i) (later _ _ h) = go (has_set q p xs i h)
  where
    go : Has q xs ⊎ (q ≡ p) → Has q (x ∷ xs) ⊎ (q ≡ p)
    go (inl h) = inl (later x xs h)
    go (inr is) = inr is

set_has : (q p d : LastAccess) (ps : List LastAccess) (i : ℕ) → Has q ps
    → Has q (set ps i p) ⊎ (q ≡ get_or ps i d)
set_has q p d [] i h = absurd (none_in h)
set_has q p d (x ∷ xs) zero (first _ _ is) = inr is
set_has q p d (x ∷ xs) zero (later _ _ h) = inl (later p xs h)
set_has q p d (x ∷ xs) (suc i) (first _ _ is) = inl (first x (set xs i p) is)
set_has q p d (x ∷ xs) (suc i) (later _ _ h) = go (set_has q p d xs i h)
  where
    go : Has q (set xs i p) ⊎ (q ≡ get_or xs i d)
        → Has q (x ∷ set xs i p) ⊎ (q ≡ get_or (x ∷ xs) (suc i) d)
    go (inl h) = inl (later x (set xs i p) h)
    go (inr is) = inr is

set_new : (p : LastAccess) (ps : List LastAccess) (i : ℕ) → i < length ps → Has p (set ps i p)
set_new p [] i lt = absurd (omega arith)
set_new p (x ∷ xs) zero lt = first p xs refl
set_new p (x ∷ xs) (suc i) lt = later x (set xs i p) (set_new p xs i (omega arith))

-- a member is a member of before, or the new one
pub has_put : (q p : LastAccess) (ps : List LastAccess) → Has q (put p ps) → Has q ps ⊎ (q ≡ p)
has_put q p ps h = go (position (is_of p.thread) ps) h
  where
    go : (o : Option ℕ) → Has q (put_at o p ps) → Has q ps ⊎ (q ≡ p)
    go None h = has_split q ps p h
    go (Some i) h = has_set q p ps i h

-- a member of before is still one, or of the new one's thread
pub put_has : (q p : LastAccess) (ps : List LastAccess) → Has q ps → Has q (put p ps) ⊎ (q.thread ≡ p.thread)
put_has q p ps h = go (position (is_of p.thread) ps) refl
  where
    go : (o : Option ℕ) → position (is_of p.thread) ps ≡ o → Has q (put_at o p ps) ⊎ (q.thread ≡ p.thread)
    go None is = inl (has_front q ps (p ∷ []) h)
    go (Some i) is = there (set_has q p p ps i h)
      where
        there : Has q (set ps i p) ⊎ (q ≡ get_or ps i p) → Has q (set ps i p) ⊎ (q.thread ≡ p.thread)
        there (inl h) = inl h
        there (inr same) =
            let own : is_of p.thread (get_or ps i p) ≡ true = (position-Some (is_of p.thread) ps i p is).1 in
            inr (same_thread_id (eqb-true q.thread.0 p.thread.0
            (ap (is_of p.thread) same ∙ own)))

-- the new one is one
pub put_new : (p : LastAccess) (ps : List LastAccess) → Has p (put p ps)
put_new p ps = go (position (is_of p.thread) ps) refl
  where
    go : (o : Option ℕ) → position (is_of p.thread) ps ≡ o → Has p (put_at o p ps)
    go None is = has_last ps p
    go (Some i) is = set_new p ps i (position-Some (is_of p.thread) ps i p is).0
