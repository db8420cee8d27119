-- The recurrence gives the least relation.
use Rattle.std.proofs.Common.{◌≡◌, ℕ, suc, zero, ◌<◌, ◌≤◌, List, sym, subst, ◌∙◌, arith, ◌⊎◌}
use Rattle.std.proofs.lemmas.Bool.{cases_order}
use mathlib.Core.Logic.{inl, inr}
use Rattle.event_core.proofs.Words.{ThreadId, LockId, Event, Release}
use Rattle.event_core.specs.Log.{Does, OuterRelease, Section, InSection}
use Rattle.event_core.specs.Order.{here, lock, Hb}
use Rattle.event_core.specs.Wcp.{Meets, Strict, rule_a, rule_b, rule_c_left, rule_c_right, IsClosed}
use Rattle.event_core.specs.Recurrence.{Pre, old, access, release}
use Rattle.event_core.specs.Orderly.{Orderly}
use Rattle.event_core.proofs.Accesses.{access_no_release, conflict_access}
use Rattle.event_core.proofs.LogProperties.{of_does, sections_apart, does_op, release_lock}
use Rattle.event_core.proofs.OrderProperties.{chain_one, hb_trans, hb_thread, hb_forward, acquire_below}
use Rattle.event_core.proofs.OrderProperties.{below_release}
use Rattle.event_core.proofs.DepthProperties.{section_of}
use Rattle.event_core.proofs.NearProperties.{Through, near_hb, near_before, near_law}

-- strict pairs go forward
pub strict_forward : {log : List Event} {i j : ℕ} → Strict log i j → i < j
strict_forward (rule_a m) = m.before
strict_forward (rule_b l lt p q s) = lt
strict_forward (rule_c_left h s) = let le = hb_forward h in let lt = strict_forward s in omega arith
strict_forward (rule_c_right s h) = let le = hb_forward h in let lt = strict_forward s in omega arith

-- every closed set of pairs contains them
pub strict_least : {log : List Event} {i j : ℕ} (R : ℕ → ℕ → Type 0) → IsClosed log R → Strict log i j → R i j
strict_least R c (rule_a {r = r} {j = j} m) = c.a r j m
strict_least R c (rule_b {r = r} {s = s} {e = e} {f = f} l lt p q d) =
    c.b r s e f l lt p q (strict_least R c d)
strict_least R c (rule_c_left {i = i} {g = g} {j = j} h d) = c.left i g j h (strict_least R c d)
strict_least R c (rule_c_right {i = i} {g = g} {j = j} d h) = c.right i g j (strict_least R c d) h

-- a section's own ends are in it
pub acquire_in : {log : List Event} {u : ThreadId} {l : LockId} {a r : ℕ} → Section log u l a r
    → InSection log l r a
acquire_in {u = u} {a = a} s =
    record {
      thread = u;
      acquire = a;
      section = s;
      of = of_does s.inside.opened.does;
      from = omega arith;
      to = s.inside.from;
    }

-- a section's release is in it
pub release_in : {log : List Event} {u : ThreadId} {l : LockId} {a r : ℕ} → Section log u l a r
    → InSection log l r r
release_in {u = u} {a = a} s =
    record { thread = u; acquire = a; section = s; of = s.inside.of; from = s.inside.from; to = omega arith }

-- the recurrence gives strict pairs only
pub pre_strict : {log : List Event} {i j : ℕ} → Orderly log → Pre log i j → Strict log i j
pre_strict w (old n p) = rule_c_right (pre_strict w p) (near_hb n)
pre_strict w (access h m) = rule_c_left h (rule_a m)
pre_strict {log = log} w (release {j = j} u v l lt s o n p h) =
    let t = section_of log v l j w o in
    rule_c_left h (rule_b l lt (acquire_in s) (release_in t.1) (rule_c_right (pre_strict w p) (near_hb n)))

-- what is below a member is one
pub pre_left : {log : List Event} {f i j : ℕ} → Hb log f i → Pre log i j → Pre log f j
pre_left h (old n p) = old n (pre_left h p)
pre_left h (access k m) = access (hb_trans h k) m
pre_left h (release u v l lt s o n p k) = release u v l lt s o n p (hb_trans h k)

-- a member of an event is one of each event above it
pub pre_right : (log : List Event) (bound i g j : ℕ) → Orderly log → j < bound → Pre log i g → Hb log g j
    → Pre log i j
pre_right log zero i g j w lt p h = absurd (omega arith)
pre_right log (suc bound) i g j w lt p h =
    go (near_law log g j w h) (λ n m k. pre_right log bound i g n w m p k)
  where
    go : (g ≡ j) ⊎ Through log g j → ((n : ℕ) → n < bound → Hb log g n → Pre log i n) → Pre log i j
    go (inl e) ih = subst (λ x. Pre log i x) e p
    go (inr t) ih = old t.near (ih t.index (let b = near_before t.near in omega arith) t.above)

pub pre_up : {log : List Event} {i g j : ℕ} → Orderly log → Pre log i g → Hb log g j → Pre log i j
pre_up {log = log} {i = i} {g = g} {j = j} w p h = pre_right log (suc j) i g j w (omega arith) p h

-- a release is no access
release_no_access : {log : List Event} {r j : ℕ} {v : ThreadId} {l : LockId} → Meets log r j
    → Does log j v (Release l) → ⊥
release_no_access m d =
    let c = conflict_access m.conflict.first m.conflict.second m.conflict.ops in
    access_no_release c.0 c.1 _ (sym c.2 ∙ does_op m.conflict.does_second d)

-- rule (b): what is left to do once the earlier section's acquire is a member of the later release
pub pre_b : {log : List Event} {u v : ThreadId} {l : LockId} {a r s : ℕ} → Orderly log → Section log u l a r
    → OuterRelease log s v l → r < s → Pre log a s → Pre log r s
pre_b w p o lt (old n q) = release _ _ _ lt p o n q here
pre_b w p o lt (access h m) = absurd (release_no_access m o.does)
pre_b {log = log} {u = u} {v = v} {l = l} {a = a} {r = r} {s = s} w p o lt
    (release {a = b} {r = t} u' v' l' lt' p' o' n q h) = elim (cases_order r t) [
      | inl e ↦ release u' v l lt' p'' o n q (subst (λ x. Hb log r x) e here)
      | inr c ↦ elim c [
        | inl early ↦
            let up = hb_trans
            (hb_thread u (of_does p.inside.opened.does) (of_does p.closed.does) p.inside.from)
            (chain_one (lock u u' l (sections_apart w p p'' early) p.closed p''.inside.opened)) in
            release u v l lt p o n (pre_left up q) here
        | inr late ↦ absurd (
            let apart : t < a = sections_apart w p'' p late in
            let le : a ≤ t = hb_forward h in
            omega arith)
      ]
    ]
  where
    p'' : Section log u' l b t
    p'' = subst (λ x. Section log u' x b t) (release_lock o'.does o.does) p'

-- the recurrence gives each strict pair
pub strict_pre : {log : List Event} {i j : ℕ} → Orderly log → Strict log i j → Pre log i j
strict_pre w (rule_a m) = access here m
strict_pre w (rule_b l lt p q s) =
    let up : Pre _ p.acquire _ = pre_up w (pre_left (acquire_below p) (strict_pre w s)) (below_release q) in
    pre_b w p.section q.section.closed lt up
strict_pre w (rule_c_left h s) = pre_left h (strict_pre w s)
strict_pre w (rule_c_right s h) = pre_up w (strict_pre w s) h
