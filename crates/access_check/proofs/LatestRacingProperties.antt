-- The latest racing access is one of those that are kept, and at or above each.
use Rattle.std.proofs.Common.{◌≡◌, ℕ, ◌<◌, ◌≤◌, List, [], ◌∷◌, Option, Some, None, Bool, true, false, cond}
use Rattle.std.proofs.Common.{nat_eq, nat_lt, fold, refl, sym, ap, subst, ◌∙◌, ◌⊎◌, arith}
use Rattle.std.proofs.lemmas.Bool.{ltb-true, ltb-false, lt-ltb}
use mathlib.Core.Logic.{inl, inr}
use Rattle.event_core.specs.declared.ids.ThreadId.{ThreadId}
use Rattle.event_core.specs.declared.events.AccessKind.{AccessKind}
use Rattle.event_core.specs.declared.events.AccessKind.TheVariants.{Read, Write}
use Rattle.event_core.specs.Closed.{Has, first, later as further}
use Rattle.event_core.proofs.CountedProperties.{nat_eq_same, nat_eq_other}
use Rattle.event_core.proofs.DepthProperties.{same_thread_id}
use Rattle.event_core.proofs.HasProperties.{none_in}
use Rattle.access_check.specs.declared.last_accesses.LastAccess.{LastAccess}
use Rattle.access_check.specs.declared.variable_accesses.VariableAccesses.{VariableAccesses}
use Rattle.access_check.specs.LastAccesses.{is_of, later, unless_counted, racing, latest}
use Rattle.access_check.specs.VariableAccesses.{kept, latest_racing}

-- there is an index, at least n
pub record AtLeast (n : ℕ) (o : Option ℕ) : Type 0 where
  pub index : ℕ
  pub is : o ≡ Some index
  pub above : n ≤ index

-- what brings none leaves what was found
pub later_none : (n : Option ℕ) → later n None ≡ n
later_none None = refl
later_none (Some m) = refl

later_left : (m : ℕ) (o : Option ℕ) → AtLeast m (later (Some m) o)
later_left m None = record { index = m; is = refl; above = omega arith }
later_left m (Some n) = go (nat_lt m n) refl
  where
    go : (b : Bool) → nat_lt m n ≡ b → AtLeast m (Some (cond b n m))
    go true lt = record { index = n; is = refl; above = (let h : m < n = ltb-true m n lt in omega arith) }
    go false ge = record { index = m; is = refl; above = omega arith }

later_right : (o : Option ℕ) (n : ℕ) → AtLeast n (later o (Some n))
later_right None n = record { index = n; is = refl; above = omega arith }
later_right (Some m) n = go (nat_lt m n) refl
  where
    go : (b : Bool) → nat_lt m n ≡ b → AtLeast n (Some (cond b n m))
    go true lt = record { index = n; is = refl; above = omega arith }
    go false ge = record { index = m; is = refl; above = (let h : n ≤ m = ltb-false m n ge in omega arith) }

later_either : (o p : Option ℕ) (n : ℕ) → later o p ≡ Some n → (o ≡ Some n) ⊎ (p ≡ Some n)
later_either None p n is = inr is
later_either (Some m) None n is = inl is
later_either (Some m) (Some k) n is = go (nat_lt m k) is
  where
    go : (b : Bool) → Some (cond b k m) ≡ Some n → (Some m ≡ Some n) ⊎ (Some k ≡ Some n)
    go true q = inr q
    go false q = inl q

-- the greatest of a list is one of them, and at or above each
module _ (f : LastAccess → Option ℕ) where
  pub fold_above : (start : Option ℕ) (n : ℕ) (ps : List LastAccess) → AtLeast n start
      → AtLeast n (fold (λ (m : Option ℕ) (p : LastAccess). later m (f p)) start ps)
  fold_above start n [] a = a
  fold_above start n (p ∷ ps) a =
      let h : AtLeast a.index (later (Some a.index) (f p)) = later_left a.index (f p) in
      fold_above (later start (f p)) n ps (record {
        index = h.index;
        is = ap (λ o. later o (f p)) a.is ∙ h.is;
        above = (let x : n ≤ a.index = a.above in let y : a.index ≤ h.index = h.above in omega arith);
      })

  -- the greatest index of a list is at least the index of each member
  pub fold_member : (start : Option ℕ) (n : ℕ) (p : LastAccess) (ps : List LastAccess) → Has p ps
      → f p ≡ Some n
      → AtLeast n (fold (λ (m : Option ℕ) (q : LastAccess). later m (f q)) start ps)
  fold_member start n p [] h is = absurd (none_in h)
  fold_member start n p (q ∷ qs) (first _ _ same) is =
      let h : AtLeast n (later start (Some n)) = later_right start n in
      fold_above (later start (f q)) n qs (record {
        index = h.index;
        is = ap (later start) (ap f (sym same) ∙ is) ∙ h.is;
        above = h.above;
      })
  fold_member start n p (q ∷ qs) (further _ _ h) is = fold_member (later start (f q)) n p qs h is

  pub fold_from : (start : Option ℕ) (n : ℕ) (ps : List LastAccess)
      → fold (λ (m : Option ℕ) (p : LastAccess). later m (f p)) start ps ≡ Some n
      → (start ≡ Some n) ⊎ ((p : LastAccess) × Has p ps × (f p ≡ Some n))
  fold_from start n [] is = inl is
  fold_from start n (p ∷ ps) is = go (fold_from (later start (f p)) n ps is)
    where
      here : (start ≡ Some n) ⊎ (f p ≡ Some n) → (start ≡ Some n) ⊎ ((q : LastAccess) × Has q (p ∷ ps) ×
          (f q ≡ Some n))
      here (inl s) = inl s
      here (inr q) = inr (p, first p ps refl, q)

      go : (later start (f p) ≡ Some n) ⊎ ((q : LastAccess) × Has q ps × (f q ≡ Some n))
          → (start ≡ Some n) ⊎ ((q : LastAccess) × Has q (p ∷ ps) × (f q ≡ Some n))
      go (inl s) = here (later_either start (f p) n s)
      go (inr r) = inr (r.0, further p ps r.1, r.2)

-- which kinds of access conflict
pub data Clashes : AccessKind → AccessKind → Type 0 where
  write_read : Clashes Write Read
  read_write : Clashes Read Write
  write_write : Clashes Write Write

-- a store clashes with each access to its variable
pub write_clashes : (k : AccessKind) → Clashes Write k
write_clashes Read = write_read
write_clashes Write = write_write

-- an index that is at least n is at least each lower index
pub lower : (i n : ℕ) (o : Option ℕ) → i ≤ n → AtLeast n o → AtLeast i o
lower i n o le h =
    let above : n ≤ h.index = h.above in record { index = h.index; is = h.is; above = omega arith }

-- what an index that was read was read from
pub record Found (t : ThreadId) (c : ℕ → ℕ) (p : LastAccess) (i : ℕ) : Type 0 where
  pub other : p.thread ≡ t → ⊥
  pub index : p.access.index ≡ i
  pub above : c p.thread.0 < p.access.position

racing_found : (t : ThreadId) (c : ℕ → ℕ) (p : LastAccess) (i : ℕ) → racing t c p ≡ Some i → Found t c p i
racing_found t c p i is = go (is_of t p) (nat_lt (c p.thread.0) p.access.position) refl refl is
  where
    go : (b d : Bool) → is_of t p ≡ b → nat_lt (c p.thread.0) p.access.position ≡ d
        → cond b None (cond d (Some p.access.index) None) ≡ Some i → Found t c p i
    go true d own lt q = absurd cc
    go false false own lt q = absurd cc
    go false true own lt q = record {
      other = λ same.
          let y : true ≡ false = sym (nat_eq_same t.0)
          ∙ (ap (λ (u : ThreadId). nat_eq u.0 t.0) (sym same) ∙ own) in cc;
      index = cc;
      above = ltb-true (c p.thread.0) p.access.position lt;
    }

-- an access of another thread that the clock does not count races
pub found_racing : (t : ThreadId) (c : ℕ → ℕ) (p : LastAccess) → (p.thread ≡ t → ⊥)
    → c p.thread.0 < p.access.position → racing t c p ≡ Some p.access.index
found_racing t c p other lt =
    ap (λ (b : Bool). cond b None (unless_counted (c p.thread.0) p))
    (nat_eq_other p.thread.0 t.0 (λ q. other (same_thread_id q)))
    ∙ ap (λ (b : Bool). cond b (Some p.access.index) None) (lt-ltb (c p.thread.0) p.access.position lt)

-- the latest of both lists is at or above that of a list that is read
pub latest_above : (t : ThreadId) (k m : AccessKind) (c : ℕ → ℕ) (ts : VariableAccesses) (n : ℕ) → Clashes m k
    → AtLeast n (latest t c (kept m ts)) → AtLeast n (latest_racing t k c ts)
latest_above t Read Write c ts n clash h = h
latest_above t Write Read c ts n clash h =
    let above : n ≤ h.index = h.above in
    lower n h.index (latest_racing t Write c ts) (omega arith)
    (subst (λ o. AtLeast h.index (later o (latest t c (kept Write ts)))) (sym h.is)
    (later_left h.index (latest t c (kept Write ts))))
latest_above t Write Write c ts n clash h =
    let above : n ≤ h.index = h.above in
    lower n h.index (latest_racing t Write c ts) (omega arith)
    (subst (λ o. AtLeast h.index (later (latest t c (kept Read ts)) o)) (sym h.is)
    (later_right (latest t c (kept Read ts)) h.index))
latest_above t Read Read c ts n clash h = elim clash [ ]

-- the list that the latest of both was read from
pub record ReadFrom (t : ThreadId) (k : AccessKind) (c : ℕ → ℕ) (ts : VariableAccesses) (n : ℕ) : Type 0 where
  pub kind : AccessKind
  pub clashes : Clashes kind k
  pub last : LastAccess
  pub member : Has last (kept kind ts)
  pub found : Found t c last n

read_from : (t : ThreadId) (k m : AccessKind) (c : ℕ → ℕ) (ts : VariableAccesses) (n : ℕ) → Clashes m k
    → latest t c (kept m ts) ≡ Some n → ReadFrom t k c ts n
read_from t k m c ts n clash is = go (fold_from (racing t c) None n (kept m ts) is)
  where
    go : (None ≡ Some n) ⊎ ((p : LastAccess) × Has p (kept m ts) × (racing t c p ≡ Some n))
        → ReadFrom t k c ts n
    go (inl q) = absurd cc
    go (inr r) = record {
      kind = m;
      clashes = clash;
      last = r.0;
      member = r.1;
      found = racing_found t c r.0 n r.2;
    }

-- the latest racing index is read from an access that is kept, and that clashes
pub latest_from : (t : ThreadId) (k : AccessKind) (c : ℕ → ℕ) (ts : VariableAccesses) (n : ℕ)
    → latest_racing t k c ts ≡ Some n → ReadFrom t k c ts n
latest_from t Read c ts n is = read_from t Read Write c ts n write_read is
latest_from t Write c ts n is =
    go (later_either (latest t c (kept Read ts)) (latest t c (kept Write ts)) n is)
  where
    go : (latest t c (kept Read ts) ≡ Some n) ⊎ (latest t c (kept Write ts) ≡ Some n)
        → ReadFrom t Write c ts n
    go (inl l) = read_from t Write Read c ts n read_write l
    go (inr s) = read_from t Write Write c ts n write_write s
