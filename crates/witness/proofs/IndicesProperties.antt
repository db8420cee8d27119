-- Lists of indices to which one is added.
use Rattle.std.proofs.Common.{◌≡◌, ℕ, suc, ◌+◌, List, [], ◌∷◌, ◌++◌, Option, Some, None, slice_get, refl, ap}
use Rattle.std.proofs.Common.{◌∙◌, sym, arith, get_or, if◌then◌else◌, Bool, true, false, ◌<◌, ◌⊎◌}
use Rattle.std.proofs.lemmas.Bool.{cases_Bool}
use mathlib.Core.Logic.{inl, inr}
use Rattle.event_core.specs.declared.ids.VarId.{VarId}
use Rattle.event_core.specs.declared.events.Event.{Event}
use Rattle.event_core.specs.Refusal.{op_stores}
use Rattle.witness.specs.Indices.{below, events_at, with_event, stores_to, last_store, last_store_from}

pub below_more : (n m : ℕ) → m ≡ n + 1 → below m ≡ below n ++ n ∷ []
unfolding below
below_more n m e = let is : m ≡ suc n = omega arith in ap below is

-- one index more adds its event
pub events_more : (log : List Event) (ks : List ℕ) (k : ℕ) (e : Event) → slice_get log k ≡ Some e
    → events_at log (ks ++ k ∷ []) ≡ events_at log ks ++ e ∷ []
unfolding events_at
events_more log [] k e at = ap (λ (o : Option Event). with_event o []) at
events_more log (j ∷ js) k e at =
    ap (with_event (slice_get log j)) (events_more log js k e at) ∙ out (slice_get log j) (events_at log js)
  where
    out : (o : Option Event) (es : List Event) → with_event o (es ++ e ∷ []) ≡ with_event o es ++ e ∷ []
    out None es = refl
    out (Some f) es = refl

from_more : (log : List Event) (x : VarId) (k : ℕ) (e : Event) → slice_get log k ≡ Some e → (b : Option ℕ)
    → (ks : List ℕ) → last_store_from b log x (ks ++ k ∷ [])
    ≡ (if op_stores x e.op then Some k else last_store_from b log x ks)
from_more log x k e at b [] = ap (λ (o : Option Event). if stores_to x o then Some k else b) at
from_more log x k e at b (j ∷ js) =
    from_more log x k e at (if stores_to x (slice_get log j) then Some j else b) js

-- the last store of a variable is that of the last index, if its event stores the variable
pub store_more : (log : List Event) (x : VarId) (ks : List ℕ) (k : ℕ) (e : Event) → slice_get log k ≡ Some e
    → last_store log x (ks ++ k ∷ []) ≡ (if op_stores x e.op then Some k else last_store log x ks)
unfolding last_store
store_more log x ks k e at = from_more log x k e at None ks

-- before any event a variable has no last store
pub no_store : (log : List Event) (x : VarId) → last_store log x [] ≡ None
unfolding last_store
no_store log x = refl

pub none_below : below 0 ≡ []
unfolding below
none_below = refl

-- an empty list of indices has no events
pub no_events : (log : List Event) → events_at log [] ≡ []
unfolding events_at
no_events log = refl

-- the last stores before the first event
pub none_read : (log : List Event) (stores : List (Option ℕ)) → stores ≡ [] → (x : VarId)
    → get_or stores x.0 None ≡ last_store log x (below 0)
unfolding last_store below
none_read log stores e x = rw e refl

-- the last stores, after one more event
pub store_noted : (log : List Event) (k : ℕ) (e : Event) (stores more : List (Option ℕ))
    → slice_get log k ≡ Some e → ((x : VarId) → get_or stores x.0 None ≡ last_store log x (below k))
    → ((x : VarId) → get_or more x.0 None ≡ (if op_stores x e.op then Some k else get_or stores x.0 None))
    → (x : VarId) → get_or more x.0 None ≡ last_store log x (below (k + 1))
store_noted log k e stores more at were noted x =
    noted x ∙ ap (λ (o : Option ℕ). if op_stores x e.op then Some k else o) (were x)
    ∙ sym (store_more log x (below k) k e at)
    ∙ ap (last_store log x) (sym (below_more k (k + 1) refl))

-- no store is kept before the first event
pub none_early : (stores : List (Option ℕ)) → stores ≡ [] → (x : VarId) (s : ℕ)
    → get_or stores x.0 None ≡ Some s → ⊥
none_early stores e x s is =
    let none : get_or stores x.0 None ≡ None = rw e refl in
    let both : None ≡ Some s = sym none ∙ is in
    absurd (cc)

-- each store that is kept is before the event at k; so it is after one more event
pub early_more : (k : ℕ) (e : Event) (stores more : List (Option ℕ))
    → ((x : VarId) (s : ℕ) → get_or stores x.0 None ≡ Some s → s < k)
    → ((x : VarId) → get_or more x.0 None ≡ (if op_stores x e.op then Some k else get_or stores x.0 None))
    → (x : VarId) (s : ℕ) → get_or more x.0 None ≡ Some s → s < k + 1
early_more k e stores more were noted x s is = go (cases_Bool (op_stores x e.op))
  where
    kept : (b : Bool) → op_stores x e.op ≡ b
        → (if b then Some k else get_or stores x.0 None) ≡ Some s
    kept b t =
        sym (ap (λ (c : Bool). if c then Some k else get_or stores x.0 None) t) ∙ sym (noted x) ∙ is

    go : (op_stores x e.op ≡ true) ⊎ (op_stores x e.op ≡ false) → s < k + 1
    go (inl t) =
        let some : Some k ≡ Some s = kept true t in
        let same : k ≡ s = cc in
        omega arith
    go (inr f) =
        let less = were x s (kept false f) in
        omega arith
