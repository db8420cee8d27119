-- A log without the accesses to variables of one thread has the same relations, races and verdicts.
use Rattle.std.proofs.Common.{◌≡◌, ℕ, List, Bool, true, not, refl, sym, ap, subst}
use Rattle.std.proofs.Common.{◌∙◌, take, ◌⊎◌}
use Rattle.std.proofs.lemmas.Bool.{cases_Bool}
use mathlib.Core.Logic.{inl, inr}
use Rattle.event_core.specs.declared.ids.ThreadId.{ThreadId}
use Rattle.event_core.specs.declared.ids.VarId.{VarId}
use Rattle.event_core.specs.declared.events.Event.{Event}
use Rattle.event_core.specs.declared.events.Op.{Op}
use Rattle.event_core.specs.declared.events.Op.TheVariants.{Load, Store}
use Rattle.event_core.specs.declared.bounds.Limits.{Limits}
use Rattle.event_core.specs.declared.replies.Verdict.{Verdict}
use Rattle.event_core.specs.declared.replies.Verdict.TheVariants.{Clear, Racy}
use Rattle.event_core.specs.Log.{Does, depth, Conflict, OpsConflict}
use Rattle.event_core.specs.Refusal.{WellFormed}
use Rattle.event_core.specs.Verdict.{IsVerdict}
use Rattle.trace_laws.specs.Without.{op_accesses, stays, Stays, without, new_index, new_verdict, IsAccessTo}
use Rattle.trace_laws.specs.Without.{HasOneThread}
use Rattle.trace_laws.specs.AccessLaws.{SaysTheSame}
use Rattle.trace_laws.proofs.Filters.{front, rises, next, stands, origin}
use Rattle.trace_laws.proofs.WithoutProperties.{same_depth, well_formed_too}
use Rattle.trace_laws.specs.Repeats.{is_access}
use Rattle.trace_laws.proofs.MovedLogs.{Moved, meets_to}
use Rattle.trace_laws.proofs.MovedVerdicts.{Same, same_po, same_hb, same_strict, races_to, races_from}
use Rattle.trace_laws.proofs.MovedVerdicts.{clear_to, racy_to, clear_from, racy_from}

only_accesses : (vars : VarId → Bool) (o : Op) → op_accesses vars o ≡ true → is_access o ≡ true
only_accesses vars (Load x) t = refl
only_accesses vars (Store x) t = refl
only_accesses vars _ t = absurd (cc)

-- whether an event stays
stays_or_not : (vars : VarId → Bool) (log : List Event) (i : ℕ) (u : ThreadId) (o : Op) → Does log i u o
    → Stays vars log i ⊎ (op_accesses vars o ≡ true)
stays_or_not vars log i u o d = elim (cases_Bool (op_accesses vars o)) [
  | inl t ↦ inr t
  | inr f ↦ inl (
      record {
        event = d.event;
        at = d.at;
        is = subst (λ (p : Op). not (op_accesses vars p) ≡ true) (sym d.does) (ap not f);
      }
      )
]

moved : (vars : VarId → Bool) (log : List Event)
    → Moved log (without vars log) (Stays vars log) (new_index vars log)
moved vars log = record {
  events = λ i k. stands (stays vars) log i k.event k.at k.is ∙ sym k.at;
  depths =
      λ k u l. ap (λ xs. depth xs u l) (front (stays vars) log k) ∙ same_depth vars (take k log) u l;
  rises = rises (stays vars) log;
  next = λ i k. next (stays vars) log i k.event k.at k.is;
  onto = λ k e at. (
      let o = origin (stays vars) log k e at in
      (o.index, record { event = e; at = o.at; is = o.passes }, o.to));
  cases = cases;
}
  where
    cases : (i : ℕ) (u : ThreadId) (o : Op) → Does log i u o → Stays vars log i ⊎ (is_access o ≡ true)
    cases i u o d = elim (stays_or_not vars log i u o d) [
      | inl k ↦ inl k
      | inr t ↦ inr (only_accesses vars o t)
    ]

-- two operations that conflict access one variable
one_var : (vars : VarId → Bool) (o p : Op) → OpsConflict o p → op_accesses vars o ≡ true
    → (x : VarId) × (vars x ≡ true) × IsAccessTo x o × IsAccessTo x p
one_var vars (Load x) (Store y) c t = (x, t, refl, sym c)
one_var vars (Store x) (Load y) c t = (x, t, refl, sym c)
one_var vars (Store x) (Store y) c t = (x, t, refl, sym c)
one_var vars _ _ c t = absurd c

same_access : (vars : VarId → Bool) (o p : Op) → OpsConflict o p → op_accesses vars p ≡ true
    → op_accesses vars o ≡ true
same_access vars (Load x) (Store y) c t = ap vars c ∙ t
same_access vars (Store x) (Load y) c t = ap vars c ∙ t
same_access vars (Store x) (Store y) c t = ap vars c ∙ t
same_access vars _ _ c t = absurd c

-- conflicting accesses are by two threads, so both stay
conflicts : (vars : VarId → Bool) (log : List Event) → ((x : VarId) → vars x ≡ true → HasOneThread log x)
    → (i j : ℕ) → Conflict log i j → Stays vars log i × Stays vars log j
conflicts vars log own i j c = (
  elim (stays_or_not vars log i c.by c.first c.does_first) [ inl k ↦ k | inr t ↦ absurd (no t) ],
  elim (stays_or_not vars log j c.other c.second c.does_second) [
    | inl k ↦ k
    | inr t ↦ absurd (no (same_access vars c.first c.second c.ops t))
  ],
)
  where
    no : op_accesses vars c.first ≡ true → ⊥
    no t =
        let x = one_var vars c.first c.second c.ops t in
        c.threads (own x.0 x.1 i j c.by c.other c.first c.second c.does_first c.does_second x.2 x.3)

same : (vars : VarId → Bool) (log : List Event) → ((x : VarId) → vars x ≡ true → HasOneThread log x)
    → Same log (without vars log) (Stays vars log) (new_index vars log)
same vars log own = record {
  moved = moved vars log;
  premises = λ r i j m kj h. (
      let k = conflicts vars log own m.access i m.conflict in
      record { access = i; kept = k.1; below = h; meets = meets_to (moved vars log) k.1 m k.0 });
}

-- a log without variables that one thread alone accesses has the same verdicts
pub says_the_same : (m : Limits) (vars : VarId → Bool) (log : List Event) → WellFormed m log
    → ((x : VarId) → vars x ≡ true → HasOneThread log x) → SaysTheSame m log vars
says_the_same m vars log w own = record {
  well_formed = well_formed_too m vars log w;
  order = λ i j ki kj. (same_po s i j ki kj, same_hb s i j ki kj, same_strict s i j ki kj);
  racing = λ i j r. conflicts vars log own i j r.conflict;
  races = λ i j ki kj. (races_to s i j ki kj, races_from s i j ki kj);
  verdict = verdict;
  verdict_here = verdict_here;
}
  where
    s : Same log (without vars log) (Stays vars log) (new_index vars log)
    s = same vars log own

    verdict : (j : ℕ) (v : Verdict) → Stays vars log j → IsVerdict log j v
        → IsVerdict (without vars log) (new_index vars log j) (new_verdict vars log v)
    verdict j Clear k v = clear_to s j (conflicts vars log own) k v
    verdict j (Racy i) k v = racy_to s j i (conflicts vars log own) k v

    verdict_here : (j : ℕ) (v : Verdict) → Stays vars log j
        → IsVerdict (without vars log) (new_index vars log j) v
        → (w : Verdict) × (new_verdict vars log w ≡ v) × IsVerdict log j w
    verdict_here j Clear k v = (Clear, refl, clear_from s j (conflicts vars log own) k v)
    verdict_here j (Racy x) k v =
        let p = racy_from s j x (conflicts vars log own) k v in (Racy p.0, ap Racy p.1, p.2)
