-- The latest racing access is the verdict.
use Rattle.std.proofs.Common.{◌≡◌, ℕ, ◌+◌, ◌<◌, ◌≤◌, List, [], ◌∷◌, ◌++◌, Option, Some, None, length, take}
use Rattle.std.proofs.Common.{refl, sym, ap, subst, ◌∙◌, ◌⊎◌, arith}
use Rattle.std.proofs.lemmas.Bool.{cases_lt}
use Rattle.std.proofs.lemmas.Option.{slice_get_within}
use mathlib.Core.Logic.{inl, inr}
use Rattle.event_core.specs.declared.ids.VarId.{VarId}
use Rattle.event_core.specs.declared.events.Event.{Event}
use Rattle.event_core.specs.declared.events.Op.{Op}
use Rattle.event_core.specs.declared.events.Op.TheVariants.{Load, Store}
use Rattle.event_core.specs.declared.events.AccessKind.{AccessKind}
use Rattle.event_core.specs.declared.events.AccessKind.TheVariants.{Read, Write}
use Rattle.event_core.specs.declared.replies.Verdict.TheVariants.{Clear}
use Rattle.event_core.specs.Log.{Does, Of, OpsConflict}
use Rattle.event_core.specs.Count.{events_of}
use Rattle.event_core.specs.Orderly.{Orderly}
use Rattle.event_core.specs.Rows.{Counted}
use Rattle.event_core.specs.Effect.{access_of}
use Rattle.event_core.specs.Closed.{Has}
use Rattle.event_core.specs.Wcp.{Below}
use Rattle.event_core.specs.Verdict.{Races, IsVerdict}
use Rattle.event_core.proofs.ConflictProperties.{IsAccess, access_second}
use Rattle.event_core.proofs.OrderProperties.{po_thread}
use Rattle.event_core.proofs.CountedProperties.{last_does, last_of}
use Rattle.event_core.proofs.OrderlyProperties.{orderly}
use Rattle.event_core.proofs.LogProperties.{of_does, does_op}
use Rattle.event_core.proofs.BelowProperties.{first_below}
use Rattle.event_core.proofs.RelationsStay.{longer, back, does, hb_too, below_too}
use Rattle.event_core.proofs.EffectProperties.{front}
use Rattle.access_check.specs.declared.last_accesses.LastAccess.{LastAccess}
use Rattle.access_check.specs.declared.variable_accesses.VariableAccesses.{VariableAccesses}
use Rattle.access_check.specs.LastAccesses.{racing}
use Rattle.access_check.specs.VariableAccesses.{kept, latest_racing}
use Rattle.access_check.specs.Tables.{AccessTables, accesses_at, verdict_at, verdict_of}
use Rattle.access_check.specs.Standing.{IsOfLog, HasLast, IsCovered, VariableStands, StandsFor}
use Rattle.access_check.proofs.LatestRacingProperties.{AtLeast, lower, Clashes, write_read, read_write}
use Rattle.access_check.proofs.LatestRacingProperties.{write_write, write_clashes, ReadFrom, found_racing}
use Rattle.access_check.proofs.LatestRacingProperties.{latest_above, latest_from, fold_member}
use Rattle.event_core.proofs.StrictIsWithinHb.{below_hb, below_trans}

-- accesses to one variable whose kinds clash conflict
pub clash_conflicts : (x : VarId) (m k : AccessKind) → Clashes m k
    → OpsConflict (access_of x m) (access_of x k)
clash_conflicts x Write Read c = refl
clash_conflicts x Read Write c = refl
clash_conflicts x Write Write c = refl
clash_conflicts x Read Read c = elim c [ ]

-- the operation is such an access
pub record IsClash (x : VarId) (k : AccessKind) (o : Op) : Type 0 where
  pub kind : AccessKind
  pub clashes : Clashes kind k
  pub is : o ≡ access_of x kind

pub conflict_clashes : (x : VarId) (k : AccessKind) (o : Op) → OpsConflict o (access_of x k) → IsClash x k o
conflict_clashes x Read (Store y) c = record { kind = Write; clashes = write_read; is = ap Store c }
conflict_clashes x Write (Load y) c = record { kind = Read; clashes = read_write; is = ap Load c }
conflict_clashes x Write (Store y) c = record { kind = Write; clashes = write_write; is = ap Store c }
conflict_clashes x _ _ c = absurd c

module _ (log : List Event) (e : Event) (x : VarId) (k : AccessKind) (op : e.op ≡ access_of x k) (c : ℕ → ℕ)
    (counted : Counted (log ++ e ∷ []) (λ i. Below (log ++ e ∷ []) i (length log)) c) (order : Orderly log)
    (ts : VariableAccesses) (s : VariableStands log x ts) where
  -- a kept access that the clock does not count races
  pub races : (i : ℕ) → ReadFrom e.thread k c ts i → Races (log ++ e ∷ []) i (length log)
  races i r =
      let p = r.last in
      let a : IsOfLog log x r.kind p = s.sound r.kind p r.member in
      let within : p.access.index < length log
      = slice_get_within log p.access.index a.does.event a.does.at in
      let d : Does (log ++ e ∷ []) p.access.index p.thread (access_of x r.kind)
      = does (longer log (e ∷ [])) within a.does in
      let rank : events_of (take p.access.index (log ++ e ∷ [])) p.thread
      ≡ events_of (take p.access.index log) p.thread
      = ap (λ es. events_of es p.thread) (front log e p.access.index (omega arith)) in
      subst (λ j. Races (log ++ e ∷ []) j (length log)) r.found.index (record {
        before = within;
        conflict = record {
          first = access_of x r.kind;
          second = access_of x k;
          by = p.thread;
          other = e.thread;
          does_first = d;
          does_second = subst (λ o. Does (log ++ e ∷ []) (length log) e.thread o) op (last_does log e);
          ops = clash_conflicts x r.kind k r.clashes;
          threads = r.found.other;
        };
        unordered = λ b.
            let under : events_of (take p.access.index (log ++ e ∷ [])) p.thread < c p.thread.0
            = ((counted p.thread).first p.access.index (of_does d)).0 b in
            let position : p.access.position ≡ events_of (take p.access.index log) p.thread + 1
            = a.position in
            let above : c p.thread.0 < p.access.position = r.found.above in
            omega arith;
      })

  -- a kept access that is not ordered before the event is found
  unordered_found : (m : AccessKind) (p : LastAccess) → Clashes m k → Has p (kept m ts)
      → (Below (log ++ e ∷ []) p.access.index (length log) → ⊥)
      → AtLeast p.access.index (latest_racing e.thread k c ts)
  unordered_found m p clash member none =
      latest_above e.thread k m c ts p.access.index clash
      (fold_member (racing e.thread c) None p.access.index p (kept m ts) member
      (found_racing e.thread c p other (above (cases_lt (c p.thread.0) p.access.position))))
    where
      a : IsOfLog log x m p
      a = s.sound m p member

      within : p.access.index < length log
      within = slice_get_within log p.access.index a.does.event a.does.at

      here : Of (log ++ e ∷ []) p.access.index p.thread
      here = of_does (does (longer log (e ∷ [])) within a.does)

      other : p.thread ≡ e.thread → ⊥
      other same =
          let lt : p.access.index < length log = within in
          none (inr (po_thread e.thread (subst (Of (log ++ e ∷ []) p.access.index) same here) (last_of log e)
          (omega arith)))

      rank : events_of (take p.access.index (log ++ e ∷ [])) p.thread
          ≡ events_of (take p.access.index log) p.thread
      rank =
          let lt : p.access.index < length log = within in
          ap (λ es. events_of es p.thread) (front log e p.access.index (omega arith))

      above : (c p.thread.0 < p.access.position) ⊎ (p.access.position ≤ c p.thread.0)
          → c p.thread.0 < p.access.position
      above (inl lt) = lt
      above (inr ge) =
          let position : p.access.position ≡ events_of (take p.access.index log) p.thread + 1 = a.position in
          let same_rank : events_of (take p.access.index (log ++ e ∷ [])) p.thread
          ≡ events_of (take p.access.index log) p.thread = rank in
          absurd (none (((counted p.thread).first p.access.index here).1 (omega arith)))

  -- each race is at or below the latest racing access that is kept
  pub race_found : (i : ℕ) → Races (log ++ e ∷ []) i (length log)
      → AtLeast i (latest_racing e.thread k c ts)
  race_found i r = found (s.complete i r.conflict.by clash.kind old)
    where
      clash : IsClash x k r.conflict.first
      clash = conflict_clashes x k r.conflict.first
          (subst (OpsConflict r.conflict.first) (does_op r.conflict.does_second (last_does log e)
          ∙ op) r.conflict.ops)

      old : Does log i r.conflict.by (access_of x clash.kind)
      old = does (back (longer log (e ∷ []))) r.before
          (subst (λ o. Does (log ++ e ∷ []) i r.conflict.by o) clash.is r.conflict.does_first)

      -- an access of the log, in the log with the event
      of_longer : (m : AccessKind) (p : LastAccess) → Has p (kept m ts)
          → (p.access.index < length log) × Of (log ++ e ∷ []) p.access.index p.thread
      of_longer m p member =
          let a : IsOfLog log x m p = s.sound m p member in
          let within : p.access.index < length log
          = slice_get_within log p.access.index a.does.event a.does.at in
          (within, of_does (does (longer log (e ∷ [])) within a.does))

      found : HasLast (kept clash.kind ts) r.conflict.by i ⊎ IsCovered log (kept Write ts) i
          → AtLeast i (latest_racing e.thread k c ts)
      found (inl h) =
          let at = of_longer clash.kind h.last h.member in
          lower i h.last.access.index (latest_racing e.thread k c ts) h.from
          (unordered_found clash.kind h.last clash.clashes h.member
          (λ b. r.unordered (first_below h.last.thread
          (subst (Of (log ++ e ∷ []) i) (sym h.thread) (of_does r.conflict.does_first)) at.1 h.from b)))
      found (inr h) =
          let at = of_longer Write h.store h.member in
          let after : i < h.store.access.index = h.after in
          lower i h.store.access.index (latest_racing e.thread k c ts) (omega arith)
          (unordered_found Write h.store (write_clashes k) h.member
          (λ b. h.ordered (λ below. r.unordered (below_trans
          (hb_too (longer log (e ∷ [])) at.0 (below_hb order below))
          (below_too (longer log (e ∷ [])) at.0 below) b))))

  pub is_verdict : IsVerdict (log ++ e ∷ []) (length log) (verdict_at (latest_racing e.thread k c ts))
  is_verdict = go (latest_racing e.thread k c ts) refl
    where
      go : (o : Option ℕ) → latest_racing e.thread k c ts ≡ o
          → IsVerdict (log ++ e ∷ []) (length log) (verdict_at o)
      go None is = λ i r. let f = race_found i r in let q : None ≡ Some f.index = sym is ∙ f.is in cc
      go (Some n) is = (
        races n (latest_from e.thread k c ts n is),
        λ i lt r.
            let f = race_found i r in
            let same : Some n ≡ Some f.index = sym is ∙ f.is in
            let n_is : n ≡ f.index = cc in
            let above : i ≤ f.index = f.above in
            omega arith,
      )

-- where the event is no access, nothing conflicts with it
clear : (log : List Event) (e : Event) → (IsAccess e.op → ⊥) → IsVerdict (log ++ e ∷ []) (length log) Clear
clear log e none i r =
    none (subst IsAccess (sym (does_op (last_does log e) r.conflict.does_second))
    (access_second r.conflict.first r.conflict.second r.conflict.ops))

-- the verdict that the tables give is the verdict of the definition
pub verdict_stands : (log : List Event) (e : Event) (t : AccessTables) (c : ℕ → ℕ) → StandsFor log t
    → Counted (log ++ e ∷ []) (λ i. Below (log ++ e ∷ []) i (length log)) c
    → IsVerdict (log ++ e ∷ []) (length log) (verdict_of t.vars e.thread e.op c)
verdict_stands log e t c s counted = go e.op refl
  where
    order : Orderly log
    order = orderly t.limits log s.well_formed

    go : (o : Op) → e.op ≡ o → IsVerdict (log ++ e ∷ []) (length log) (verdict_of t.vars e.thread o c)
    go (Load x) op = is_verdict log e x Read op c counted order (accesses_at t.vars x.0) (s.accesses x)
    go (Store x) op = is_verdict log e x Write op c counted order (accesses_at t.vars x.0) (s.accesses x)
    go _ op = clear log e (subst IsAccess op)
