-- Noting an access of a thread below the width keeps each number below it.
use Rattle.std.proofs.Common.{ℕ, ◌<◌, List, [], Option, Some, None, Bool, true, false, nat_eq, cond, arith}
use Rattle.std.specs.List.{position}
use Rattle.std.proofs.lemmas.List.Elements.{All-set, All-push}
use Rattle.event_core.specs.declared.ids.ThreadId.{ThreadId}
use Rattle.event_core.specs.declared.events.Op.{Op}
use Rattle.event_core.specs.declared.events.Op.TheVariants.{Load, Store, Acquire}
use Rattle.event_core.specs.declared.events.AccessKind.{AccessKind}
use Rattle.event_core.specs.declared.events.AccessKind.TheVariants.{Read, Write}
use Rattle.event_core.specs.declared.replies.Verdict.{Verdict}
use Rattle.event_core.specs.declared.replies.Verdict.TheVariants.{Clear, Racy}
use Rattle.access_check.specs.declared.last_accesses.Access.{Access}
use Rattle.access_check.specs.declared.last_accesses.LastAccess.{LastAccess}
use Rattle.access_check.specs.declared.variable_accesses.VariableAccesses.{VariableAccesses}
use Rattle.access_check.specs.LastAccesses.{is_of, put_at, put, AreNarrow}
use Rattle.access_check.specs.VariableAccesses.{kept, kept_after}
use Rattle.access_check.specs.Tables.{last_of, accesses_after}

narrow_put : (width : ℕ) (p : LastAccess) (ps : List LastAccess) → p.thread.0 < width → AreNarrow width ps
    → AreNarrow width (put p ps)
narrow_put width p ps lt all = go (position (is_of p.thread) ps)
  where
    go : (o : Option ℕ) → AreNarrow width (put_at o p ps)
    go None = All-push (λ (q : LastAccess). q.thread.0 < width) ps p all lt
    go (Some i) = All-set (λ (q : LastAccess). q.thread.0 < width) ps i p lt all

narrow_none : (width : ℕ) → AreNarrow width []
narrow_none width = λ i d lt. absurd (omega arith)

narrow_kept : (width : ℕ) (v : Verdict) (k : AccessKind) (p : LastAccess) (m : AccessKind)
    (ts : VariableAccesses)
    → p.thread.0 < width → ((n : AccessKind) → AreNarrow width (kept n ts))
    → AreNarrow width (kept_after v k p m ts)
narrow_kept width v Read p Read ts lt all = narrow_put width p (kept Read ts) lt (all Read)
narrow_kept width v Read p Write ts lt all = all Write
narrow_kept width Clear Write p Read ts lt all = narrow_none width
narrow_kept width Clear Write p Write ts lt all =
    All-push (λ (q : LastAccess). q.thread.0 < width) [] p (narrow_none width) lt
narrow_kept width (Racy i) Write p Read ts lt all = all Read
narrow_kept width (Racy i) Write p Write ts lt all = narrow_put width p (kept Write ts) lt (all Write)

-- noting an event keeps them below it
pub narrow_after : (width : ℕ) (v : Verdict) (t : ThreadId) (op : Op) (a : Access) (x : ℕ) (m : AccessKind)
    (ts : VariableAccesses) → t.0 < width → ((n : AccessKind) → AreNarrow width (kept n ts))
    → AreNarrow width (accesses_after v t op a x m ts)
narrow_after width v t (Load y) a x m ts lt all = go (nat_eq x y.0)
  where
    go : (b : Bool) → AreNarrow width (cond b (kept_after v Read (last_of t a) m ts) (kept m ts))
    go true = narrow_kept width v Read (last_of t a) m ts lt all
    go false = all m
narrow_after width v t (Store y) a x m ts lt all = go (nat_eq x y.0)
  where
    go : (b : Bool) → AreNarrow width (cond b (kept_after v Write (last_of t a) m ts) (kept m ts))
    go true = narrow_kept width v Write (last_of t a) m ts lt all
    go false = all m
narrow_after width v t (Acquire l) a x m ts lt all = all m
narrow_after width v t _ a x m ts lt all = all m
