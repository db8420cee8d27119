-- Lines that were all judged make a script where forks lead to each thread.
use Rattle.std.proofs.Common.{◌≡◌, ℕ, ◌<◌, List, length, subst, arith, inl, inr, ◌⊎◌, true, Bool}
use Rattle.std.proofs.lemmas.Bool.{eqb-true}
use Rattle.event_core.specs.declared.events.Op.{Op}
use Rattle.event_core.specs.declared.events.Op.TheVariants as ops
use Rattle.event_core.specs.declared.events.Act.{Act}
use Rattle.event_core.specs.declared.events.Act.TheVariants as acts
use Rattle.rapid_text.specs.Tables.{Tables, space}
use Rattle.rapid_text.specs.Events.{HasNames, target_of, word_of_op, kind_of}
use Rattle.script_text.specs.Lines.{is_of, forks, joins, is_thread, thread_of, act_thread, act_fork, act_join}
use Rattle.script_text.specs.Lines.{op_fork, op_join}
use Rattle.script_text.specs.Scripts.{Parsed, IsDraft, IsScript, AllNamed, act_event}
use Rattle.script_text.specs.Marks.{AreBelow, MarksReached, AllMarked, IsFirstUnmarked}
use Rattle.script_text.proofs.MarksProperties.{names_reached, own_named, own_or_more}

own_below : (t : Tables) (a : Act) → HasNames t (act_event a) → (act_thread a).0 < length t.threads.names
own_below t (acts.One c) h = h.thread
own_below t (acts.Swap u x site arg) h = h.thread

op_fork_below : (t : Tables) (op : Op) (u : ℕ) → is_thread u (op_fork op) ≡ true
    → target_of op < length (space t (kind_of (word_of_op op))).names → u < length t.threads.names
op_fork_below t (ops.Fork v) u is h =
    subst (λ (n : ℕ). n < length t.threads.names) (eqb-true v.0 u is) h
op_fork_below t _ u is h = absurd cc

op_join_below : (t : Tables) (op : Op) (u : ℕ) → is_thread u (op_join op) ≡ true
    → target_of op < length (space t (kind_of (word_of_op op))).names → u < length t.threads.names
op_join_below t (ops.Join v) u is h =
    subst (λ (n : ℕ). n < length t.threads.names) (eqb-true v.0 u is) h
op_join_below t _ u is h = absurd cc

fork_below : (t : Tables) (a : Act) (u : ℕ) → is_thread u (act_fork a) ≡ true → HasNames t (act_event a)
    → u < length t.threads.names
fork_below t (acts.One c) u is h = op_fork_below t c.op u is h.target
fork_below t (acts.Swap v x site arg) u is h = absurd cc

join_below : (t : Tables) (a : Act) (u : ℕ) → is_thread u (act_join a) ≡ true → HasNames t (act_event a)
    → u < length t.threads.names
join_below t (acts.One c) u is h = op_join_below t c.op u is h.target
join_below t (acts.Swap v x site arg) u is h = absurd cc

-- each thread that a line names has a name
pub below : (s : Parsed) → AllNamed s → AreBelow s.lines (length s.names.threads.names)
below s h k l u at named = by (own_or_more (is_of u l) (forks u l) (joins u l) named)
  where
    by : (is_of u l ≡ true) ⊎ (forks u l ≡ true) ⊎ (joins u l ≡ true) → u < length s.names.threads.names
    by (inl own) = subst (λ (m : ℕ). m < length s.names.threads.names) (eqb-true (thread_of l).0 u own)
        (own_below s.names l.act (h k l at))
    by (inr (inl fork)) = fork_below s.names l.act u fork (h k l at)
    by (inr (inr join)) = join_below s.names l.act u join (h k l at)

-- where each line names only threads with a mark, they are a script
pub is_script : (s : Parsed) (marks : List Bool) → IsDraft s → MarksReached s.lines marks
    → AllMarked s.lines marks
    → IsScript s
is_script s marks h sound all = record {
  legal = h.legal;
  reached = λ k l at. names_reached s.lines marks l sound (all k l at);
  named = h.named;
}

-- there is a thread where there is a line
pub some_thread : (s : Parsed) (marks : List Bool) (n : ℕ) → AllNamed s → IsFirstUnmarked s.lines marks n
    → 0 < length s.names.threads.names
some_thread s marks n h first =
    let one = below s h first.place first.line (thread_of first.line).0 first.at (own_named first.line) in
    omega (arith, one)
