-- The threads after an accepted call.
use Rattle.std.proofs.Common.{◌≡◌, ℕ, ◌-◌, Bool, true, false, None, List, [], ◌∷◌, ◌++◌, nat_eq, ◌||◌, ◌&&◌}
use Rattle.std.proofs.Common.{ap, sym, refl, ◌∙◌, subst, if◌then◌else◌}
use Rattle.std.proofs.Math.Bool.{or-true, or-false}
use Rattle.std.specs.List.{list_any}
use Rattle.event_core.specs.declared.ids.ThreadId.{ThreadId}
use Rattle.event_core.specs.declared.ids.LockId.{LockId}
use Rattle.event_core.specs.declared.events.Event.{Event}
use Rattle.event_core.specs.declared.events.Call.{Call}
use Rattle.event_core.specs.declared.bounds.Limits.{Limits}
use Rattle.event_core.specs.declared.events.Op.{Op}
use Rattle.event_core.specs.declared.events.Op.TheVariants.{Acquire, Release, Fork, Join}
use Rattle.event_core.specs.Log.{depth}
use Rattle.event_core.specs.Refusal.{refusal, lock_depth, held, forks, joins, mentions, op_forks, op_joins}
use Rattle.event_core.specs.Refusal.{event_of, WellFormed}
use Rattle.event_core.proofs.OpenAcquiresProperties.{own_depth}
use Rattle.traced_mem.specs.Meaning.{Thread}
use Rattle.traced_mem.specs.Refusals.{held_at}
use Rattle.traced_mem.specs.After.{updated, without, gains, loses, now_forked, now_joined, mentioned_again}
use Rattle.traced_mem.specs.After.{threads_after}
use Rattle.traced_mem.specs.Standing.{thread_id, held_after, held_in, meaning_of}
use Rattle.traced_mem.proofs.LocksAfter.{may, holder_now}
use Rattle.traced_mem.proofs.UpdatedProperties.{updated_if}
use Rattle.traced_mem.proofs.LongerLogs.{any_snoc, held_snoc}
use Rattle.traced_mem.proofs.Depths.{depth_left}

module _ (k : Limits) (log : List Event) (c : Call) (w : WellFormed k log) (h : refusal k log c ≡ None) where
  abbrev held_by : ℕ → List LockId
  held_by n = held_in log (thread_id n)

  -- thread n after the event: whether the event forks it, whether it joins it, and what it holds
  abbrev row : Bool → Bool → List LockId → ℕ → Thread
  row f j held n = record {
    forked = list_any (forks (thread_id n)) log || f;
    joined = list_any (joins (thread_id n)) log || j;
    mentioned = list_any (mentions (thread_id n)) log || (nat_eq c.thread.0 n || (f || j));
    held = held;
  }

  abbrev row_by : Op → ℕ → Thread
  row_by o n = row (op_forks (thread_id n) o) (op_joins (thread_id n) o)
      (held_after log (thread_id n) (event_of log c) o (held_by n)) n

  row_now : (n : ℕ) → (meaning_of (log ++ event_of log c ∷ [])).thread n ≡ row_by c.op n
  unfolding held_in
  row_now n i = record {
    forked = any_snoc (forks (thread_id n)) log (event_of log c) i;
    joined = any_snoc (joins (thread_id n)) log (event_of log c) i;
    mentioned = any_snoc (mentions (thread_id n)) log (event_of log c) i;
    held = held_snoc [] log (event_of log c) (thread_id n) [] i;
  }

  abbrev F : ℕ → Thread
  F = updated c.thread.0 (mentioned_again ((meaning_of log).thread c.thread.0)) (meaning_of log).thread

  -- a thread that the event's operation has nothing to do with
  plain : (n : ℕ) → row false false (held_by n) n ≡ F n
  plain = updated_if c.thread.0 (mentioned_again ((meaning_of log).thread c.thread.0)) (meaning_of log).thread
      (λ b n. record (row false false (held_by n) n) {
        mentioned = list_any (mentions (thread_id n)) log || (b || false);
      })
      (λ i. record (mentioned_again ((meaning_of log).thread c.thread.0)) {
        forked = or-false (list_any (forks c.thread) log) i;
        joined = or-false (list_any (joins c.thread) log) i;
        mentioned = or-true (list_any (mentions c.thread) log) i;
      })
      (λ n i. record ((meaning_of log).thread n) {
        forked = or-false (list_any (forks (thread_id n)) log) i;
        joined = or-false (list_any (joins (thread_id n)) log) i;
        mentioned = or-false (list_any (mentions (thread_id n)) log) i;
      })

  -- a thread that the event's operation names
  named : (v : ThreadId) → (list_any (mentions v) log || (nat_eq c.thread.0 v.0 || true)) ≡ true
  named v = ap (λ b. list_any (mentions v) log || b) (or-true _) ∙ or-true _

  threads_at : (o : Op) → c.op ≡ o → (n : ℕ) → row_by o n ≡ threads_after c.thread o (meaning_of log).lock F n
  threads_at (Fork v) q = updated_if v.0 (now_forked (F v.0)) F (λ b n. row b false (held_by n) n)
      (λ i. record (plain v.0 i) { forked = or-true (list_any (forks v) log) i; mentioned = named v i }) plain
  threads_at (Join v) q = updated_if v.0 (now_joined (F v.0)) F (λ b n. row false b (held_by n) n)
      (λ i. record (plain v.0 i) { joined = or-true (list_any (joins v) log) i; mentioned = named v i }) plain
  threads_at (Acquire l) q = updated_if c.thread.0 (gains l (lock_depth log l) (F c.thread.0)) F
      (λ b n. row false false
      (if b && nat_eq (depth log (thread_id n) l) 0 then held_by n ++ l ∷ [] else held_by n) n)
      (λ i. gains l (sym deep i) (plain c.thread.0 i)) plain
    where
      deep : lock_depth log l ≡ depth log c.thread l
      deep = own_depth k log c.thread l w
          (subst (λ o. held_at (meaning_of log) c.thread o ≡ None) q (may k log c w h).no_holder)
  threads_at (Release l) q = updated_if c.thread.0 (loses l (lock_depth log l - 1) (F c.thread.0)) F
      (λ b n. row false false
      (if b && nat_eq (depth (log ++ event_of log c ∷ []) (thread_id n) l) 0 then without l (held_by n) else
      held_by n) n)
      (λ i. loses l (depth_left log (event_of log c) l q (holder_now k log c w h l q) i) (plain c.thread.0 i))
      plain
  threads_at _ q = plain

  -- what was done to each thread, and which locks it holds, after an accepted call
  pub threads_law : (meaning_of (log ++ event_of log c ∷ [])).thread
      ≡ threads_after c.thread c.op (meaning_of log).lock F
  threads_law i n = (row_now n ∙ threads_at c.op refl n) i
