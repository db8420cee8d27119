-- The parts of a monitor stand for its log: what that gives at a legal call, and that it lasts.
use Rattle.std.proofs.Common.{◌≡◌, ℕ, ◌+◌, ◌<◌, ◌≤◌, List, [], ◌∷◌, ◌++◌, None, true, length, refl, sym, ap}
use Rattle.std.proofs.Common.{subst, ◌∙◌, nat_eq, nat_lt, arith}
use Rattle.std.proofs.lemmas.Bool.{ltb-true, leb-false, not-false}
use Rattle.std.proofs.lemmas.List.Sums.{count_by-le-length}
use Rattle.std.proofs.lemmas.Option.{slice_get_within}
use Rattle.event_core.specs.declared.ids.ThreadId.{ThreadId}
use Rattle.event_core.specs.declared.ids.LockId.{LockId}
use Rattle.event_core.specs.declared.ids.VarId.{VarId}
use Rattle.event_core.specs.declared.events.Event.{Event}
use Rattle.event_core.specs.declared.events.Call.{Call}
use Rattle.event_core.specs.declared.events.Op.{Op}
use Rattle.event_core.specs.declared.events.Op.TheVariants.{Load, Store, Acquire, Release, Fork, Join}
use Rattle.event_core.specs.declared.bounds.Limits.{Limits}
use Rattle.event_core.specs.declared.bounds.TheConstants.{MOST_EVENTS}
use Rattle.event_core.specs.declared.replies.Refusal.TheVariants.{ThreadRange, TargetRange}
use Rattle.event_core.specs.declared.replies.Verdict.{Verdict}
use Rattle.event_core.specs.Bounds.{AreBounded}
use Rattle.event_core.specs.Count.{events_of}
use Rattle.event_core.specs.Refusal.{refusal, event_of, value_of, open_acquires, in_range, WellFormed}
use Rattle.event_core.specs.Verdict.{IsVerdict, IsOutcome}
use Rattle.event_core.proofs.CountedProperties.{grown_length, last_does}
use Rattle.event_core.proofs.WellFormedProperties.{well_formed_grown}
use Rattle.event_core.proofs.OrderlyProperties.{AllNone, all_none, when_none}
use Rattle.event_core.proofs.LogProperties.{of_does}
use Rattle.event_core.proofs.RunProperties.{allowed_legal}
use Rattle.hb_clocks.specs.Marks.{IsLatest}
use Rattle.traced_mem.specs.Meaning.{Meaning}
use Rattle.traced_mem.specs.Refusals.{refusal_at, reasons_at}
use Rattle.traced_mem.specs.After.{after, holds_after}
use Rattle.traced_mem.specs.Standing.{StandsFor}
use Rattle.traced_mem.specs.Tables.{meaning, Allows, MemoryTables}
use Rattle.access_check.specs.Tables.{count_at, IsReady}
use Rattle.access_check.specs.Standing.{StandsFor as AccessesStand}
use Rattle.hb_clocks.specs.Standing.{IsHeldRelease}
use Rattle.event_core.specs.Log.{depth}
use Rattle.event_core.specs.declared.replies.Outcome.TheVariants.{Accepted}
use Rattle.traced_mem.proofs.RefusalsProperties.{same_refusal}
use Rattle.wcp_clocks.proofs.FitsProperties.{log_within}
use Rattle.wcp_clocks.specs.Parts.{Parts as Clocks, hb_of, width_of, limits_of, Fits, NamesWithin, SameLimits}
use Rattle.wcp_clocks.specs.Parts.{IsWithin}
use Rattle.wcp_clocks.specs.Standing.{FitsWhereLegal, StandsFor as ClocksStandFor}
use Rattle.wcp_clocks.specs.WorkWithin.{IsWorkOf, WorkStep, LittleWork}
use Rattle.seq_monitor.specs.declared.parts.Parts.{Parts}
use Rattle.seq_monitor.specs.Grown.{IsKeptRelease}
use Rattle.seq_monitor.specs.Monitored.{slots_for, IsClocksReplay, IsReplay}
use Rattle.seq_monitor.proofs.JoinsProperties.{joins_step}
use Rattle.seq_monitor.proofs.Releases.{release_open, release_held, release_counted}
use Rattle.seq_monitor.proofs.AreVerdictsProperties.{one_verdict_more, no_verdicts}

-- the log of a replay is well formed
pub well : {m : Limits} {p : Parts} → IsReplay m p → WellFormed m p.log.events
well {p = p} r = subst (λ (k : Limits). WellFormed k p.log.events) r.memory_limits r.memory.well_formed

-- a store is refused as a load is
pub store_too : (m : Limits) (mem : Meaning) (t : ThreadId) (x : VarId) → refusal_at m mem t (Load x) ≡ None
    → refusal_at m mem t (Store x) ≡ None
unfolding refusal_at
store_too m mem t x none = none

-- a call that is not refused names numbers within the limits
pub clocks_within : {m : Limits} {p : Parts} (t : ThreadId) (o : Op) → IsReplay m p → Allows p.memory t o
    → IsWithin p.clocks t o
unfolding refusal_at AllNone
clocks_within {m} {p} t o r allowed = (subst (λ (n : ℕ). t.0 < n) (sym r.clocks.width) thread, go o target)
  where
    all : AllNone (reasons_at p.memory.limits (meaning p.memory) t o)
    all = all_none (reasons_at p.memory.limits (meaning p.memory) t o) allowed

    thread : t.0 < m.threads
    thread = subst (λ (k : Limits). t.0 < k.threads) r.memory_limits
        (leb-false p.memory.limits.threads t.0 (when_none _ ThreadRange all.0))

    target : in_range m o ≡ true
    target = subst (λ (k : Limits). in_range k o ≡ true) r.memory_limits
        (not-false _ (when_none _ TargetRange all.1.1.1.0))

    lock : (l : LockId) → nat_lt l.0 m.locks ≡ true → l.0 < (limits_of p.clocks).locks
    lock l is =
        subst (λ (k : Limits). l.0 < k.locks) (sym r.clocks.limits_of) (ltb-true l.0 m.locks is)

    other : (u : ThreadId) → nat_lt u.0 m.threads ≡ true → u.0 < width_of p.clocks
    other u is = subst (λ (n : ℕ). u.0 < n) (sym r.clocks.width) (ltb-true u.0 m.threads is)

    go : (o : Op) → in_range m o ≡ true → NamesWithin p.clocks o
    go (Acquire l) is = lock l is
    go (Release l) is = lock l is
    go (Fork u) is = other u is
    go (Join u) is = other u is
    go _ is = tt

-- a slot is taken, and the others are kept
pub record SlotTaken (open' : ℕ) (o : Op) : Type 0 where
  pub some : 0 < slots_for open' o
  pub kept : holds_after o open' + 1 ≤ slots_for open' o

-- an accepted call takes one of the slots, and leaves one for each release to come
pub slot_taken : (m : Limits) (log : List Event) (c : Call) → WellFormed m log → refusal m log c ≡ None
    → SlotTaken (open_acquires log) c.op
slot_taken m log c well allowed = go c.op refl
  where
    go : (o : Op) → c.op ≡ o → SlotTaken (open_acquires log) o
    go (Release l) q =
        let open' : 0 < open_acquires log = release_open m log c l well allowed q in
        record { some = omega arith; kept = omega arith }
    go _ q = record { some = omega arith; kept = omega arith }

-- a call that the memory allows has no refusal
pub not_refused : {m : Limits} {p : Parts} (c : Call) → IsReplay m p → Allows p.memory c.thread c.op
    → refusal m p.log.events c ≡ None
not_refused {m} {p} c r allowed =
    sym (same_refusal m p.log.events c (well r))
    ∙ (ap (λ (x : Meaning). refusal_at m x c.thread c.op) (sym r.memory.means)
    ∙ subst (λ (k : Limits). refusal_at k (meaning p.memory) c.thread c.op ≡ None) r.memory_limits allowed)

-- the event is that of a call which is not refused, and comes next
pub record IsNext (m : Limits) (p : Parts) (c : Call) (e : Event) : Type 0 where
  pub legal : refusal m p.log.events c ≡ None
  pub is : e ≡ event_of p.log.events c
  pub longer : WellFormed m (p.log.events ++ e ∷ [])

-- the event of a call that is allowed is the next event of the log
pub is_next : {m : Limits} {p : Parts} {e : Event} {v : ℕ} (c : Call) → IsReplay m p
    → Allows p.memory c.thread c.op
    → e ≡ record { thread = c.thread; op = c.op; site = c.site; value = v }
    → v ≡ value_of p.log.events c.op c.arg → IsNext m p c e
is_next {m} {p} {e} {v} c r allowed with value =
    let log = p.log.events in
    let legal = not_refused c r allowed in
    let is : e ≡ event_of log c = with
    ∙ ap (λ (n : ℕ). let x : Event = record { thread = c.thread; op = c.op; site = c.site; value = n } in x)
    value in
    record {
      legal = legal;
      is = is;
      longer = subst (λ (x : Event). WellFormed m (log ++ x ∷ [])) (sym is)
          (well_formed_grown m log (event_of log c) (well r) (allowed_legal m log c legal));
    }

-- the last event is its thread's latest
pub last_is_latest : (log : List Event) (e : Event) → IsLatest (log ++ e ∷ []) e.thread (length log)
last_is_latest log e = record {
  of = of_does (last_does log e);
  last = λ k lt o.
      let inside : k < length (log ++ e ∷ []) = slice_get_within (log ++ e ∷ []) k o.event o.at in
      let grown : length (log ++ e ∷ []) ≡ length log + 1 = grown_length log e in
      omega arith;
}

-- before an event that is accepted the log has fewer events than it may have
pub index_fits : {m : Limits} {p : Parts} {c : Call} {e : Event} → IsReplay m p → IsNext m p c e
    → length p.log.events < MOST_EVENTS
index_fits {m} {p} {e = e} r next =
    omega (
      arith,
      grown_length p.log.events e,
      log_within m (p.log.events ++ e ∷ []) next.longer,
      r.bounds.most_events,
    )

-- before an event that is accepted each thread has fewer events than a log may have
pub position_fits : {m : Limits} {p : Parts} {c : Call} {e : Event} (t : ThreadId) → IsReplay m p
    → IsNext m p c e → count_at p.accesses.counts t.0 < MOST_EVENTS
unfolding events_of
position_fits {p = p} t r next =
    omega (
      arith,
      r.accesses.counts t,
      index_fits r next,
      count_by-le-length (λ (e : Event). nat_eq e.thread.0 t.0) p.log.events,
    )

-- a call changes the number of open acquires as its operation does
pub opened_after : (log : List Event) (c : Call) (old new : MemoryTables) → StandsFor log old
    → StandsFor (log ++ event_of log c ∷ []) new → meaning new ≡ after c.thread c.op c.arg (meaning old)
    → open_acquires (log ++ event_of log c ∷ []) ≡ holds_after c.op (open_acquires log)
opened_after log c old new before longer means =
    sym (ap (λ (x : Meaning). x.holds) longer.means)
    ∙ (ap (λ (x : Meaning). x.holds) means ∙ ap (λ (x : Meaning). holds_after c.op x.holds) before.means)

-- each part has taken the event of the call, which has the verdict
pub record HasTaken (m : Limits) (old new : Parts) (c : Call) (e : Event) (v : Verdict) : Type 0 where
  pub memory : meaning new.memory ≡ after c.thread c.op c.arg (meaning old.memory)
  pub memory_limits : new.memory.limits ≡ old.memory.limits
  pub memory_stands : StandsFor (old.log.events ++ event_of old.log.events c ∷ []) new.memory
  pub clocks : IsClocksReplay m (old.log.events ++ e ∷ []) new.clocks
  pub accesses : AccessesStand (old.log.events ++ e ∷ []) new.accesses
  pub access_limits : new.accesses.limits ≡ old.accesses.limits
  pub verdict : IsVerdict (old.log.events ++ e ∷ []) (length old.log.events) v
  pub events : new.log.events ≡ old.log.events ++ e ∷ []
  pub verdicts : new.verdicts.verdicts ≡ old.verdicts.verdicts ++ v ∷ []
  pub event_slots : slots_for (open_acquires old.log.events) c.op ≤ new.log.room + 1
  pub verdict_slots : slots_for (open_acquires old.log.events) c.op ≤ new.verdicts.room + 1

-- parts that have taken the next event are a replay of the log with it
pub replay_more : {m : Limits} {old new : Parts} {c : Call} {e : Event} {v : Verdict} → IsReplay m old
    → IsNext m old c e → HasTaken m old new c e v → IsReplay m new
replay_more {m} {old} {new} {c} {e} {v} r next taken =
    let log = old.log.events in
    let slot : SlotTaken (open_acquires log) c.op = slot_taken m log c (well r) next.legal in
    let opened : open_acquires new.log.events ≡ holds_after c.op (open_acquires log)
    = ap open_acquires (taken.events ∙ ap (λ (x : Event). log ++ x ∷ []) next.is)
    ∙ opened_after log c old.memory new.memory r.memory taken.memory_stands taken.memory in
    record {
      bounds = r.bounds;
      memory = rw (taken.events, next.is) taken.memory_stands;
      memory_limits = taken.memory_limits ∙ r.memory_limits;
      clocks = rw taken.events taken.clocks;
      accesses = rw taken.events taken.accesses;
      access_limits = taken.access_limits ∙ r.access_limits;
      judged = rw (taken.events, taken.verdicts)
          (one_verdict_more log e old.verdicts.verdicts v r.judged taken.verdict);
      event_slots = omega (arith, opened, slot.kept, taken.event_slots);
      verdict_slots = omega (arith, opened, slot.kept, taken.verdict_slots);
    }

-- the next event fits the clocks
pub clocks_ready : FitsWhereLegal → LittleWork → {m : Limits} {p : Parts} {c : Call} {e : Event}
    → IsReplay m p → IsNext m p c e → Fits e p.clocks
clocks_ready fits little {m} {p} {e = e} r next =
    let log = p.log.events in
    let stands = r.clocks.stands in
    fits m log e p.clocks r.bounds next.longer stands
    (little m log e p.clocks r.bounds next.longer stands r.clocks.work)

-- parts without an event are a replay of the empty log
pub replay_empty : (m : Limits) (p : Parts) → AreBounded m.threads m.locks m.vars m.events
    → StandsFor [] p.memory → p.memory.limits ≡ m → IsClocksReplay m [] p.clocks
    → AccessesStand [] p.accesses → p.accesses.limits ≡ m → p.log.events ≡ [] → p.verdicts.verdicts ≡ []
    → IsReplay m p
unfolding open_acquires
replay_empty m p bounds memory memory_limits clocks accesses access_limits none no_vs =
    let slots : open_acquires p.log.events ≡ 0 = ap open_acquires none in
    record {
      bounds = bounds;
      memory = rw none memory;
      memory_limits = memory_limits;
      clocks = rw none clocks;
      accesses = rw none accesses;
      access_limits = access_limits;
      judged = rw (none, no_vs) no_verdicts;
      event_slots = omega (arith, slots);
      verdict_slots = omega (arith, slots);
    }

-- clocks that have taken the next event are a replay of the log with it
pub clocks_more : WorkStep → {m : Limits} {old : Parts} {c : Call} {e : Event} (new : Clocks) → IsReplay m old
    → IsNext m old c e
    → ((k : Limits) (xs : List Event) → WellFormed k (xs ++ e ∷ []) → ClocksStandFor xs old.clocks
    → ClocksStandFor (xs ++ e ∷ []) new)
    → IsWorkOf e old.clocks new → SameLimits old.clocks new
    → IsClocksReplay m (old.log.events ++ e ∷ []) new
clocks_more work_step {m} {old} {e = e} new r next stands work limits =
    let log = old.log.events in
    let was = r.clocks in
    record {
      stands = stands m log next.longer was.stands;
      width = limits.width ∙ was.width;
      limits_of = limits.limits ∙ was.limits_of;
      work = work_step m log e old.clocks new next.longer was.stands was.work work;
      joins = joins_step m log e old.clocks new (well r) was.stands work was.joins;
    }

-- the index, the value and the verdict of an event are the outcome of its call
pub is_outcome : {m : Limits} {p : Parts} {c : Call} {e : Event} (v : Verdict) (index value : ℕ)
    → IsNext m p c e → index ≡ length p.log.events → value ≡ value_of p.log.events c.op c.arg
    → IsVerdict (p.log.events ++ e ∷ []) (length p.log.events) v
    → IsOutcome m p.log.events c (Accepted (record { index = index; value = value; verdict = v }))
is_outcome {p = p} v index value next at has verdict = (
  next.legal,
  at,
  has,
  subst (λ (x : Event). IsVerdict (p.log.events ++ x ∷ []) (length p.log.events) v) next.is verdict,
)

-- a release that is not refused is made by a thread that holds the lock, and slots are kept for it
pub release_kept : {m : Limits} {p : Parts} (c : Call) (l : LockId) (slots : ℕ) → IsReplay m p
    → Allows p.memory c.thread c.op → c.op ≡ Release l → slots ≡ slots_for (open_acquires p.log.events) c.op
    → IsKeptRelease p c.thread c.op slots
release_kept {m} {p} c l slots r allowed is at =
    let log = p.log.events in
    let legal = not_refused c r allowed in
    let held : 0 < depth log c.thread l = release_held m log c l legal is in
    let same : (hb_of p.clocks).depth c.thread.0 l.0 ≡ depth log c.thread l
    = r.clocks.stands.hb.depths c.thread l in
    let here : 0 < (hb_of p.clocks).depth c.thread.0 l.0 = omega (arith, held, same) in
    let thread : c.thread.0 < length p.accesses.counts
    = release_counted m log c l p.accesses legal is r.accesses in
    let room : IsReady p.accesses c.thread (Release l) = record { thread = thread; access = tt } in
    let kept : slots ≡ open_acquires log = at ∙ ap (slots_for (open_acquires log)) is in
    record {
      lock = l;
      is = is;
      allowed = allowed;
      held = subst (IsHeldRelease (hb_of p.clocks) c.thread) (sym is) here;
      accesses = subst (IsReady p.accesses c.thread) (sym is) room;
      events = omega (arith, kept, r.event_slots);
      verdicts = omega (arith, kept, r.verdict_slots);
    }
