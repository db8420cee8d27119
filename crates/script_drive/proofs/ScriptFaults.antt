-- The faults of workers are those of lines of the script.
use Rattle.std.proofs.Common.{◌≡◌, ℕ, ◌+◌, ◌<◌, ◌≤◌, List, ◌∷◌, Some, refl, sym, ap, ◌∙◌, subst, length}
use Rattle.std.proofs.Common.{get_or, take, drop, arith}
use Rattle.std.specs.Prelude.{[], Bool, true, false, Option, None, IfErr, IfSome, IsErrAnd, Result, Ok, Err}
use Rattle.std.specs.List.{All, Contains}
use Rattle.std.proofs.lemmas.Bool.{false≢true}
use Rattle.std.proofs.lemmas.List.Elements.{All-contains, All-more, All-weaker, Contains-get_or}
use mathlib.Core.Logic.{inl, inr}
use Rattle.event_core.specs.declared.ids.ThreadId.{ThreadId}
use Rattle.event_core.specs.declared.ids.LockId.{LockId}
use Rattle.event_core.specs.declared.ids.SiteId.{SiteId}
use Rattle.event_core.specs.declared.ids.VarId.{VarId}
use Rattle.event_core.specs.declared.bounds.Limits.{Limits}
use Rattle.event_core.specs.declared.events.Event.{Event}
use Rattle.event_core.specs.declared.events.Act.{Act}
use Rattle.event_core.specs.declared.events.Act.TheVariants.{One, Swap}
use Rattle.event_core.specs.declared.events.Call.{Call}
use Rattle.event_core.specs.declared.events.Op.{Op}
use Rattle.event_core.specs.declared.events.Op.TheVariants.{Acquire, Join}
use Rattle.event_core.specs.declared.replies.Refusal.{Refusal}
use Rattle.event_core.specs.declared.replies.Refusal.TheVariants.{Held}
use Rattle.event_core.specs.declared.replies.Refusal.TheVariants.{OutOfMemory}
use Rattle.event_core.specs.declared.replies.Reply.{Reply}
use Rattle.event_core.specs.Acts.{swap_refusal, act_refusal}
use Rattle.event_core.specs.Refusal.{first_of, op_is_acquire, reasons, refusal}
use Rattle.event_core.specs.Steps.{log_of}
use Rattle.live_monitor.specs.Calls.{call_by, Declined, DeclinedAct, HasComeTo}
use Rattle.live_monitor.specs.Tries.{AreUsedUp, Tried}
use Rattle.log_pass.specs.declared.views.PassView.{PassView}
use Rattle.script_text.specs.declared.lines.ScriptLine.{ScriptLine}
use Rattle.script_text.specs.Lines.{act_thread, is_of, thread_of}
use Rattle.script_drive.specs.declared.faults.DriveFault.{DriveFault}
use Rattle.script_drive.specs.declared.faults.Halt.{Halt}
use Rattle.script_drive.specs.declared.faults.Halt.TheVariants.{Abandoned, Fault, NotForked}
use Rattle.script_drive.specs.Faults.{act_acquires, act_waits, is_told, op_waits, rank, refused_at, Fits}
use Rattle.script_drive.specs.Faults.{IsAnswer, IsAnswered, IsDue, IsEarlier, IsFaultOf, IsFirst, IsHaltOf}
use Rattle.script_drive.specs.Faults.{HasToWait, IsNext, Refuses}
use Rattle.script_drive.specs.Lines.{lines_by}
use Rattle.script_drive.specs.Runs.{IsRunOf}
use Rattle.script_drive.specs.Workers.{HasDone, SawRun}
use Rattle.script_drive.proofs.HasDoneProperties.{done_later, made_of, own_place, own_thread}
use Rattle.script_drive.proofs.IsToldProperties.{act_told}

-- ---- which is answered

-- one more fault is looked at
pub first_more : (faults : List DriveFault) (i : ℕ) (d first next : DriveFault) → i < length faults
    → Contains faults first → All (λ g. rank first ≤ rank g) (take i faults)
    → IsEarlier first (get_or faults i d) next
    → Contains faults next × All (λ g. rank next ≤ rank g) (take (i + 1) faults)
first_more faults i d first next lt one least earlier = (
  elim (earlier.0) as (λ _. Contains faults next) [
    | inl e ↦ subst (Contains faults) (sym e) one
    | inr e ↦ subst (Contains faults) (sym e) (Contains-get_or faults i d lt)
  ],
  All-more (λ g. rank next ≤ rank g) faults i d lt
      (All-weaker (λ g. rank first ≤ rank g) (λ g. rank next ≤ rank g)
      (λ g le. omega (arith, le, earlier.1)) (take i faults) least)
      earlier.2,
)

-- where thread 0's worker ended so
pub answered_by : (halt : Halt) (faults : List DriveFault) (first : Option DriveFault) (f : DriveFault)
    → (first ≡ None → faults ≡ []) → IfSome first (IsFirst faults) → IsAnswer halt first f
    → IsAnswered (Err halt) faults f
answered_by halt [] None f none is answer = answer
answered_by halt [] (Some g) f none is answer = absurd (omega (arith, is.one.1))
answered_by halt (g ∷ gs) None f none is answer = absurd (cc (none refl))
answered_by halt (g ∷ gs) (Some other) f none is answer = (other, is, answer)

-- ---- the faults of a script

refused_fits : (m : Limits) (ahead : Bool) (script : List ScriptLine) (l : ScriptLine) (why : Refusal)
    → Contains script l → is_told why ≡ true → Refuses m script l why → Fits m ahead script (refused_at l why)
refused_fits m ahead script l (Held by) line told r = absurd (cc told)
refused_fits m ahead script l OutOfMemory line told r = tt
refused_fits m ahead script l _ line told r = (told, (l, line, (refl, refl, r)))

-- a call is refused by what it does and whose it is
same_refusal : (m : Limits) (log : List Event) (c d : Call) → c.thread ≡ d.thread → c.op ≡ d.op
    → refusal m log c ≡ refusal m log d
unfolding refusal
same_refusal m log c d thread op = λ i.
    let call : Call = record { thread = thread i; op = op i; site = c.site; arg = c.arg } in
    first_of (reasons m log call)

-- so is a line's, whose call its worker makes
pub line_refusal : (m : Limits) (l : ScriptLine) {call : Call} {op : Op} {t : ThreadId} (site : SiteId)
    (arg : ℕ) → l.act ≡ One call → call.op ≡ op → t ≡ thread_of l → (log : List Event)
    → act_refusal m log l.act ≡ refusal m log (call_by t op site arg)
line_refusal m l {call} {op} {t} site arg act is thread log = ap (act_refusal m log) act
    ∙ same_refusal m log call (call_by t op site arg) (sym (thread ∙ ap act_thread act)) is

-- and whose swap
pub swap_refusal_of : (m : Limits) (l : ScriptLine) {t u : ThreadId} {x : VarId} {site : SiteId} {arg : ℕ}
    → l.act ≡ Swap t x site arg → u ≡ thread_of l → (log : List Event)
    → act_refusal m log l.act ≡ swap_refusal m log u x
swap_refusal_of m l {x = x} act thread log = ap (act_refusal m log) act
    ∙ ap (λ (u : ThreadId). swap_refusal m log u x) (sym (thread ∙ ap act_thread act))

module _ {m : Limits} {script : List ScriptLine} {l : ScriptLine} {p q : PassView}
    (next : IsNext m script l p) (later : HasComeTo m p q) (run : IsRunOf script (log_of q.seen)) where
  -- a line is due after what its pass has seen by the time that its call is declined
  due : q.mine ≡ p.mine → IsDue m script l (log_of q.seen)
  due mine =
      let done : HasDone (thread_of l) q next.before
      = done_later m (thread_of l) p q next.before later mine next.done in
      record {
        before = next.before;
        later = next.later;
        place = next.place;
        well_formed = later.is_pass.formed.well_formed;
        run = run;
        started = done.started;
        made = made_of m (thread_of l) q next.before later.is_pass done;
      }

  -- of an act that is refused as its line's; an acquire's refusal is reported where another thread's hold is
  -- not the answer
  pub act_fits : (ahead : Bool) {made : Act} {why : Refusal} → DeclinedAct m made p q why
      → ((log : List Event) → act_refusal m log l.act ≡ act_refusal m log made)
      → (act_acquires made ≡ true → is_told why ≡ true) → IsFaultOf m ahead script (refused_at l why)
  act_fits ahead {made} {why} declined same acquire =
      elim (declined.why) as (λ _. IsFaultOf m ahead script (refused_at l why)) [
        | inl refused ↦
            ∣ refused_fits m ahead script l why next.line
            (act_told m (log_of q.seen) made why acquire refused) (record {
              log = log_of q.seen;
              due = due declined.mine;
              refused = same (log_of q.seen) ∙ refused;
            }) ∣₁
        | inr memory ↦
            subst (λ (w : Refusal). IsFaultOf m ahead script (refused_at l w)) (sym (memory.0)) ∣ tt ∣₁
      ]

  -- a worker whose line's act was answered so
  pub act_halts : {T : Type 0} (ahead : Bool) (made : Act) (answer : Result T Refusal)
      (result : Result PassView Halt) → IfErr answer (DeclinedAct m made p q)
      → ((log : List Event) → act_refusal m log l.act ≡ act_refusal m log made)
      → IfErr result (λ halt. IsErrAnd answer (λ why. halt ≡ Fault (refused_at l why)))
      → (act_acquires made ≡ true → IfErr answer (λ why. is_told why ≡ true))
      → IfErr result (IsHaltOf m ahead script)
  act_halts ahead made answer (Ok p) declined same refused acquire = tt
  act_halts ahead made (Ok x) (Err halt) declined same refused acquire = absurd refused
  act_halts ahead made (Err why) (Err halt) declined same refused acquire =
      subst (IsHaltOf m ahead script) (sym refused) (act_fits ahead declined same acquire)

  -- the lock that an acquire was refused is then held
  pub held_back : {call : Call} {lock : LockId} {answer : Result Reply Refusal} → l.act ≡ One call
      → call.op ≡ Acquire lock → IfErr answer (Declined m (call_by p.thread (Acquire lock) call.site 0) p q)
      → (by : ThreadId) × (answer ≡ Err (Held by)) → HasToWait m script l
  held_back {call} {lock} act is declined held =
      let acquire : Call = call_by p.thread (Acquire lock) call.site 0 in
      let refused : Declined m acquire p q (Held (held.0))
      = subst (λ a. IfErr a (Declined m acquire p q)) held.1 declined in
      record {
        log = log_of q.seen;
        due = due refused.mine;
        waits = ap act_waits act ∙ ap op_waits is;
        held = λ _. (
          held.0,
          line_refusal m l call.site 0 act is next.done.thread (log_of q.seen)
              ∙ (elim (refused.why) as (λ _. refusal m (log_of q.seen) acquire ≡ Some (Held (held.0))) [
                | inl why ↦ why
                | inr memory ↦ absurd (cc (memory.0))
              ]),
        );
      }

-- an operation that is no acquire
pub acquires_none : (op : Op) → ((l : LockId) → op ≡ Acquire l → ⊥) → op_is_acquire op ≡ false
acquires_none (Acquire l) acquire = absurd (acquire l refl)
acquires_none _ acquire = refl

-- a line that joins has to wait after what its pass has seen
pub join_waits : {m : Limits} {script : List ScriptLine} {l : ScriptLine} {p : PassView} {call : Call}
    {u : ThreadId} → IsNext m script l p → l.act ≡ One call → call.op ≡ Join u → HasToWait m script l
join_waits {m} {l = l} {p = p} next act is = record {
  log = log_of p.seen;
  due = record {
    before = next.before;
    later = next.later;
    place = next.place;
    well_formed = next.saw.is_pass.formed.well_formed;
    run = next.saw.run;
    started = next.done.started;
    made = made_of m (thread_of l) p next.before next.saw.is_pass next.done;
  };
  waits = ap act_waits act ∙ ap op_waits is;
  held = λ acquires. absurd (false≢true (sym (ap act_acquires act ∙ ap op_is_acquire is) ∙ acquires));
}

-- an acquire that another thread's hold refused has used its tries up
pub held_used_up : (tries : Tried) (answer : Result Reply Refusal)
    → ((by : ThreadId) → IfErr answer (λ why. why ≡ Held by → AreUsedUp tries))
    → (by : ThreadId) × (answer ≡ Err (Held by)) → AreUsedUp tries
held_used_up tries answer used_up held =
    (subst (λ a. IfErr a (λ why. why ≡ Held (held.0) → AreUsedUp tries)) held.1 (used_up held.0)) refl

-- the first of faults of the script is one
pub first_fits : (m : Limits) (ahead : Bool) (script : List ScriptLine) (faults : List DriveFault)
    (first : Option DriveFault) → IfSome first (IsFirst faults) → All (IsFaultOf m ahead script) faults
    → IfSome first (IsFaultOf m ahead script)
first_fits m ahead script faults None is all = tt
first_fits m ahead script faults (Some f) is all =
    All-contains (IsFaultOf m ahead script) faults f all is.one

-- a worker's halt is answered by a fault of the script
pub answer_fits : (m : Limits) (ahead : Bool) (script : List ScriptLine) (halt : Halt)
    (others : Option DriveFault) (f : DriveFault) → IsHaltOf m ahead script halt
    → IfSome others (IsFaultOf m ahead script) → IsAnswer halt others f → IsFaultOf m ahead script f
answer_fits m ahead script (Fault own) None f is fits answer =
    subst (IsFaultOf m ahead script) (sym answer) is
answer_fits m ahead script (Fault own) (Some other) f is fits answer =
    elim (answer.0) as (λ _. IsFaultOf m ahead script f) [
      | inl e ↦ subst (IsFaultOf m ahead script) (sym e) is
      | inr e ↦ subst (IsFaultOf m ahead script) (sym e) fits
    ]
answer_fits m ahead script (Abandoned l) (Some other) f is fits answer =
    subst (IsFaultOf m ahead script) (sym answer) fits
answer_fits m ahead script (Abandoned l) None f is fits answer =
    subst (IsFaultOf m ahead script) (sym answer)
    ∣ (l, is.0, (refl, refl, λ _. is.1)) ∣₁
answer_fits m ahead script (NotForked n) (Some other) f is fits answer =
    subst (IsFaultOf m ahead script) (sym answer) fits
answer_fits m ahead script (NotForked n) None f is fits answer =
    subst (IsFaultOf m ahead script) (sym answer) ∣ is ∣₁

-- ---- the lines of a thread

-- each line that is met is one of the script
pub line_at : (script lines : List ScriptLine) (i : ℕ) (line : ScriptLine) → line ≡ get_or lines i line
    → lines ≡ script → i < length lines → Contains script line
line_at script lines i line is same lt =
    subst (λ (s : List ScriptLine). Contains s line) same
    (subst (Contains lines) (sym is) (Contains-get_or lines i line lt))

-- a line of the pass's thread is its next
pub next_at : {m : Limits} (script lines : List ScriptLine) (t : ThreadId) (p : PassView) (i : ℕ)
    (line : ScriptLine)
    → line ≡ get_or lines i line → lines ≡ script → i < length lines → is_of t.0 line ≡ true
    → HasDone t p (lines_by t (take i lines)) → SawRun m script p → IsNext m script line p
next_at script lines t p i line is same lt own h saw = record {
  line = line_at script lines i line is same lt;
  before = lines_by t (take i lines);
  later = lines_by t (drop (i + 1) lines);
  place = ap (lines_by (thread_of line)) (sym same) ∙ own_place t lines i line is lt own;
  done = subst (λ (u : ThreadId). HasDone u p (lines_by t (take i lines)))
      (sym (own_thread t lines i line is lt own)) h;
  saw = saw;
}
