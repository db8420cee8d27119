-- What is reported of a script that was not read, or of a call that its run stops at, is of the text.
use Rattle.std.proofs.Common.{◌≡◌, ℕ, List, Option, Bool, true, subst, sym, refl, inl, inr, ◌⊎◌, arith}
use Rattle.std.specs.Prelude.{codes}
use Rattle.std.specs.Io.KnownBytes.{Appends}
use Rattle.std.proofs.Math.Logic.{∥∥₁_elim, ∥∥₁_map, ∥∥₁_prop}
use Rattle.event_core.specs.declared.bounds.Limits.{Limits}
use Rattle.rapid_text.specs.Faults.{fault_line}
use Rattle.script_drive.specs.Faults.{IsFaultOf}
use Rattle.script_drive.specs.declared.faults.DriveFault.{DriveFault}
use Rattle.script_drive.specs.declared.faults.DriveFault.TheVariants as drive
use Rattle.script_text.specs.declared.causes.ScriptCause.{ScriptCause}
use Rattle.script_text.specs.declared.causes.ScriptCause.TheVariants.{Read}
use Rattle.script_text.specs.declared.causes.ScriptCause.TheVariants as causes
use Rattle.script_text.specs.declared.causes.ScriptFault.{ScriptFault}
use Rattle.script_text.specs.declared.lines.ScriptLine.{ScriptLine}
use Rattle.script_text.specs.Readings.{IsFault, ReadFails}
use Rattle.trace_report.specs.Words.{refusal_word}
use Rattle.wcp_tool.specs.Running.{TruncatesScript, PerformsRun}
use Rattle.wcp_tool.specs.ScriptRuns.{IsOfText, TellsFault, TellsRefusal, TellsRefused, TellsStop}
use Rattle.wcp_tool.specs.ScriptRuns.{TellsStopped}

-- a script with a read fault was not read to its end
pub truncates_script : (m n : Limits) (left rest : Option (List ℕ)) (Why : List ℕ → Type 0) (f : ScriptFault)
    → m ≡ n → f.cause ≡ Read → IsFault m left rest Why f f.cause → TruncatesScript n left rest Why
truncates_script m n left rest Why f same read is = record {
  line = f.line;
  fails = subst (λ (l : Limits). ReadFails l left rest Why f.line) same
      (subst (λ (c : ScriptCause). IsFault m left rest Why f c) read is);
}

-- the refusal that is reported is one of the script
pub refusal_told : (m : Limits) (ahead : Bool) (lines : List ScriptLine) (f : DriveFault)
    (old new : Option (List ℕ)) → IsFaultOf m ahead lines f → TellsRefused f old new
    → TellsRefusal m lines old new
refusal_told m ahead lines (drive.Refused t n why) old new fits told =
    ∥∥₁_map fits (λ p. record {
      line = p.1.0;
      one = p.1.1;
      refusal = why;
      told = p.0;
      refused = p.1.2.2;
      written = subst (λ (k : ℕ). Appends old new (fault_line k (refusal_word why))) (sym p.1.2.1) told;
    })
refusal_told m ahead lines _ old new fits told = absurd told

-- a fault that is no read fault and no want of memory is one of the text
of_text : (m : Limits) (left rest : Option (List ℕ)) (Why : List ℕ → Type 0) (f : ScriptFault)
    (cause : ScriptCause) → ((cause ≡ causes.Read) ⊎ (cause ≡ causes.OutOfMemory) → ⊥)
    → IsFault m left rest Why f cause → IsOfText m left f cause
of_text m left rest Why f causes.Read other is = other (inl refl)
of_text m left rest Why f causes.OutOfMemory other is = other (inr refl)
of_text m left rest Why f _ other is = is

-- the run of a text whose fault is reported
pub fault_told : (m : Limits) (left rest : Option (List ℕ)) (Why : List ℕ → Type 0) (f : ScriptFault)
    (old new : Option (List ℕ)) (status : ℕ) → TellsFault f old new status
    → ((f.cause ≡ causes.Read) ⊎ (f.cause ≡ causes.OutOfMemory) → (status ≡ 4) ⊎ (status ≡ 5))
    → IsFault m left rest Why f f.cause → PerformsRun m left old new status
fault_told m left rest Why f old new status (inl told) hindered is =
    let other : (f.cause ≡ causes.Read) ⊎ (f.cause ≡ causes.OutOfMemory) → ⊥
    = λ h. omega (arith, told.0, hindered h) in
    record {
      ran = λ h. absurd (omega (arith, told.0, h));
      refused = λ h. absurd (omega (arith, told.0, h));
      broken = λ h. inl (record {
        fault = f;
        is_of = of_text m left rest Why f f.cause other is;
        written = told.1;
      });
    }
fault_told m left rest Why f old new status (inr gave_up) hindered is = record {
  ran = λ h. absurd (omega (arith, gave_up, h));
  refused = λ h. absurd (omega (arith, gave_up, h));
  broken = λ h. absurd (omega (arith, gave_up, h));
}

-- the stop that is reported is one of the script, each of whose lines goes ahead at its first try
pub stop_told : (m : Limits) (ahead : Bool) (lines : List ScriptLine) (f : DriveFault)
    (old new : Option (List ℕ)) → ahead ≡ true → IsFaultOf m ahead lines f → TellsStopped f old new
    → TellsStop m lines old new
stop_told m ahead lines drive.OutOfMemory old new goes fits told = absurd told
stop_told m ahead lines (drive.Refused t n why) old new goes fits told = absurd told
stop_told m ahead lines (drive.Stuck t n) old new goes fits told =
    ∥∥₁_map fits (λ p. record {
      line = p.0;
      one = p.1;
      written = inl (
        p.2.2 goes,
        subst (λ (k : ℕ). Appends old new (fault_line k (codes "Stuck"))) (sym p.2.1) told,
      );
    })
stop_told m ahead lines (drive.NoWorker n) old new goes fits told =
    ∥∥₁_elim fits ∥∥₁_prop (λ forks. ∥∥₁_map forks (λ p. record {
      line = p.0;
      one = p.1;
      written = inr (
        p.2.1,
        subst (λ (k : ℕ). Appends old new (fault_line k (codes "NoWorker"))) (sym p.2.0) told,
      );
    }))
