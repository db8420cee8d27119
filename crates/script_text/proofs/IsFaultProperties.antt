-- Why there is no script.
use Rattle.std.proofs.Common.{◌≡◌, ℕ, ◌+◌, ◌≤◌, List, [], ◌∷◌, length, Option, Some, None, Ok, ap}
use Rattle.std.proofs.Common.{append-nil, ◌∙◌, sym, subst, inl, inr, refl, arith}
use Rattle.std.specs.Prelude.{IfSome, Result, Err}
use Rattle.std.proofs.lemmas.Option.{IfSome_then}
use Rattle.event_core.specs.Bounds.{Bounds}
use Rattle.rapid_line.specs.Cut.{content}
use Rattle.rapid_line.specs.Lines.{lines_of}
use Rattle.rapid_text.specs.Feeding.{FoldsEnded, OfText}
use Rattle.rapid_text.specs.Folds.{FoldsAll, FaultIn}
use Rattle.rapid_text.specs.Taking.{Truncates}
use Rattle.script_text.specs.declared.causes.ScriptCause.{ScriptCause}
use Rattle.script_text.specs.declared.causes.ScriptCause.TheVariants as causes
use Rattle.script_text.specs.declared.causes.ScriptFault.{ScriptFault}
use Rattle.script_text.specs.Forms.{Fails}
use Rattle.script_text.specs.Scripts.{Parsed, IsDraft, begun, judge, script_of, after_content}
use Rattle.script_text.specs.Readings.{Reads, Stops, HasFault, HasNoneBefore, Incomplete, IsFault}
use Rattle.script_text.proofs.ReadsProperties.{judge_from, reads_judged, stop_found}
use Rattle.script_text.proofs.AreLegalProperties.{draft_judged, draft_begun}

-- what is so of some text is so of the text that was left, where that is known
known : (P : List ℕ → Type 0) (left : Option (List ℕ)) → OfText left P → IfSome left P
known P None h = tt
known P (Some text) h = subst P h.is_left h.holds

-- a text whose lines were all read
read_all : (limits : Bounds) (text : List ℕ) (s : Parsed) → FoldsAll Reads (begun limits) text s
    → script_of limits text ≡ Ok s
read_all limits text s h =
    ap (λ (ls : List (List ℕ)). judge (begun limits) 1 ls) (sym (append-nil (lines_of text)))
    ∙ reads_judged 1 (1 + length (lines_of text)) (begun limits) s (lines_of text) [] h refl

pub read_script : (limits : Bounds) (left : Option (List ℕ)) (s : Parsed)
    → OfText left (λ text. FoldsAll Reads (begun limits) text s)
    → IfSome left (λ text. script_of limits text ≡ Ok s)
read_script limits left s h = known (λ text. script_of limits text ≡ Ok s) left
    (record { text = h.text; is_left = h.is_left; holds = read_all limits h.text s h.holds })

pub read_draft : (limits : Bounds) (left : Option (List ℕ)) (s : Parsed)
    → OfText left (λ text. FoldsAll Reads (begun limits) text s) → IsDraft s
read_draft limits left s h =
    draft_judged (begun limits) 1 (lines_of h.text) s (draft_begun limits) (read_all limits h.text s h.holds)

module _ (limits : Bounds) (left rest : Option (List ℕ)) (Why : List ℕ → Type 0) where
  fault_as : (k : ScriptCause) (r : Result Parsed ScriptCause) (f : ScriptFault) → Fails k r
      → (r ≡ Err k → HasFault limits left f) → HasNoneBefore limits left f.line
      → IsFault limits left rest Why f k
  fault_as causes.OutOfMemory r f h finds first = first
  fault_as causes.NoFork r f h finds first = absurd h
  fault_as causes.Read r f h finds first = absurd h
  fault_as k r f h finds first = finds h

  -- memory ran out before the first line
  pub memory_fault : (f : ScriptFault) → f ≡ record { line = 1; cause = causes.OutOfMemory }
      → IsFault limits left rest Why f f.cause
  memory_fault f e =
      let first : ScriptFault = record { line = 1; cause = causes.OutOfMemory } in
      let here : IsFault limits left rest Why first first.cause =
      always left (λ text g d. judge_from (begun limits) 1 (lines_of text) g d) in
      subst (λ (g : ScriptFault). IsFault limits left rest Why g g.cause) (sym e) here
    where
      always : {P : List ℕ → Type 0} (o : Option (List ℕ)) → ((text : List ℕ) → P text) → IfSome o P
      always None h = tt
      always (Some x) h = h x

  -- all lines were judged, but there is no script
  pub incomplete_fault : (s : Parsed) (f : ScriptFault) → IfSome left (λ text. script_of limits text ≡ Ok s)
      → Incomplete s.lines f → IsFault limits left rest Why f f.cause
  incomplete_fault s f all (inl h) = memory_fault f h
  incomplete_fault s f all (inr h) =
      let here : IsFault limits left rest Why f causes.NoFork =
      IfSome_then left all (λ text e. record { parsed = s; reads = e; first = h.1 }) in
      subst (λ (k : ScriptCause). IsFault limits left rest Why f k) (sym h.0) here

  -- ---- a text that was read

  pub stopped_fault : (f : ScriptFault) → OfText left (λ text. FaultIn Reads Stops (begun limits) text f)
      → IsFault limits left rest Why f f.cause
  stopped_fault f h =
      let k = h.holds in
      let place : ℕ = 1 + length k.front in
      let rest_judged : script_of limits h.text ≡ judge k.before place (k.line ∷ k.others) =
      ap (λ (ls : List (List ℕ)). judge (begun limits) 1 ls) k.is
      ∙ reads_judged 1 place (begun limits) k.before k.front (k.line ∷ k.others) k.folds refl in
      let stop = k.stops in
      fault_as f.cause (after_content k.before place (content k.line)) f stop.why
      (λ is. known (λ text. script_of limits text ≡ Err f) left (record {
        text = h.text;
        is_left = h.is_left;
        holds = rest_judged ∙ stop_found k.before place k.line k.others f stop.at is;
      }))
      (known (λ text. (g : ScriptFault) → script_of limits text ≡ Err g → f.line ≤ g.line) left (record {
        text = h.text;
        is_left = h.is_left;
        holds = λ g e.
            let from = judge_from k.before place (k.line ∷ k.others) g (sym rest_judged ∙ e) in
            omega (arith, from, stop.at);
      }))

  pub read_fault : (n : ℕ) (s : Parsed)
      → Truncates left rest Why n (λ came. FoldsEnded Reads (begun limits) came n s)
      → IsFault limits left rest Why (record { line = n; cause = causes.Read }) causes.Read
  read_fault n s t = record {
    came = t.came;
    bytes = t.bytes;
    why = t.why;
    at = t.at;
    short = t.short;
    so = λ more g e.
        let later = t.so.law more in
        judge_from s n later.0 g
        (sym (ap (λ (ls : List (List ℕ)). judge (begun limits) 1 ls) later.1
        ∙ reads_judged 1 n (begun limits) s t.so.ended later.0 t.so.folds t.so.next) ∙ e);
  }
