-- The steps of a push: the lines that end in a piece, judged one after another.
use Rattle.std.proofs.Common.{
  ◌≡◌,
  ℕ,
  ◌+◌,
  ◌-◌,
  ◌<◌,
  ◌≤◌,
  List,
  [],
  ◌∷◌,
  ◌++◌,
  length,
  take,
  drop,
  Option,
  Some,
  None,
  Result,
  Ok,
  Err,
  refl,
  sym,
  ap,
  subst,
  ◌∙◌,
  append_assoc,
  arith,
}
use Rattle.std.specs.Prelude.{unwrap_or, IsSome}
use Rattle.std.proofs.lemmas.List.{length-append, append-nil, take-append-le, drop_at, drop_all, take_all}
use Rattle.event_core.specs.declared.events.Event.{Event}
use Rattle.rapid_line.specs.declared.words.LineFault.TheVariants.{LineTooLong}
use Rattle.rapid_line.specs.Cut.{count, Lacks, after_last}
use Rattle.rapid_line.specs.Lines.{Lines, to_come, most, Cuts, Keeps, IsLastLine, IsTooLong}
use Rattle.rapid_line.proofs.CutProperties.{IsCut-at, after_last-Lacks}
use Rattle.rapid_line.proofs.LinesProperties.{keeps_law, end_within}
use Rattle.rapid_text.specs.Taking.{lines_place, cutter_place}
use Rattle.rapid_text.proofs.TakingProperties.{Took, cuts_took, keeps_took, took_more}
use Rattle.rapid_text.specs.declared.causes.Cause.{Cause}
use Rattle.rapid_text.specs.declared.causes.Cause.TheVariants as causes
use Rattle.rapid_text.specs.Tables.{Tables, TablesGrow}
use Rattle.rapid_text.specs.Events.{content, reading, Fails, HasEvent}
use Rattle.rapid_text.specs.Texts.{Judgement, with_event, after_line, judge, ended, StopsWith, FirstAt}
use Rattle.rapid_text.specs.Cutting.{Cutting, judged, Stops, Pushes, FailsAt, ClosesAt}
use Rattle.rapid_text.proofs.LongLines.{reading_long}
use Rattle.rapid_text.proofs.NameGrowth.{TablesGrow-refl, TablesGrow-trans}

-- what is still to be judged of the lines to come, if these bytes follow
abbrev pub judged_lines : Tables → Lines → List ℕ → Judgement
judged_lines names lines more = judge (to_come lines more) names lines.unfinished

-- what a cutter holds that has not failed
abbrev pub cutting_of : Tables → Lines → ℕ → Cutting
cutting_of names lines line = record {
  names = names;
  line = line;
  unfinished = lines.unfinished;
  kept = lines.kept;
  taken = lines.taken;
  failed = None;
}

-- what a cutter holds, of which it is known whether it has failed
abbrev view_of : Tables → Lines → ℕ → Option ℕ → Cutting
view_of names lines line failed = record {
  names = names;
  line = line;
  unfinished = unwrap_or failed lines.unfinished;
  kept = lines.kept;
  taken = lines.taken;
  failed = failed;
}

pub live : (names : Tables) (lines : Lines) (line : ℕ) (failed : Option ℕ) → failed ≡ None
    → view_of names lines line failed ≡ cutting_of names lines line
live names lines line failed none = ap (λ (o : Option ℕ). view_of names lines line o) none

-- ---- the loop

-- the lines that end in the front of the piece were judged, which makes this of what is still to be judged;
-- the rest is still to be cut
pub record Went (start : Cutting) (piece : List ℕ) (make : Judgement → Judgement) (names : Tables)
    (lines : Lines) (rest : List ℕ) : Type 0 where
  pub sound : (more : List ℕ) → judged start (piece ++ more) ≡ make (judged_lines names lines (rest ++ more))
  pub front : List ℕ
  pub is : piece ≡ front ++ rest
  pub took : Took (cutter_place start) front (lines_place lines)
  pub room : lines.taken + length rest ≤ most
  pub grows : TablesGrow start.names names

-- they have no event
abbrev pub Going : Cutting → List ℕ → Tables → Lines → List ℕ → Type 0
Going start piece names lines rest = Went start piece (λ j. j) names lines rest

-- before the first line of the piece
pub goes_first : (names : Tables) (lines : Lines) (line : ℕ) (piece : List ℕ) → Lacks 10 lines.kept
    → lines.taken + length piece ≤ most → Going (cutting_of names lines line) piece names lines piece
goes_first names lines line piece lf room = record {
  sound = λ more. refl;
  front = [];
  is = refl;
  took = record {
    lines = omega arith;
    kept = sym (ap (λ (t : List ℕ). after_last 10 t) (append-nil lines.kept)
        ∙ after_last-Lacks 10 lines.kept lf);
    taken = omega arith;
  };
  room = room;
  grows = TablesGrow-refl names;
}

-- what the line comes to, and then the others
line_judged : (names : Tables) (lines : Lines) (rest line : List ℕ) (others : List (List ℕ)) (more : List ℕ)
    (read : Result (Option Event × Tables) Cause) → to_come lines (rest ++ more) ≡ line ∷ others
    → reading names (content line) ≡ read
    → judged_lines names lines (rest ++ more)
    ≡ after_line names lines.unfinished read (λ t. judge others t (lines.unfinished + 1))
line_judged names lines rest line others more read law is =
    ap (λ (ls : List (List ℕ)). judge ls names lines.unfinished) law
    ∙ ap (λ (r : Result (Option Event × Tables) Cause). after_line names lines.unfinished r
    (λ t. judge others t (lines.unfinished + 1))) is

-- one more line
pub goes_on : {start : Cutting} {piece : List ℕ} {names later : Tables} {lines next : Lines}
    {rest line after : List ℕ} {event : Option Event} → Going start piece names lines rest
    → Cuts lines rest line after next → reading names (content line) ≡ Ok (event, later)
    → TablesGrow names later → Went start piece (with_event lines.unfinished event) later next after
goes_on {start} {piece} {names} {later} {lines} {next} {rest} {line} {after} {event} g c r grows =
    let front = g.front ++ (c.end ++ 10 ∷ []) in
    let whole : piece ≡ front ++ after =
    g.is ∙ ap (λ (t : List ℕ). g.front ++ t) ((IsCut-at 10 rest (c.end, after) c.first).is
    ∙ sym (append_assoc c.end (10 ∷ []) after)) ∙ sym (append_assoc g.front (c.end ++ 10 ∷ []) after) in
    record {
      sound = λ more. g.sound more
          ∙ line_judged names lines rest line (to_come next (after ++ more)) more (Ok (event, later))
          (c.law more) r
          ∙ ap (λ (n : ℕ). with_event lines.unfinished event (judge (to_come next (after ++ more)) later n))
          (sym c.unfinished);
      front = front;
      is = whole;
      took = took_more g.took (cuts_took c);
      room = let long = end_within rest c.end after (sym c.first) in omega (arith, g.room, c.taken, long);
      grows = TablesGrow-trans start.names names later g.grows grows;
    }

-- and fewer bytes are left
pub goes_down : {lines next : Lines} {rest line after : List ℕ} → Cuts lines rest line after next
    → length after < length rest
goes_down {rest = rest} {after = after} c =
    let long = end_within rest c.end after (sym c.first) in omega (arith, long)

-- so many bytes were used
used : (piece front rest : List ℕ) → piece ≡ front ++ rest
    → (length piece - length rest ≡ length front) × (take (length front) piece ≡ front)
    × (drop (length front) piece ≡ rest)
used piece front rest is =
    let all = ap (λ (t : List ℕ). length t) is in
    let parts = length-append front rest in (
      omega (arith, all, parts),
      ap (λ (t : List ℕ). take (length front) t) is
          ∙ take-append-le (length front) front rest (omega arith)
          ∙ take_all (length front) front (omega arith),
      ap (λ (t : List ℕ). drop (length front) t) is ∙ drop_at front rest (length front) refl,
    )

-- a line with an event: the push ends
pub gives : {start : Cutting} {piece : List ℕ} {names later : Tables} {lines next : Lines}
    {rest line after : List ℕ} {event : Event} → Going start piece names lines rest
    → Cuts lines rest line after next → reading names (content line) ≡ Ok (Some event, later)
    → TablesGrow names later → start.failed ≡ None
    → Pushes start (cutting_of later next lines.unfinished) piece (length piece - length after) (Some event)
gives {start} {piece} {later = later} {lines = lines} {next = next} {rest = rest} {after = after}
    {event = event} g c r grows live =
    let w = goes_on g c r grows in
    let u = used piece w.front after w.is in
    let all = ap (λ (t : List ℕ). length t) w.is in
    let parts = length-append w.front after in
    let gave : Pushes start (cutting_of later next lines.unfinished) piece (length w.front) (Some event) =
    record {
      sound = λ more. w.sound more
          ∙ ap (λ (t : List ℕ).
          with_event lines.unfinished (Some event) (judged_lines later next (t ++ more))) (sym u.2);
      used_within = omega (arith, all, parts);
      all_used = λ none. absurd cc;
      up_to = c.kept;
      some = let less = goes_down c in
          let was = ap (λ (t : List ℕ). length t) g.is in
          let old = length-append g.front rest in
          omega arith;
      lines = w.took.lines ∙ ap (λ (t : List ℕ). start.unfinished + count 10 t) (sym u.1);
      kept = w.took.kept ∙ ap (λ (t : List ℕ). after_last 10 (start.kept ++ t)) (sym u.1);
      taken = w.took.taken;
      told = omega (arith, c.unfinished);
      line = λ none. absurd cc;
      live = (live, refl);
    } in
    subst (λ (n : ℕ). Pushes start (cutting_of later next lines.unfinished) piece n (Some event)) (sym u.0)
    gave

-- no line ends: the push ends
pub keeps : {start : Cutting} {piece : List ℕ} {names : Tables} {lines next : Lines} {rest : List ℕ}
    → Going start piece names lines rest → Keeps lines rest next → Lacks 10 next.kept → start.failed ≡ None
    → Pushes start (cutting_of names next start.line) piece (length piece) None
keeps {start} {piece} {names} {lines} {next} {rest} g k lf live =
    let none : drop (length piece) piece ≡ [] = drop_all (length piece) piece (omega arith) in
    let all : take (length piece) piece ≡ g.front ++ rest =
    take_all (length piece) piece (omega arith) ∙ g.is in
    let took = took_more g.took (keeps_took k lf) in
    record {
      sound = λ more. g.sound more
          ∙ ap (λ (n : ℕ). judge (to_come lines (rest ++ more)) names n) (sym k.unfinished)
          ∙ ap (λ (ls : List (List ℕ)). judge ls names next.unfinished) (keeps_law k more)
          ∙ ap (λ (t : List ℕ). judged_lines names next (t ++ more)) (sym none);
      used_within = omega arith;
      all_used = λ _. refl;
      up_to = tt;
      some = tt;
      lines = took.lines ∙ ap (λ (t : List ℕ). start.unfinished + count 10 t) (sym all);
      kept = took.kept ∙ ap (λ (t : List ℕ). after_last 10 (start.kept ++ t)) (sym all);
      taken = took.taken ∙ ap (λ (t : List ℕ). start.taken + length t) (sym g.is);
      told = tt;
      line = λ _. refl;
      live = (live, refl);
    }

-- ---- faults

-- the judgement has the cause at line n, or memory ran out there
abbrev FaultAt : Cause → ℕ → Judgement → Type 0
FaultAt causes.OutOfMemory n j = FirstAt n j
FaultAt causes.Read n j = ⊥
FaultAt causes.Failed n j = ⊥
FaultAt k n j = StopsWith (record { line = n; cause = k }) j

event_first : (o : Option Event) (n : ℕ) (j : Judgement) → IsSome o → FirstAt n (with_event n o j)
event_first None n j some = absurd cc
event_first (Some e) n j some = refl

-- the next line is judged so
line_fails : (k : Cause) (read : Result (Option Event × Tables) Cause) (names : Tables) (n : ℕ)
    (go : Tables → Judgement) → Fails k read → (k ≡ causes.OutOfMemory → HasEvent read)
    → FaultAt k n (after_line names n read go)
line_fails causes.OutOfMemory (Err f) names n go fails some = absurd (some refl)
line_fails causes.OutOfMemory (Ok p) names n go fails some = event_first p.0 n (go p.1) (some refl)
line_fails causes.Read read names n go fails some = absurd fails
line_fails causes.Failed read names n go fails some = absurd fails
line_fails k read names n go fails some =
    subst (λ (r : Result (Option Event × Tables) Cause). FaultAt k n (after_line names n r go)) (sym fails)
    (refl, refl)

-- and so is the text, which is judged so from this line on
text_fails : (k : Cause) (names : Tables) (line : List ℕ) (n m : ℕ) (go : Tables → Judgement) (j : Judgement)
    → n ≡ m → Fails k (reading names (content line))
    → (k ≡ causes.OutOfMemory → HasEvent (reading names (content line)))
    → j ≡ after_line names m (reading names (content line)) go → FaultAt k n j
text_fails k names line n m go j at fails some is =
    subst (λ (i : Judgement). FaultAt k n i) (sym is)
    (subst (λ (i : ℕ). FaultAt k n (after_line names i (reading names (content line)) go)) at
    (line_fails k (reading names (content line)) names n go fails some))

-- the fault of a line that is too long
pub long_at : {start : Cutting} {piece : List ℕ} {names : Tables} {lines : Lines} {rest : List ℕ} {n : ℕ}
    → n ≡ lines.unfinished → Going start piece names lines rest → IsTooLong lines rest
    → Stops start piece (record { line = n; cause = causes.Line LineTooLong })
long_at {start} {piece} {names} {lines} {rest} {n} at g long more =
    let next = long.law more in
    text_fails (causes.Line LineTooLong) names next.0 n lines.unfinished _ (judged start (piece ++ more)) at
    (reading_long names next.0 next.3) (λ bad. absurd cc)
    (g.sound more ∙ line_judged names lines rest next.0 next.1 more (reading names (content next.0)) next.2
    refl)

fails_by : (start : Cutting) (piece : List ℕ) (n : ℕ) (k : Cause)
    → ((more : List ℕ) → FaultAt k n (judged start (piece ++ more)))
    → FailsAt start piece (record { line = n; cause = k }) k
fails_by start piece n causes.Read h = absurd (h [])
fails_by start piece n causes.Failed h = absurd (h [])
fails_by start piece n k h = h

-- the fault of a line that ended
pub fails_at : {start : Cutting} {piece : List ℕ} {names : Tables} {lines next : Lines}
    {rest line after : List ℕ} (n : ℕ) (k : Cause) → n ≡ lines.unfinished
    → Going start piece names lines rest → Cuts lines rest line after next
    → Fails k (reading names (content line))
    → (k ≡ causes.OutOfMemory → HasEvent (reading names (content line)))
    → FailsAt start piece (record { line = n; cause = k }) k
fails_at {start} {piece} {names} {lines} {next} {rest} {line} {after} n k at g c fails some =
    fails_by start piece n k (λ more.
    text_fails k names line n lines.unfinished _ (judged start (piece ++ more)) at fails some
    (g.sound more ∙ line_judged names lines rest line (to_come next (after ++ more)) more
    (reading names (content line)) (c.law more) refl))

closes_by : (s : Cutting) (n : ℕ) (k : Cause) → FaultAt k n (judged s [])
    → ClosesAt s (record { line = n; cause = k }) k
closes_by s n causes.Failed h = absurd h
closes_by s n k h = h

-- the fault of the last line
pub closes_at : {lines next : Lines} {line : List ℕ} (names : Tables) (last n : ℕ) (k : Cause)
    → n ≡ lines.unfinished → IsLastLine lines line next → Fails k (reading names (content line))
    → (k ≡ causes.OutOfMemory → HasEvent (reading names (content line)))
    → ClosesAt (cutting_of names lines last) (record { line = n; cause = k }) k
closes_at {lines} {next} {line} names last n k at e fails some =
    let s = cutting_of names lines last in
    closes_by s n k (text_fails k names line n lines.unfinished (λ t. ended t) (judged s []) at fails some
    (ap (λ (ls : List (List ℕ)). judge ls names lines.unfinished) e.law))
