-- The steps of a loop of pulls.
use Rattle.std.proofs.Common.{◌≡◌, ℕ, ◌+◌, ◌*◌, ◌-◌, ◌<◌, ◌≤◌, List, [], ◌++◌, length, drop, Option, Some}
use Rattle.std.proofs.Common.{None, Bool, true, false, length-append, refl, sym, ap, ap₂, subst, ◌∙◌, arith}
use Rattle.std.specs.Prelude.{option_map, IfSome, Result, Ok, Err, is_some}
use Rattle.std.specs.Result.{IsErrAnd}
use Rattle.std.proofs.lemmas.List.{drop_all, nil_from_length}
use Rattle.std.specs.Io.KnownBytes.{Consumes, IsAtEnd}
use Rattle.event_core.specs.declared.events.Event.{Event}
use Rattle.rapid_text.specs.declared.causes.Cause.{Cause}
use Rattle.rapid_text.specs.declared.causes.Cause.TheVariants as causes
use Rattle.rapid_text.specs.declared.causes.TextFault.{TextFault}
use Rattle.rapid_text.specs.Tables.{Tables, TablesGrow}
use Rattle.rapid_text.specs.Texts.{Judgement, with_event, ended, judge, lines_of, StopsWith, BeginsAt}
use Rattle.rapid_text.specs.Texts.{FirstAt}
use Rattle.rapid_text.proofs.BeginsAtProperties.{first_from}
use Rattle.rapid_text.proofs.NameGrowth.{TablesGrow-trans}
use Rattle.rapid_text.specs.Cutting.{Cutting, judged, most, Pushes, FailsAt, Closes, ClosesAt}
use Rattle.rapid_text.specs.Pulling.{Pulling, pulling_of, to_judge, Follows, HasNoMore, Answers, NoAnswer}
use Rattle.rapid_text.specs.Pulling.{window_size, TakeBytes, TakeFew}

-- what is still to be judged of what a cutter keeps, what waits and what is left
abbrev text_of : Cutting → List ℕ → Option (List ℕ) → Option Judgement
text_of c w left = option_map (λ l. judged c (w ++ l)) left

-- ---- one step, for any text that it follows

follows_push : (x : Option Judgement) (c d : Cutting) (w : List ℕ) (used : ℕ) (left : Option (List ℕ))
    (event : Option Event)
    → Follows x (λ j. j) (text_of c w left) → Pushes c d w used event
    → Follows x (with_event d.line event) (text_of d (drop used w) left)
follows_push None c d w used left event h p = tt
follows_push (Some j) c d w used None event h p = absurd h
follows_push (Some j) c d w used (Some l) event h p = h ∙ p.sound l

follows_fill : (x : Option Judgement) (c : Cutting) (w : List ℕ) (left rest : Option (List ℕ))
    → Follows x (λ j. j) (text_of c [] left) → Consumes left rest w → Follows x (λ j. j) (text_of c w rest)
follows_fill None c w left rest h k = tt
follows_fill (Some j) c w None rest h k = absurd h
follows_fill (Some j) c w (Some l) None h k = absurd k
follows_fill (Some j) c w (Some l) (Some m) h k = h ∙ ap (λ (t : List ℕ). judged c t) k

-- what is so whatever follows
follows_all : (P : Judgement → Type 0) (x : Option Judgement) (c : Cutting) (w : List ℕ)
    (left : Option (List ℕ))
    → Follows x (λ j. j) (text_of c w left) → ((more : List ℕ) → P (judged c (w ++ more))) → IfSome x P
follows_all P None c w left h all = tt
follows_all P (Some j) c w None h all = absurd h
follows_all P (Some j) c w (Some l) h all = subst P (sym h) (all l)

-- what is so at the end of the text
follows_last : (P : Judgement → Type 0) (x : Option Judgement) (c : Cutting) (left : Option (List ℕ))
    → Follows x (λ j. j) (text_of c [] left) → IsAtEnd left → P (judged c []) → IfSome x P
follows_last P None c left h a last = tt
follows_last P (Some j) c None h a last = absurd h
follows_last P (Some j) c (Some l) h a last = subst P (sym (h ∙ ap (λ (t : List ℕ). judged c t) a)) last

some_follows : (x : Option Judgement) (make : Judgement → Judgement) (k : Judgement)
    → IfSome x (λ j. j ≡ make k) → Follows x make (Some k)
some_follows None make k h = tt
some_follows (Some j) make k h = h

-- ---- the loop

-- what is still to be judged is the same as at the start
pub record Running (start : Pulling) (from : Option (List ℕ)) (c : Cutting) (w : List ℕ) (turns : ℕ)
    (left : Option (List ℕ)) : Type 0 where
  pub same : Follows (to_judge start from) (λ j. j) (text_of c w left)
  pub line : c.line ≡ start.line
  pub later : start.unfinished ≤ c.unfinished
  pub live : c.failed ≡ None
  pub room : c.taken + length w + window_size * turns ≤ most
  pub turns_left : turns ≤ start.turns

-- after a push that took all, nothing waits
pub after_push : {start : Pulling} {from : Option (List ℕ)} {c d : Cutting} {w : List ℕ} {turns used : ℕ}
    {left : Option (List ℕ)} → Running start from c w turns left → Pushes c d w used None
    → (drop used w ≡ []) × Follows (to_judge start from) (λ j. j) (text_of d [] left)
after_push {start} {from} {c} {d} {w} {used = used} {left = left} r p =
    let all = p.all_used refl in
    let none : drop used w ≡ [] = drop_all used w (omega (arith, all)) in
    let pushed = follows_push (to_judge start from) c d w used left None r.same p in
    (none, subst (λ (t : List ℕ). Follows (to_judge start from) (λ j. j) (text_of d t left)) none pushed)

-- no event, and the next piece came
pub runs_on : {start : Pulling} {from : Option (List ℕ)} {c d : Cutting} {w v : List ℕ} {turns used : ℕ}
    {left rest : Option (List ℕ)} → Running start from c w turns left → Pushes c d w used None → 0 < turns
    → Consumes left rest v → length v ≤ window_size → Running start from d v (turns - 1) rest
runs_on {start} {from} {d = d} {v = v} {left = left} {rest = rest} r p some k short = record {
  same = follows_fill (to_judge start from) d v left rest (after_push r p).1 k;
  line = p.line refl ∙ r.line;
  later = omega (arith, r.later, p.lines);
  live = p.live.1;
  room = let all = p.all_used refl in omega (arith, p.taken, all, r.room, short, some);
  turns_left = omega (arith, r.turns_left);
}

none_is : (o : Option Event) → false ≡ is_some o → o ≡ None
none_is None none = refl
none_is (Some e) none = absurd cc

-- a push that gave no event
pub no_event : {c d : Cutting} {w v : List ℕ} {used : ℕ} {event : Option Event} → Pushes c d v used event
    → v ≡ w → false ≡ is_some event → Pushes c d w used None
no_event {c} {d} {w} {v} {used} {event} p is none =
    subst (λ (t : List ℕ). Pushes c d t used None) is
    (subst (λ (o : Option Event). Pushes c d v used o) (none_is event none) p)

-- names that were added three times
pub grown : (t u v w : Tables) → TablesGrow t u → TablesGrow u v → TablesGrow v w → TablesGrow t w
grown t u v w p q r = TablesGrow-trans t v w (TablesGrow-trans t u v p q) r

-- the fault that a `?` hands on
pub handed_on : {T E : Type 0} (r : Result T E) (f : E) → IsErrAnd r (λ e. e ≡ f) → r ≡ Err f
handed_on (Ok x) f is = absurd is
handed_on (Err e) f is = ap Err is

-- ---- a push that failed

pub push_fails : {start : Pulling} {from : Option (List ℕ)} {c : Cutting} {w : List ℕ} {turns : ℕ}
    {left : Option (List ℕ)} (new : Pulling) (rest : Option (List ℕ)) (b : Bool) (f : TextFault) (k : Cause)
    → Running start from c w turns left → FailsAt c w f k → NoAnswer start from new rest b f k
push_fails {start} {from} {c} {w} {left = left} new rest b f causes.OutOfMemory r s =
    let first = first_from (lines_of (c.kept ++ (w ++ []))) c.names c.unfinished f.line (s []) in
    record {
      at = follows_all (FirstAt f.line) (to_judge start from) c w left r.same s;
      unjudged = omega (arith, r.later, first);
    }
push_fails new rest b f causes.Read r s = absurd (let over = s.1 in omega (arith, r.room, over))
push_fails new rest b f causes.Failed r s = let clash : None ≡ Some f.line = sym r.live ∙ s in absurd cc
push_fails {start} {from} {c} {w} {left = left} new rest b f k r s =
    follows_all (StopsWith f) (to_judge start from) c w left r.same s

-- ---- the end of the text

-- nothing is left but what the cutter keeps, and that is the text still to be judged
pub record AtEnd (start : Pulling) (from : Option (List ℕ)) (d : Cutting) (rest : Option (List ℕ))
    : Type 0 where
  pub same : Follows (to_judge start from) (λ j. j) (text_of d [] rest)
  pub ended : IsAtEnd rest
  pub line : d.line ≡ start.line
  pub later : start.unfinished ≤ d.unfinished
  pub live : d.failed ≡ None

pub at_end : {start : Pulling} {from : Option (List ℕ)} {c d : Cutting} {w v : List ℕ} {turns used : ℕ}
    {left rest : Option (List ℕ)} → Running start from c w turns left → Pushes c d w used None
    → Consumes left rest v → v ≡ [] → IsAtEnd rest → AtEnd start from d rest
at_end {start} {from} {d = d} {v = v} {left = left} {rest = rest} r p k none ended = record {
  same = subst (λ (t : List ℕ). Follows (to_judge start from) (λ j. j) (text_of d t rest)) none
      (follows_fill (to_judge start from) d v left rest (after_push r p).1 k);
  ended = ended;
  line = p.line refl ∙ r.line;
  later = omega (arith, r.later, p.lines);
  live = p.live.1;
}

pub closes_text : {start : Pulling} {from : Option (List ℕ)} {d f : Cutting} {rest : Option (List ℕ)}
    (v : List ℕ) (turns : ℕ) (event : Option Event) → AtEnd start from d rest → v ≡ [] → Closes d f event
    → Answers start from (pulling_of f v turns true) rest event
closes_text {start} {from} {d} {f} {rest} v turns None e none k = record {
  text = follows_last (λ j. j ≡ ended f.names) (to_judge start from) d rest e.same e.ended k.sound;
  line = k.line refl ∙ e.line;
  ended = refl;
}
closes_text {start} {from} {d} {f} {rest} v turns (Some x) e none k =
    let make = with_event f.line (Some x) in
    let left = judge (lines_of ((f.kept ++ v) ++ [])) f.names f.unfinished in
    let nothing : left ≡ ended f.names =
    ap₂ (λ (a b : List ℕ). judge (lines_of ((a ++ b) ++ [])) f.names f.unfinished) k.kept none in
    record {
      text = some_follows (to_judge start from) make left (follows_last (λ j. j ≡ make left)
          (to_judge start from) d rest e.same e.ended (k.sound ∙ ap make (sym nothing)));
    }

pub end_fails : {start : Pulling} {from : Option (List ℕ)} {d : Cutting} {rest : Option (List ℕ)}
    (new : Pulling) (b : Bool) (f : TextFault) (k : Cause) → AtEnd start from d rest → ClosesAt d f k
    → NoAnswer start from new rest b f k
end_fails {start} {from} {d} {rest} new b f causes.OutOfMemory e s =
    let first = first_from (lines_of (d.kept ++ [])) d.names d.unfinished f.line s in
    record {
      at = follows_last (FirstAt f.line) (to_judge start from) d rest e.same e.ended s;
      unjudged = omega (arith, e.later, first);
    }
end_fails new b f causes.Read e s = absurd s
end_fails new b f causes.Failed e s = let clash : None ≡ Some f.line = sym e.live ∙ s in absurd cc
end_fails {start} {from} {d} {rest} new b f k e s =
    follows_last (StopsWith f) (to_judge start from) d rest e.same e.ended s

-- where what is left begins
pub end_begins : {start : Pulling} {from : Option (List ℕ)} {d : Cutting} {rest : Option (List ℕ)} {n : ℕ}
    {names : Tables} → AtEnd start from d rest → BeginsAt n names (judged d [])
    → IfSome (to_judge start from) (BeginsAt n names)
end_begins {start} {from} {d} {rest} {n} {names} e b =
    follows_last (BeginsAt n names) (to_judge start from) d rest e.same e.ended b

-- after the end nothing is left
pub ended_text : (p : Pulling) (left : Option (List ℕ)) → p.ended ≡ true → length p.came ≡ 0
    → HasNoMore p left p
ended_text p left e n =
    let none = nil_from_length p.came n in
    subst (λ (q : Pulling). HasNoMore q left q) (λ i. record p { ended = sym e i; came = sym none i })
    (record { text = refl; line = refl; ended = refl })

-- one more turn, which took bytes, and no more than a turn may take
pub takes_more : (old new : ℕ) (left rest more : Option (List ℕ)) (v : List ℕ)
    → TakeBytes old left new rest × TakeFew old left new rest → Consumes rest more v → 0 < length v
    → length v ≤ window_size → 0 < new → TakeBytes old left (new - 1) more × TakeFew old left (new - 1) more
takes_more old new None rest more v t c some few turn = (tt, tt)
takes_more old new (Some l) None more v t c some few turn = absurd t.0
takes_more old new (Some l) (Some r) None v t c some few turn = absurd c
takes_more old new (Some l) (Some r) (Some m) v t c some few turn =
    let long = length-append v m in
    let parts = ap (λ (x : List ℕ). length x) c in
    (omega arith, omega arith)
