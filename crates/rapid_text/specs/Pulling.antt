-- A text that is pulled from an input: what is still to be judged, and what the next answer says of it.
use Rattle.std.specs.Prelude.{◌≡◌, ℕ, ◌+◌, ◌*◌, ◌≤◌, List, [], ◌++◌, Option, Some, None, Bool, true, false}
use Rattle.std.specs.Prelude.{length, option_map, IfSome, ◌⊎◌}
use Rattle.event_core.specs.declared.events.Event.{Event}
use Rattle.event_core.specs.Bounds.{Bounds}
use Rattle.rapid_text.specs.declared.causes.Cause.{Cause}
use Rattle.rapid_text.specs.declared.causes.Cause.TheVariants as causes
use Rattle.rapid_text.specs.declared.causes.TextFault.{TextFault}
use Rattle.rapid_line.specs.Cut.{Lacks}
use Rattle.rapid_line.specs.Lines.{most_kept}
use Rattle.rapid_text.specs.Tables.{Tables}
use Rattle.rapid_text.specs.Cutting.{Cutting, begun}
use Rattle.rapid_text.specs.Texts.{Judgement, judge, lines_of, with_event, ended, StopsWith, FirstAt}

-- what a reader holds beside its input: the names, the last answer's line, the number of the line whose end
-- was not seen, the bytes that came and are still to be judged, the turns left, whether the text ended, and
-- the line of the first fault
pub record Pulling : Type 0 where
  pub names : Tables
  pub line : ℕ
  pub unfinished : ℕ
  pub came : List ℕ
  pub turns : ℕ
  pub ended : Bool
  pub failed : Option ℕ

-- a cutter, and what waits of the last piece
abbrev pub pulling_of : Cutting → List ℕ → ℕ → Bool → Pulling
pulling_of c waiting turns ended = record {
  names = c.names;
  line = c.line;
  unfinished = c.unfinished;
  came = c.kept ++ waiting;
  turns = turns;
  ended = ended;
  failed = c.failed;
}

-- before the first pull
abbrev pub unpulled : Bounds → ℕ → Pulling
unpulled l turns = pulling_of (begun l) [] turns false

-- after the end of the text nothing is left of it
abbrev pub rest_of : Bool → Option (List ℕ) → Option (List ℕ)
rest_of false left = left
rest_of true left = Some []

-- the text still to be judged is what came, followed by what the input has left, where that is known
abbrev pub to_judge : Pulling → Option (List ℕ) → Option Judgement
to_judge p left = option_map (λ l. judge (lines_of (p.came ++ l)) p.names p.unfinished)
    (rest_of p.ended left)

-- where the old is known, the new is too, and the old is made of it
abbrev pub Follows : Option Judgement → (Judgement → Judgement) → Option Judgement → Type 0
Follows None make new = Unit {0}
Follows (Some j) make None = ⊥
Follows (Some j) make (Some k) = j ≡ make k

-- an event was taken off the front of the text
pub record Tells (old : Pulling) (left : Option (List ℕ)) (new : Pulling) (rest : Option (List ℕ))
    (event : Event) : Type 0 where
  pub text : Follows (to_judge old left) (with_event new.line (Some event)) (to_judge new rest)

-- the text had no event left, and no fault
pub record HasNoMore (old : Pulling) (left : Option (List ℕ)) (new : Pulling) : Type 0 where
  pub text : IfSome (to_judge old left) (λ j. j ≡ ended new.names)
  pub line : new.line ≡ old.line
  pub ended : new.ended ≡ true

abbrev pub Answers : Pulling → Option (List ℕ) → Pulling → Option (List ℕ) → Option Event → Type 0
Answers old left new rest (Some event) = Tells old left new rest event
Answers old left new rest None = HasNoMore old left new

-- the text stops here with this fault
abbrev pub StopsAt : Pulling → Option (List ℕ) → TextFault → Type 0
StopsAt old left f = IfSome (to_judge old left) (StopsWith f)

-- a read failed or the turns are used up, after all lines that came whole were judged and had no event; what
-- came of the line whose end was not seen is not judged
pub record ReadFails (old : Pulling) (left : Option (List ℕ)) (new : Pulling) (rest : Option (List ℕ))
    (read_failed : Bool) (f : TextFault) : Type 0 where
  pub why : (read_failed ≡ true) ⊎ (new.turns ≡ 0)
  pub at : f.line ≡ new.unfinished
  pub text : Follows (to_judge old left) (λ j. j) (to_judge new rest)
  pub unjudged : Lacks 10 new.came
  pub short : length new.came ≤ most_kept

-- a growth was refused at the first line with an event, and at none that was judged before
pub record GrowthFails (old : Pulling) (left : Option (List ℕ)) (f : TextFault) : Type 0 where
  pub at : IfSome (to_judge old left) (FirstAt f.line)
  pub unjudged : old.unfinished ≤ f.line

-- why there is no next answer
abbrev pub NoAnswer : Pulling → Option (List ℕ) → Pulling → Option (List ℕ) → Bool → TextFault → Cause
    → Type 0
NoAnswer old left new rest read_failed f causes.OutOfMemory = GrowthFails old left f
NoAnswer old left new rest read_failed f causes.Read = ReadFails old left new rest read_failed f
NoAnswer old left new rest read_failed f causes.Failed = old.failed ≡ Some f.line
NoAnswer old left new rest read_failed f cause = StopsAt old left f

-- where the bytes that are left are known, they became fewer by one for each turn at least
abbrev pub TakeBytes : ℕ → Option (List ℕ) → ℕ → Option (List ℕ) → Type 0
TakeBytes old None new rest = Unit {0}
TakeBytes old (Some left) new None = ⊥
TakeBytes old (Some left) new (Some rest) = old + length rest ≤ new + length left

-- how many bytes a reader pulls at once
abbrev pub window_size : ℕ
window_size = 4096

-- where the bytes that are left are known, they became fewer by no more than 4,096 for each turn
abbrev pub TakeFew : ℕ → Option (List ℕ) → ℕ → Option (List ℕ) → Type 0
TakeFew old None new rest = Unit {0}
TakeFew old (Some left) new None = ⊥
TakeFew old (Some left) new (Some rest) = length left + window_size * new ≤ length rest + window_size * old
