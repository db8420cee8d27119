-- Which verdicts are races.
use Rattle.std.specs.Prelude.{Bool, true, false}
use Rattle.event_core.specs.declared.replies.Verdict.{Verdict}
use Rattle.event_core.specs.declared.replies.Verdict.TheVariants.{Clear, Racy}

abbrev pub is_race : Verdict → Bool
is_race Clear = false
is_race (Racy i) = true
