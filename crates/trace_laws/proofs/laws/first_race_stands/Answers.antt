use Rattle.trace_laws.proofs.IsReorderedProperties.{changed_races, kept_before, race_kept}
use Rattle.trace_laws.proofs.laws.first_race_stands.Goals as goal

pub returns : goal.returns
returns c = λ log other to w h. (
  changed_races log other to w h,
  λ j first. (kept_before log other to w h j first, λ i race. race_kept log other to w h i j race),
)
