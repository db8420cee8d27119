-- What an answer says of the names.
use Rattle.std.proofs.Common.{◌↔◌, Result}
use Rattle.trace_report.specs.declared.summary.Summary.{Summary}
use Rattle.closed_report.specs.Unnamed.{TellsUnnamed}
use Rattle.closed_report.specs.declared.reporting.ReportFault.{ReportFault}

-- where each number has a name, another answer is right
pub not_told : {Named : Type 0} (answer : Result Summary ReportFault) → (TellsUnnamed answer → ⊥) → Named
    → TellsUnnamed answer ↔ (Named → ⊥)
not_told answer other named = (λ told _. other told, λ none. absurd (none named))
