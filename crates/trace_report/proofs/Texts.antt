-- The texts of a report, in the parts that are put.
use Rattle.std.proofs.Common.{◌≡◌, ℕ, ◌++◌, refl}
use Rattle.std.specs.Prelude.{codes}
use Rattle.trace_report.specs.declared.counts.Counts.{Counts}
use Rattle.trace_report.specs.Checked.{counts_text}
use Rattle.trace_report.specs.Reports.{labelled}

pub counts_parts : (c : Counts) (t l v : ℕ) → t ≡ c.threads → l ≡ c.locks → v ≡ c.vars
    → labelled (codes "events ") c.events ++ labelled (codes " threads ") t ++ labelled (codes " locks ") l
    ++ labelled (codes " variables ") v
    ≡ counts_text c
counts_parts c t l v p q r = rw (p, q, r) refl
