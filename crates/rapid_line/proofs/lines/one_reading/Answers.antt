use Rattle.rapid_line.proofs.SpellingProperties.{read_again}
use Rattle.rapid_line.proofs.IsFirstCauseProperties.{read_found, read_first, first_answered}
use Rattle.rapid_line.proofs.lines.one_reading.Goals as goal

pub returns-clause-named : goal.returns-clause-named
returns-clause-named c = λ bytes e lf. (λ eq. read_found bytes e lf eq, λ h. read_again bytes e h)

pub returns-clause-cause : goal.returns-clause-cause
returns-clause-cause c = λ bytes f lf. (λ eq. read_first bytes f eq, λ h. first_answered bytes f h)
