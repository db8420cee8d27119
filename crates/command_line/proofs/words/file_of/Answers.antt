use Rattle.std.proofs.Common.{◌≡◌, ◌∙◌, List, ℕ, [], Option, Some, None, ap, codes, refl}
use Rattle.std.specs.Borrow.{Bor}
use Rattle.std.specs.Prelude.{option_map, unwrap_or}
use Rattle.clap.specs.Words.{found_of}
use Rattle.clap.proofs.WalkLemmas.{first_value-rows}
use Rattle.command_line.proofs.words.file_of.Goals as goal

or_empty : (o : Option (Bor (List ℕ))) (d : Bor (List ℕ)) → d.now ≡ []
    → (unwrap_or o d).now ≡ unwrap_or (option_map (λ s. s.now) o) []
or_empty None d e = e
or_empty (Some x) d e = refl

pub returns : goal.returns
returns c =
    ap (λ s. s.now) c.unwrap_or.ensures ∙ or_empty c.get_str.result _ refl
    ∙ ap (λ (o : Option (List ℕ)). unwrap_or o [])
    (c.get_str.ensures ∙ first_value-rows (found_of c.args.matches.now) (codes "FILE"))
