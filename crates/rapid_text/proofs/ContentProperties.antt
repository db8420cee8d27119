-- Lines without their endings.
use Rattle.std.proofs.Common.{◌≡◌, ℕ, List, [], ◌∷◌, Option, Some, None, refl, subst}
use Rattle.std.specs.Prelude.{unwrap_or, IfSome}
use Rattle.rapid_line.specs.declared.marks.Line.{Line}
use Rattle.rapid_line.specs.Marks.{IsBarred, IsKnown}
use Rattle.rapid_line.specs.Cut.{Lacks, before_end}
use Rattle.rapid_text.specs.Events.{content}
use Rattle.rapid_line.proofs.CutProperties as cuts

content_by : (xs : List ℕ) (o : Option (List ℕ)) → before_end 13 xs ≡ o → Lacks 13 xs → unwrap_or o xs ≡ xs
content_by xs None e h = refl
content_by xs (Some a) e h =
    let last : Lacks 13 (13 ∷ []) =
    cuts.Lacks-right 13 a (13 ∷ []) (subst (λ t. Lacks 13 t) (cuts.before_end-Some 13 xs a e) h) in
    absurd cc

-- a line whose bars are known has no CR, and so it is its content
pub content_known : (line : Line) (bars : ℕ × ℕ) → IsKnown line → line.bars ≡ Some bars
    → content line.bytes.now ≡ line.bytes.now
content_known line bars known is =
    let barred : IsBarred line.bytes.now bars.0 bars.1 =
    subst (λ o. IfSome o (λ b. IsBarred line.bytes.now b.0 b.1)) is known in
    content_by line.bytes.now (before_end 13 line.bytes.now) refl barred.no_cr
