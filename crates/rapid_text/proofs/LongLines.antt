-- A line of more than 1,025 bytes has a content that is too long.
use Rattle.std.proofs.Common.{◌≡◌, ℕ, ◌-◌, ◌<◌, List, length, Err, refl, arith}
use Rattle.std.proofs.lemmas.Bool.{lt-ltb, ne_eqb}
use Rattle.std.proofs.lemmas.Bool.Decides.{nat_tests}
use Rattle.std.proofs.lemmas.List.{length-take}
use Rattle.rapid_line.specs.declared.words.LineFault.TheVariants.{LineTooLong}
use Rattle.rapid_line.specs.Lines.{most_kept}
use Rattle.rapid_line.specs.Reading.{line_of}
use Rattle.rapid_text.specs.declared.causes.Cause.TheVariants as causes
use Rattle.rapid_text.specs.Tables.{Tables}
use Rattle.rapid_text.specs.Events.{content, reading}

pub content_long : (bytes : List ℕ) → most_kept < length bytes → 1024 < length (content bytes)
content_long bytes h = grind (arith, nat_tests, length-take (length bytes - 1) bytes)

line_long : (bytes : List ℕ) → 1024 < length bytes → line_of bytes ≡ Err LineTooLong
unfolding line_of
line_long bytes h = rw (lt-ltb 1024 (length bytes) h) refl

pub reading_long : (t : Tables) (bytes : List ℕ) → most_kept < length bytes
    → reading t (content bytes) ≡ Err (causes.Line LineTooLong)
unfolding reading
reading_long t bytes h =
    let long : 1024 < length (content bytes) = content_long bytes h in
    rw (ne_eqb (length (content bytes)) 0 (λ z. omega arith), line_long (content bytes) long) refl
