use Rattle.std.proofs.Common.{◌≡◌, ℕ, Some}
use Rattle.std.proofs.lemmas.Option.{IfSome_then}
use Rattle.rapid_text.specs.Numbers.{found_number}
use Rattle.rapid_text.specs.NumberCache.{IsFound}
use Rattle.rapid_text.proofs.SpaceLaws.{place_of_name}
use Rattle.rapid_text.proofs.NumberCacheProperties.{name_held}
use Rattle.rapid_text.proofs.interner.Interner.find.Goals as goal

pub returns : goal.returns
returns c =
    let names = c.self.inside.names.keys in
    let name = c.args.name.now in
    let known : (n : ℕ) → IsFound c.self.inside.cache n name → found_number c.args.self.now name ≡ Some n =
    λ n found.
    let at = name_held names c.self.inside.cache n name c.self.invariant.1 found in
    rw (← c.self.view_is) (place_of_name name names n c.as_slice-unique.ensures.unique at) in
    IfSome_then c.find.result c.find.ensures known
