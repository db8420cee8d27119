-- What contracts see of a handle.
use Rattle.std.specs.Prelude.{[], Option, Some, None}
use Rattle.log_pass.specs.declared.views.PassView.{PassView}
use Rattle.log_pass.specs.Passes.{main, new_pass}

-- the pass that is at hand
abbrev pub pass_of : Option PassView → PassView
pass_of (Some p) = p
pass_of None = new_pass main []
