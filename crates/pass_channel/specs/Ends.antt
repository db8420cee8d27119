-- What contracts see of the end out of which a pass comes.
use Rattle.std.specs.Prelude.{ℕ}
use Rattle.crossbeam_channel.specs.Claims.{view}
use Rattle.pass_channel.specs.declared.ends.PassReceiver.{PassReceiver}

-- how many passes came out
abbrev pub taken : {N T : Type 0} → PassReceiver N T → ℕ
taken r = (view r.ticket).taken
