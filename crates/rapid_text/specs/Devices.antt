-- A device: a reader or a writer, whether it has failed, and how often it was pulled.
use Rattle.std.specs.Prelude.{ℕ, Bool}

pub record DeviceView (T : Type 0) : Type 0 where
  pub inner : T
  pub failed : Bool
  pub pulls : ℕ
