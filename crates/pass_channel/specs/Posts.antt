-- The rule of a channel that carries passes to one thread.
use Rattle.std.specs.Prelude.{◌≡◌, ℕ, ◌+◌, List, length, Option, Some, None, IsSomeAnd}
use Rattle.std.specs.List.{AllByRecursion}
use mathlib.Core.Option.{some}
use lib.ListN.{get_elem?}
use Rattle.event_core.specs.declared.ids.ThreadId.{ThreadId}
use Rattle.log_pass.specs.declared.views.PassView.{PassView}
use Rattle.pass_channel.specs.declared.rule.Address.{Address}

-- it is not known yet for whom the channel is
abbrev pub nobody : Address
nobody = record { to = None; taken = 0 }

abbrev pub somebody : ThreadId → Address
somebody t = record { to = Some t; taken = 0 }

-- one more pass came out by this end
abbrev pub one_more : Address → Address
one_more v = record v { taken = v.taken + 1 }

-- the channel's thread is known, and the pass may go to it
abbrev pub MayGo : (ThreadId → PassView → Type 0) → Option ThreadId → PassView → Type 0
MayGo Good to p = IsSomeAnd to (λ t. Good t p)

-- All ends know for whom the channel is, and each pass in it may go there. Before that is known there is one
-- end.
pub record Posted (Good : ThreadId → PassView → Type 0) (items : List PassView)
    (views : List Address) : Type 0 where
  pub to : Option ThreadId
  pub known : (seat : ℕ) (v : Address) → get_elem? views seat ≡ some v → v.to ≡ to
  pub good : AllByRecursion (MayGo Good to) items
  pub one_end : to ≡ None → length views ≡ 1
