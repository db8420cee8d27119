-- Whom a line's end of a channel reaches.
use Rattle.std.proofs.Common.{◌≡◌, ◌∷◌, List, sym, ap, ◌∙◌}
use Rattle.std.specs.List.{cons_option}
use Rattle.event_core.specs.declared.ids.ThreadId.{ThreadId}
use Rattle.event_core.specs.declared.events.Call.{Call}
use Rattle.event_core.specs.declared.events.Op.TheVariants.{Fork, Join}
use Rattle.event_core.specs.declared.events.Act.TheVariants.{One}
use Rattle.script_text.specs.declared.lines.ScriptLine.{ScriptLine}
use Rattle.script_text.specs.Lines.{act_fork, act_join, op_fork, op_join}
use Rattle.script_drive.specs.Workers.{forked, joined, Reach, Serves}

module _ {line : ScriptLine} {call : Call} {u to : ThreadId} {old : Reach} {rest : List ThreadId}
    {later : List ScriptLine} (act : line.act ≡ One call) where
  -- whom the next end reaches is whom the line joins
  pub next_joined : call.op ≡ Join u → Serves old (line ∷ later) → old.joins ≡ to ∷ rest → to ≡ u
  next_joined op serves next =
      let all : to ∷ rest ≡ u ∷ joined later = sym next
      ∙ (serves.joins ∙ ap (λ o. cons_option o (joined later)) (ap act_join act ∙ ap op_join op)) in
      cc

  -- and whom the next fork's end reaches is whom the line forks
  pub next_forked : call.op ≡ Fork u → Serves old (line ∷ later) → old.forks ≡ to ∷ rest → to ≡ u
  next_forked op serves next =
      let all : to ∷ rest ≡ u ∷ forked later = sym next
      ∙ (serves.forks ∙ ap (λ o. cons_option o (forked later)) (ap act_fork act ∙ ap op_fork op)) in
      cc
