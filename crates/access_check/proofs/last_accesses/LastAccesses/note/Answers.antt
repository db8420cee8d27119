use Rattle.std.proofs.Common.{ap, ◌∙◌}
use Rattle.access_check.specs.declared.last_accesses.LastAccess.{LastAccess}
use Rattle.access_check.specs.LastAccesses.{put}
use Rattle.access_check.proofs.IsReadyForProperties.{room_put}
use Rattle.access_check.proofs.last_accesses.LastAccesses.note.Goals as goal

pub returns-clause-room : goal.returns-clause-room
returns-clause-room c =
    room_put c.args.last c.args.self.now c.put.new.self
    (c.put.ensures.items ∙ ap (λ (p : LastAccess). put p c.args.self.now.items) c.new.ensures)
