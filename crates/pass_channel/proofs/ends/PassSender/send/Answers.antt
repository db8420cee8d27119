use Rattle.pass_channel.proofs.PostsProperties.{sends}
use Rattle.pass_channel.proofs.ends.PassSender.send.Goals as goal

pub send_as-requires-clause-rule : goal.send_as-requires-clause-rule
send_as-requires-clause-rule g c = (
  sends g.T.Terms.good _ _ c.args.self.to _ _ c.args.self.knows c.requires,
  λ items views h at. tt,
)
