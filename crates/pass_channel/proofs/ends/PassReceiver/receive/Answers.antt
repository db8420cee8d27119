use Rattle.pass_channel.proofs.PostsProperties.{receives}
use Rattle.pass_channel.proofs.ends.PassReceiver.receive.Goals as goal

pub recv_as-requires-clause-rule : goal.recv_as-requires-clause-rule
recv_as-requires-clause-rule g c = (receives g.T.Terms.good _ _, λ items views h at. tt)
