use Rattle.pass_channel.proofs.PostsProperties.{receives}
use Rattle.pass_channel.proofs.ends.PassReceiver.look.Goals as goal

pub try_recv_as-requires-clause-rule : goal.try_recv_as-requires-clause-rule
try_recv_as-requires-clause-rule g c = (receives g.T.Terms.good _ _, λ items views h at. tt)
