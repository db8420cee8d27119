use Rattle.std.proofs.Common.{rules}
use Rattle.pass_channel.proofs.PostsProperties.{divides}
use Rattle.pass_channel.proofs.ends.channel_to.Goals as goal

pub another-other-requires-clause-rule : goal.another-other-requires-clause-rule
another-other-requires-clause-rule g c = divides g.T.Terms.good _ _ _ (search rules)
