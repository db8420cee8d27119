use Rattle.pass_channel.proofs.ends.pass_channel.Given as goal

abbrev pub ghosts-channel_to : goal.ghosts-channel_to
ghosts-channel_to g a = record { thread = a.to }
