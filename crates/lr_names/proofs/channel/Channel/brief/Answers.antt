use Rattle.std.proofs.Common.{sym, ◌∙◌}
use Rattle.lr_names.proofs.ChannelLaws.{channel_text-injective}
use Rattle.lr_names.proofs.channel.Channel.brief.Goals as goal

pub returns-clause-alone : goal.returns-clause-alone
returns-clause-alone c = λ other h same.
    channel_text-injective c.args.self.now other c.written.ensures.channel h (sym c.written.ensures.text ∙ same)
