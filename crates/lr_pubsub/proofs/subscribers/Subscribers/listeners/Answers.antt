use Rattle.std.proofs.Common.{◌∙◌, ap, sym}
use Rattle.lr_pubsub.proofs.Listeners.{found, listeners_get}
use Rattle.lr_pubsub.proofs.subscribers.Subscribers.listeners.Goals as goal

pub returns-in-Some : goal.returns-in-Some
returns-in-Some c =
    ap found c.in-Some.ensures.value
    ∙ sym (listeners_get c.args.channel.now c.args.self.now.by_channel.entries)

pub returns-in-None : goal.returns-in-None
returns-in-None c =
    c.empty.ensures ∙ ap found c.in-None.ensures.value
    ∙ sym (listeners_get c.args.channel.now c.args.self.now.by_channel.entries)
