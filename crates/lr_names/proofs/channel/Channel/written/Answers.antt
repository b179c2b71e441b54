use Rattle.lr_names.proofs.channel.Channel.written.Goals as goal

pub returns-clause-channel : goal.returns-clause-channel
returns-clause-channel c =
    rw (← c.self.view_is) record {
      name = c.as_slice.ensures.named;
      fair = c.self.invariant;
      owner = c.push_owner.ensures.owner;
    }
