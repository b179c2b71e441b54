use Rattle.std.proofs.Common.{refl}
use Rattle.lr_server.proofs.Serves.{room_to_close, serves_as_shown, serves_pushed, serves_close}
use Rattle.lr_server.proofs.state.ServerState.close.Goals as goal

pub append-requires-clause-spare : goal.append-requires-clause-spare
append-requires-clause-spare c =
    room_to_close (serves_as_shown c.self.view_is c.self.invariant) c.args.conn c.requires

pub invariant_of-self : goal.invariant_of-self
invariant_of-self c =
    serves_pushed c.self.view_is c.entry-entry.ensures.value refl c.append.ensures.entries
    c.append.ensures.moment
    (serves_close (serves_as_shown c.self.view_is c.self.invariant) c.args.reading c.args.caller
    c.args.conn c.entry-entry.ensures.early c.close.new.self c.append.new.history.spare
    c.requires c.close.ensures c.append.ensures.spare)
