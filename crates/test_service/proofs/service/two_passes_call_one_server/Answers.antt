use Rattle.std.proofs.Common.{inr}
use Rattle.test_service.proofs.service.two_passes_call_one_server.Goals as goal

pub drain-requires-clause-conn : goal.drain-requires-clause-conn
drain-requires-clause-conn g c = inr (c.call.ensures.keeps c.in-Ok.conn c.in-Ok.ensures.own)

pub close-requires-clause-conn : goal.close-requires-clause-conn
close-requires-clause-conn g c = record {
  own = c.drain.ensures.keeps c.in-Ok.conn
      (c.call.ensures.keeps c.in-Ok.conn c.in-Ok.ensures.own);
  not_first = c.in-Ok.ensures.not_first;
}
