use Rattle.std.proofs.Common.{◌≤◌, vec_capacity}
use Rattle.lr_clients.proofs.Places.{AreFirst}
use Rattle.lr_clients.proofs.clients.ClientTable.new.Given as goal

abbrev pub invariant-loop-before : goal.invariant-loop-before
invariant-loop-before l = record {
  room : 64 ≤ vec_capacity l.rows;
  first : AreFirst l.before l.rows.items;
}
