use Rattle.std.proofs.Common.{ap, sym, subst, ◌∙◌, IsTrue, take, get_or}
use Rattle.std.proofs.lemmas.List.{take_more}
use Rattle.lr_model.specs.Board.{Board, dropped_connection, is_open, with_connection}
use Rattle.lr_pubsub.specs.BoardValue.{board_of}
use Rattle.lr_pubsub.specs.Delivery.{board_after_drops}
use Rattle.lr_pubsub.proofs.Drops.{drops-more, drops-open}
use Rattle.lr_pubsub.proofs.board.Board.drop_all.Goals as goal

pub drop_out-requires : goal.drop_out-requires
drop_out-requires c =
    let i = c.loop-conn.conn-index in
    let x = get_or c.args.conns.now i 0 in
    subst (λ (b : Board). IsTrue (is_open (b x))) (sym c.loop-conn.invariant)
    (drops-open (take i c.args.conns.now) (board_of c.args.self.now) x
    (c.requires i 0 c.loop-conn-test.true))

pub loop-conn-preserved : goal.loop-conn-preserved
loop-conn-preserved c =
    let i = c.loop-conn.conn-index in
    let conns = c.args.conns.now in
    let x = get_or conns i 0 in
    c.drop_out.ensures
    ∙ ap (λ (b : Board). with_connection b x (dropped_connection (b x))) c.loop-conn.invariant
    ∙ drops-more (take i conns) x (board_of c.args.self.now)
    ∙ ap (λ seen. board_after_drops seen (board_of c.args.self.now))
    (sym (take_more conns i 0 c.loop-conn-test.true))
