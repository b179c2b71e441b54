use Rattle.std.proofs.Common.{◌≡◌, ap, sym, ◌∙◌, subst, IsTrue, length}
use Rattle.lr_model.specs.Board.{Connection, connection_after_unsubscribe, is_open, without_channel}
use Rattle.lr_pubsub.specs.BoardValue.{board_of}
use Rattle.lr_pubsub.specs.Connection.{is_usable}
use Rattle.lr_pubsub.specs.ConnectionSlot.{connection_at}
use Rattle.lr_pubsub.proofs.Boards.{IsBoard-set, IsSlot, IsSlot-read, board-changed, free-same, listed-lost, not_shut, spare-touched, stands}
use Rattle.lr_pubsub.proofs.board.Board.leave.Goals as goal

stand : (c : goal.After-self-2-1) → board_of c.args.self.now
    ≡ connection_at c.self.inside.slots.items
stand c = stands _ _ _ c.self.view_is

at : (c : goal.After-self-2-1)
    → IsSlot c.self.inside.slots.items (board_of c.args.self.now) c.args.conn c.index_mut.result.now
at c =
    IsSlot-read c.self.invariant (board_of c.args.self.now) (stand c) c.args.conn c.requires.opened
    c.index_mut.result.now c.index_mut.ensures.value

pub invariant_of-self : goal.invariant_of-self
invariant_of-self c =
    let channel = c.args.channel.now in
    let slot = c.leave.new.self in
    let made = c.leave.ensures.left
    ∙ ap (λ s. connection_after_unsubscribe channel s.connection) (at c).is in
    let can = not_shut (board_of c.args.self.now c.args.conn) c.requires.takes c.requires.opened in
    IsBoard-set c.self.invariant c.args.conn slot (at c).below c.self.invariant.sent
    (free-same c.self.invariant c.args.conn slot (at c).below (ap is_open made))
    (listed-lost c.self.invariant c.args.conn slot (at c).below _ channel c.remove.ensures
    (ap (λ x. x.channels) made))
    (λ q has.
    subst (λ (x : Connection). IsTrue (is_usable x))
    (sym (c.leave.ensures.left ∙ ap (connection_after_unsubscribe channel) (at c).stands)) can.0)
    (spare-touched c.self.invariant c.args.conn slot (at c).below _ c.add.ensures)

pub returns-clause-board : goal.returns-clause-board
returns-clause-board c =
    board-changed c.self.inside.slots.items c.args.conn c.leave.new.self (board_of c.args.self.now)
    (stand c) (at c).within _
    (c.leave.ensures.left ∙ ap (connection_after_unsubscribe c.args.channel.now) (at c).stands)

pub returns-clause-count : goal.returns-clause-count
returns-clause-count c =
    c.leave.ensures.count
    ∙ ap (λ (x : Connection). length (without_channel c.args.channel.now x)) (at c).stands
