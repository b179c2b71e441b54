use Rattle.std.proofs.Common.{◌≡◌, ap, sym, ◌∙◌, subst, IsTrue, [], ◌∷◌, ◌++◌, length}
use Rattle.lr_model.specs.Board.{Connection, is_open}
use Rattle.lr_pubsub.specs.BoardValue.{board_of}
use Rattle.lr_pubsub.specs.Connection.{is_usable}
use Rattle.lr_pubsub.specs.ConnectionSlot.{connection_at}
use Rattle.lr_pubsub.proofs.Boards.{IsBoard-set, IsSlot, IsSlot-read, board-changed, free-same, listed-gained, not_shut, spare-touched, stands}
use Rattle.lr_pubsub.proofs.Subscriptions.{after_join, after_join-subscribe, with_channel-new}
use Rattle.lr_pubsub.proofs.board.Board.add_channel.Goals as goal

stand : (c : goal.After-self-2-1) → board_of c.args.self.now
    ≡ connection_at c.self.inside.slots.items
stand c = stands _ _ _ c.self.view_is

at : (c : goal.After-self-2-1)
    → IsSlot c.self.inside.slots.items (board_of c.args.self.now) c.args.conn c.index_mut.result.now
at c =
    IsSlot-read c.self.invariant (board_of c.args.self.now) (stand c) c.args.conn c.requires.opened
    c.index_mut.result.now c.index_mut.ensures.value

pub invariant_of-self : goal.invariant_of-self
invariant_of-self c =
    let channel = c.args.channel.now in
    let slot = c.join.new.self in
    let made = c.join.ensures.joined ∙ ap (λ s. after_join channel s.connection) (at c).is in
    let can = not_shut (board_of c.args.self.now c.args.conn) c.requires.takes c.requires.opened in
    IsBoard-set c.self.invariant c.args.conn slot (at c).below c.self.invariant.sent
    (free-same c.self.invariant c.args.conn slot (at c).below (ap is_open made))
    (listed-gained c.self.invariant c.args.conn slot (at c).below _ channel c.add-2.ensures
    (ap (λ x. x.channels) made))
    (λ q has.
    subst (λ (x : Connection). IsTrue (is_usable x))
    (sym (c.join.ensures.joined ∙ ap (after_join channel) (at c).stands)) can.0)
    (spare-touched c.self.invariant c.args.conn slot (at c).below _ c.add.ensures)

pub returns-clause-board : goal.returns-clause-board
returns-clause-board c =
    let connection = board_of c.args.self.now c.args.conn in
    board-changed c.self.inside.slots.items c.args.conn c.join.new.self (board_of c.args.self.now)
    (stand c) (at c).within _
    (c.join.ensures.joined ∙ ap (after_join c.args.channel.now) (at c).stands
    ∙ after_join-subscribe c.args.channel.now connection c.requires.absent)

pub returns-clause-count : goal.returns-clause-count
returns-clause-count c =
    let channel = c.args.channel.now in
    let connection = board_of c.args.self.now c.args.conn in
    c.join.ensures.count
    ∙ ap (λ (x : Connection). length (x.channels ++ channel ∷ [])) (at c).stands
    ∙ ap length (with_channel-new channel connection c.requires.absent)
