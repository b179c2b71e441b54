use Rattle.std.proofs.Common.{◌≡◌, ap, ◌∙◌, length}
use Rattle.lr_model.specs.Board.{Connection}
use Rattle.lr_pubsub.specs.BoardValue.{board_of}
use Rattle.lr_pubsub.specs.ConnectionSlot.{connection_at}
use Rattle.lr_pubsub.proofs.Boards.{IsBoard-outbox, IsSlot, IsSlot-read, board-changed, stands}
use Rattle.lr_pubsub.proofs.Subscriptions.{after_repeat, after_repeat-subscribe, with_channel-had}
use Rattle.lr_pubsub.proofs.board.Board.acknowledge.Goals as goal

stand : (c : goal.After-self-2-1) → board_of c.args.self.now
    ≡ connection_at c.self.inside.slots.items
stand c = stands _ _ _ c.self.view_is

at : (c : goal.After-self-2-1)
    → IsSlot c.self.inside.slots.items (board_of c.args.self.now) c.args.conn c.index_mut.result.now
at c =
    IsSlot-read c.self.invariant (board_of c.args.self.now) (stand c) c.args.conn c.requires.opened
    c.index_mut.result.now c.index_mut.ensures.value

pub invariant_of-self : goal.invariant_of-self
invariant_of-self c =
    let told = c.acknowledge.ensures.told
    ∙ ap (λ s. after_repeat c.args.channel.now s.connection) (at c).is in
    IsBoard-outbox c.self.invariant c.args.conn c.acknowledge.new.self (at c).below
    (ap (λ x. x.opener) told) (ap (λ x. x.channels) told) (ap (λ x. x.dropped) told)
    c.add.ensures c.self.invariant.sent

pub returns-clause-board : goal.returns-clause-board
returns-clause-board c =
    let connection = board_of c.args.self.now c.args.conn in
    board-changed c.self.inside.slots.items c.args.conn c.acknowledge.new.self
    (board_of c.args.self.now) (stand c) (at c).within _
    (c.acknowledge.ensures.told ∙ ap (after_repeat c.args.channel.now) (at c).stands
    ∙ after_repeat-subscribe c.args.channel.now connection c.requires.had)

pub returns-clause-count : goal.returns-clause-count
returns-clause-count c =
    let connection = board_of c.args.self.now c.args.conn in
    c.acknowledge.ensures.count ∙ ap (λ (x : Connection). length x.channels) (at c).stands
    ∙ ap length (with_channel-had c.args.channel.now connection c.requires.had)
