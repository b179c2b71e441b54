use Rattle.std.proofs.Common.{◌≡◌, ◌&&◌, false, ap, sym, ◌∙◌}
use Rattle.lr_model.specs.Board.{dropped_connection, has_channel, is_open}
use Rattle.lr_pubsub.specs.BoardValue.{board_of}
use Rattle.lr_pubsub.specs.Connection.{is_usable}
use Rattle.lr_pubsub.specs.ConnectionSlot.{connection_at}
use Rattle.lr_pubsub.proofs.Boards.{IsBoard-set, IsSlot, IsSlot-read, board-changed, free-same, listed-left, spare-unusable, stands}
use Rattle.lr_pubsub.proofs.board.Board.drop_out.Goals as goal

stand : (c : goal.After-self-2-1) → board_of c.args.self.now
    ≡ connection_at c.self.inside.slots.items
stand c = stands _ _ _ c.self.view_is

at : (c : goal.After-self-2-1)
    → IsSlot c.self.inside.slots.items (board_of c.args.self.now) c.args.conn c.index_mut.result.now
at c =
    IsSlot-read c.self.invariant (board_of c.args.self.now) (stand c) c.args.conn c.requires
    c.index_mut.result.now c.index_mut.ensures.value

pub invariant_of-self : goal.invariant_of-self
invariant_of-self c =
    let slot = c.drop_out.new.self in
    let first = IsSlot-read c.self.invariant (board_of c.args.self.now) (stand c) c.args.conn
    c.requires c.index.result.now c.index.ensures in
    IsBoard-set c.self.invariant c.args.conn slot (at c).below c.self.invariant.sent
    (free-same c.self.invariant c.args.conn slot (at c).below
    (ap is_open c.drop_out.ensures ∙ ap (λ s. is_open s.connection) (at c).is))
    (listed-left c.self.invariant c.args.conn slot (at c).below _ c.channels.result.now
    c.leave_all.ensures
    (c.channels.ensures ∙ ap (λ s. s.connection.channels) first.is)
    (ap (λ x. x.channels) c.drop_out.ensures))
    (λ channel has. absurd (cc (sym (ap (has_channel channel) c.drop_out.ensures) ∙ has)))
    (spare-unusable c.self.invariant c.args.conn slot (at c).below
    (ap is_usable c.drop_out.ensures ∙ ap (λ b. b && false) (at c).open_))

pub returns : goal.returns
returns c =
    board-changed c.self.inside.slots.items c.args.conn c.drop_out.new.self
    (board_of c.args.self.now) (stand c) (at c).within _
    (c.drop_out.ensures ∙ ap dropped_connection (at c).stands)
