use Rattle.std.proofs.Common.{◌≡◌, ◌==◌, ap, sym, ◌∙◌, not}
use Rattle.lr_model.specs.Board.{has_channel, is_open}
use Rattle.lr_pubsub.specs.BoardValue.{board_of}
use Rattle.lr_model.specs.Table.{put}
use Rattle.lr_pubsub.specs.Connection.{is_usable}
use Rattle.lr_pubsub.specs.ConnectionSet.{has_number}
use Rattle.lr_pubsub.specs.ConnectionSlot.{connection_at}
use Rattle.lr_pubsub.proofs.Boards.{IsBoard-set, IsSlot, IsSlot-read, board-changed, listed-left, spare-unusable, stands}
use Rattle.lr_pubsub.proofs.board.Board.close.Goals as goal

stand : (c : goal.After-drop-index_mut-2) → board_of c.args.self.now
    ≡ connection_at c.self.inside.slots.items
stand c = stands _ _ _ c.self.view_is

at : (c : goal.After-drop-index_mut-2)
    → IsSlot c.self.inside.slots.items (board_of c.args.self.now) c.args.conn c.index.result.now
at c =
    IsSlot-read c.self.invariant (board_of c.args.self.now) (stand c) c.args.conn c.requires
    c.index.result.now c.index.ensures

pub invariant_of-self : goal.invariant_of-self
invariant_of-self c =
    let slot = c.closed.result in
    let free = has_number c.self.inside.free in
    IsBoard-set c.self.invariant c.args.conn slot (at c).below c.self.invariant.sent
    (c.add.ensures
    ∙ ap (λ x. put ◌==◌ free c.args.conn (not (is_open x))) (sym c.closed.ensures))
    (listed-left c.self.invariant c.args.conn slot (at c).below _ c.channels.result.now
    c.leave_all.ensures
    (c.channels.ensures ∙ ap (λ s. s.connection.channels) (at c).is)
    (ap (λ x. x.channels) c.closed.ensures))
    (λ channel has. absurd (cc (sym (ap (has_channel channel) c.closed.ensures) ∙ has)))
    (spare-unusable c.self.invariant c.args.conn slot (at c).below (ap is_usable c.closed.ensures))

pub returns : goal.returns
returns c =
    board-changed c.self.inside.slots.items c.args.conn c.closed.result (board_of c.args.self.now)
    (stand c) (at c).within _ c.closed.ensures
