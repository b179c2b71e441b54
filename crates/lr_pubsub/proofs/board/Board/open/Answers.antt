use Rattle.std.proofs.Common.{◌≡◌, ◌==◌, ◌<◌, ap, sym, ◌∙◌, false, not, arith, length}
use Rattle.lr_model.specs.Board.{Board, has_channel, is_open}
use Rattle.lr_pubsub.specs.BoardValue.{board_of}
use Rattle.lr_model.specs.Table.{put}
use Rattle.lr_pubsub.specs.ConnectionSet.{has_number}
use Rattle.lr_pubsub.specs.ConnectionSlot.{connection_at}
use Rattle.lr_pubsub.proofs.Boards.{IsBoard-set, board-changed, listed-same, no_channel, spare-touched, stands}
use Rattle.lr_pubsub.proofs.board.Board.open.Goals as goal

pub invariant_of-self : goal.invariant_of-self
invariant_of-self c =
    let slot = c.open.new.self in
    let free = has_number c.self.inside.free in
    let shut : is_open (connection_at c.self.inside.slots.items c.args.conn) ≡ false =
    ap (λ (b : Board). is_open (b c.args.conn)) (sym (stands _ _ _ c.self.view_is))
    ∙ c.requires.free in
    IsBoard-set c.self.invariant c.args.conn slot c.requires.number c.self.invariant.sent
    (c.remove.ensures
    ∙ ap (λ x. put ◌==◌ free c.args.conn (not (is_open x))) (sym c.open.ensures))
    (listed-same c.self.invariant c.args.conn slot c.requires.number
    (λ channel. ap (has_channel channel) c.open.ensures
    ∙ sym (no_channel c.self.invariant c.args.conn shut channel)))
    (λ channel has. absurd (cc (sym (ap (has_channel channel) c.open.ensures) ∙ has)))
    (spare-touched c.self.invariant c.args.conn slot c.requires.number _ c.add.ensures)

pub returns : goal.returns
returns c =
    let within : c.args.conn < length c.self.inside.slots.items =
    omega (arith, c.requires.number, c.self.invariant.numbered) in
    board-changed c.self.inside.slots.items c.args.conn c.open.new.self (board_of c.args.self.now)
    (stands _ _ _ c.self.view_is) within _ c.open.ensures
