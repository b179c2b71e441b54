use Rattle.std.proofs.Common.{◌&&◌, ℕ, not, slice_get, ap, sym, ◌∙◌}
use Rattle.std.proofs.lemmas.Bool.{lt-ltb}
use Rattle.lr_model.specs.Board.{is_open, numbers_below}
use Rattle.lr_pubsub.specs.BoardValue.{board_of}
use Rattle.lr_pubsub.specs.ConnectionSlot.{connection_at}
use Rattle.lr_pubsub.proofs.Boards.{stands}
use Rattle.lr_model.proofs.Numbers.{below_same}
use Rattle.lr_pubsub.proofs.board.Board.next_free.Goals as goal

pub returns : goal.returns
returns c =
    let stand = stands _ _ _ c.self.view_is in
    c.first.ensures.least
    ∙ ap (λ p. slice_get (numbers_below 256 p) 0) c.self.invariant.free
    ∙ ap (λ xs. slice_get xs 0)
    (below_same 256 _ (λ conn. not (is_open (board_of c.args.self.now conn))) (λ conn below.
    ap (λ b. b && not (is_open (connection_at c.self.inside.slots.items conn)))
    (lt-ltb conn 256 below)
    ∙ sym (ap (λ (b : ℕ → _). not (is_open (b conn))) stand)))
