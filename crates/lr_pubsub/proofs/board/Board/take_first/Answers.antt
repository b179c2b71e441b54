use Rattle.std.proofs.Common.{◌≡◌, ap, ◌∙◌, take}
use Rattle.lr_model.specs.Board.{Connection, connection_after_drain}
use Rattle.lr_pubsub.specs.BoardValue.{board_of}
use Rattle.lr_pubsub.specs.ConnectionSlot.{connection_at}
use Rattle.lr_pubsub.proofs.Boards.{IsBoard-outbox, IsSlot, IsSlot-read, board-changed, by_result, stands}
use Rattle.std.proofs.lemmas.Result.{IfOk-weaker, on_ok_weaker, on_err_weaker}
use Rattle.lr_pubsub.proofs.Slots.{connections_of-like}
use Rattle.lr_pubsub.proofs.board.Board.take_first.Goals as goal

stand : (c : goal.After-self-2-1) → board_of c.args.self.now
    ≡ connection_at c.self.inside.slots.items
stand c = stands _ _ _ c.self.view_is

at : (c : goal.After-self-2-1)
    → IsSlot c.self.inside.slots.items (board_of c.args.self.now) c.args.conn c.index_mut.result.now
at c =
    IsSlot-read c.self.invariant (board_of c.args.self.now) (stand c) c.args.conn c.requires
    c.index_mut.result.now c.index_mut.ensures.value

pub invariant_of-self : goal.invariant_of-self
invariant_of-self c =
    let was = ap (λ s. s.connection) (at c).is in
    by_result c.drain.result c.drain.ensures.ok c.drain.ensures.err
    (λ made.
    IsBoard-outbox c.self.invariant c.args.conn c.drain.new.self (at c).below
    (ap (λ x. x.opener) made ∙ ap (λ x. x.opener) was)
    (ap (λ x. x.channels) made ∙ ap (λ x. x.channels) was)
    (ap (λ x. x.dropped) made ∙ ap (λ x. x.dropped) was)
    c.add.ensures c.self.invariant.sent)
    (λ same.
    IsBoard-outbox c.self.invariant c.args.conn c.drain.new.self (at c).below
    (ap (λ x. x.opener) (same ∙ was)) (ap (λ x. x.channels) (same ∙ was))
    (ap (λ x. x.dropped) (same ∙ was))
    c.add.ensures c.self.invariant.sent)

pub returns-clause-ok : goal.returns-clause-ok
returns-clause-ok c =
    on_ok_weaker c.drain.result
    (λ made.
    board-changed c.self.inside.slots.items c.args.conn c.drain.new.self (board_of c.args.self.now)
    (stand c) (at c).within _ (made ∙ ap (connection_after_drain c.args.most) (at c).stands))
    c.drain.ensures.ok

pub returns-clause-items : goal.returns-clause-items
returns-clause-items c =
    IfOk-weaker c.drain.result _ _
    (λ items are. are ∙ ap (λ (x : Connection). take c.args.most x.outbox) (at c).stands)
    c.drain.ensures.items

pub returns-clause-err : goal.returns-clause-err
returns-clause-err c =
    on_err_weaker c.drain.result
    (λ same.
    connections_of-like c.self.inside.slots.items c.args.conn c.index_mut.result.now
    c.drain.new.self c.index_mut.ensures.value same
    ∙ ap (λ v. v.connections) c.self.view_is)
    c.drain.ensures.err
