use Rattle.std.proofs.Common.{Some, IsTrue, ap, sym, ◌∙◌}
use Rattle.std.proofs.lemmas.List.Elements.{All-same}
use Rattle.lr_model.specs.Board.{board_after_post, dropped_by, is_open, reached_by}
use Rattle.lr_pubsub.specs.Delivery.{board_after_drops}
use Rattle.lr_pubsub.specs.ConnectionSlot.{connection_at}
use Rattle.lr_pubsub.proofs.Boards.{stands}
use Rattle.lr_pubsub.proofs.Posts.{posted-board, posted-dropped, posted-open, posted-reached}
use Rattle.lr_pubsub.proofs.Slots.{board-shown, shown}
use Rattle.lr_pubsub.proofs.board.Board.deliver.Goals as goal

pub drop_all-requires : goal.drop_all-requires
drop_all-requires c =
    let are = c.listeners-listeners.ensures ∙ c.self.invariant.listed c.args.post.now.channel in
    let slots = c.tell_all-reached.new.slots.items in
    All-same (λ k. IsTrue (is_open (shown slots k))) c.as_slice.result.now _
    (c.as_slice.ensures.value ∙ c.take_numbers-dropped.ensures.taken
    ∙ c.tell_all-reached.ensures.full)
    (posted-open c.self.invariant c.args.post.now _ are slots c.tell_all-reached.ensures.told)

pub returns-clause-board : goal.returns-clause-board
returns-clause-board c =
    let are = c.listeners-listeners.ensures ∙ c.self.invariant.listed c.args.post.now.channel in
    c.drop_all.ensures
    ∙ ap (board_after_drops c.as_slice.result.now) (board-shown c.tell_all-reached.new.slots.items)
    ∙ posted-board c.self.invariant c.args.post.now _ are
    (connection_at c.tell_all-reached.new.slots.items) c.as_slice.result.now
    c.tell_all-reached.ensures.told
    (c.as_slice.ensures.value ∙ c.take_numbers-dropped.ensures.taken
    ∙ c.tell_all-reached.ensures.full)
    ∙ ap (board_after_post (Some c.args.post.now)) (sym (stands _ _ _ c.self.view_is))

pub returns-clause-reached : goal.returns-clause-reached
returns-clause-reached c =
    let are = c.listeners-listeners.ensures ∙ c.self.invariant.listed c.args.post.now.channel in
    c.tell_all-reached.ensures.reached
    ∙ posted-reached c.self.invariant c.args.post.now _ are
    ∙ ap (reached_by c.args.post.now) (sym (stands _ _ _ c.self.view_is))

pub returns-clause-dropped : goal.returns-clause-dropped
returns-clause-dropped c =
    let are = c.listeners-listeners.ensures ∙ c.self.invariant.listed c.args.post.now.channel in
    c.of.ensures ∙ c.take_numbers-dropped.ensures.taken ∙ c.tell_all-reached.ensures.full
    ∙ posted-dropped c.self.invariant c.args.post.now _ are
    ∙ ap (dropped_by c.args.post.now) (sym (stands _ _ _ c.self.view_is))
