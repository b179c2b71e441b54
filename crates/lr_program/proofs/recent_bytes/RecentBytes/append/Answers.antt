-- the same text, and then the piece
use Rattle.lr_program.proofs.RecentLaws.{IsRecentOf-longer}
use Rattle.lr_program.proofs.recent_bytes.RecentBytes.append.Goals as goal

pub returns : goal.returns
returns c text is =
    IsRecentOf-longer text c.args.piece.now c.make_room.new.self c.push.new.self
    c.push.ensures.bytes c.push.ensures.passed (c.make_room.ensures.same text is)
