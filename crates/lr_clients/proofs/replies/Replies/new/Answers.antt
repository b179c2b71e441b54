use Rattle.std.proofs.Common.{ℕ, List, Option, None, take, replicate, ◌++◌, ◌-◌, vec_len, ap, ◌∙◌}
use Rattle.std.proofs.Math.Seq.{take-nil}
use Rattle.lr_objects.specs.declared.reply.Reply.{Reply}
use Rattle.lr_clients.proofs.Places.{replies-none}
use Rattle.lr_clients.proofs.replies.Replies.new.Goals as goal

pub returns : goal.returns
returns c =
    let places = c.new-places.result in
    replies-none c.resize.new.self.items 256
    (c.in_ok-resize.ensures.items
    ∙ ap (λ (l : List (Option Reply)). take 256 l ++ replicate (256 - vec_len places) None)
    c.new-places.ensures.items
    ∙ ap (λ (l : List (Option Reply)). l ++ replicate (256 - vec_len places) None) (take-nil 256)
    ∙ ap (λ (n : ℕ). replicate (256 - n) None) c.new-places.ensures.len)
