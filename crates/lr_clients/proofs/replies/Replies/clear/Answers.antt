use Rattle.std.proofs.Common.{ℕ, List, Option, None, Result, is_ok, take, replicate, ◌++◌, ◌-◌, vec_len, if◌then◌else◌, ap, ◌∙◌}
use Rattle.std.proofs.Math.Seq.{take-nil}
use Rattle.std.specs.declared.alloc.AllocError.{AllocError}
use Rattle.lr_objects.specs.declared.reply.Reply.{Reply}
use Rattle.lr_clients.proofs.Places.{replies-none}
use Rattle.lr_clients.proofs.replies.Replies.clear.Goals as goal

pub returns : goal.returns
returns c =
    let places = c.clear.new.self in
    replies-none c.resize.new.self.items 256
    (c.resize.ensures.items
    ∙ ap (λ (r : Result (Unit {0}) AllocError). if is_ok r
    then take 256 places.items ++ replicate (256 - vec_len places) None else places.items)
    c.unwrap.ensures
    ∙ ap (λ (l : List (Option Reply)). take 256 l ++ replicate (256 - vec_len places) None)
    c.clear.ensures.items
    ∙ ap (λ (l : List (Option Reply)). l ++ replicate (256 - vec_len places) None) (take-nil 256)
    ∙ ap (λ (n : ℕ). replicate (256 - n) None) c.clear.ensures.len)
