use Rattle.std.proofs.Common.{◌≡◌, ◌∙◌, ◌==◌, ℕ, Bool, Some, Result, Ok, Err, OnOk, if◌then◌else◌, ap, true}
use Rattle.lr_model.specs.Board.{same_channel}
use Rattle.lr_model.specs.Table.{put}
use Rattle.lr_pubsub.specs.Subscribers.{listeners}
use Rattle.lr_pubsub.proofs.Listeners.{listeners_set}
use Rattle.lr_pubsub.proofs.subscribers.Subscribers.add_channel.Goals as goal

of_ok : {T E P : Type 0} (r : Result T E) (x : T) → r ≡ Ok x → OnOk r P → P
of_ok (Ok y) x e there = there
of_ok (Err y) x e there = absurd (cc e)

pub returns : goal.returns
returns c = λ q.
    let rows = c.args.self.now.by_channel.entries in
    let one = c.add.ensures
    ∙ ap (λ (table : ℕ → Bool). put ◌==◌ table c.args.conn true) c.empty-numbers.ensures in
    let updates = of_ok c.insert.result c.unwrap.result c.unwrap.ensures c.insert.ensures.updates in
    listeners_set c.args.channel.now
    (Some c.add.new.self) rows c.insert.new.self.entries updates.0 q
    ∙ ap (λ (table : ℕ → Bool). if same_channel q c.args.channel.now then table else listeners q
    rows) one
