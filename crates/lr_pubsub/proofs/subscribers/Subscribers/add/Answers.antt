use Rattle.std.proofs.Common.{◌∙◌, ◌==◌, ℕ, Bool, Some, is_some, if◌then◌else◌, ap, sym, true, false}
use Rattle.lr_model.specs.Board.{same_channel}
use Rattle.lr_model.specs.Table.{put}
use Rattle.lr_pubsub.specs.Subscribers.{listeners}
use Rattle.lr_pubsub.proofs.Listeners.{changed-nobody, found, listeners_change, listeners_get}
use Rattle.lr_pubsub.proofs.subscribers.Subscribers.add.Goals as goal

pub add_channel-requires-clause-nobody : goal.add_channel-requires-clause-nobody
add_channel-requires-clause-nobody c =
    ap (λ m. listeners c.args.channel.now m.entries) c.get_mut.follows.holds-at-none
    ∙ listeners_get c.args.channel.now c.args.self.now.by_channel.entries
    ∙ ap found (sym c.in-None.ensures.value)

pub returns-in-Some : goal.returns-in-Some
returns-in-Some c =
    let rows = c.args.self.now.by_channel.entries in
    let writes =
    (c.get_mut.follows.holds c.add.new.self).3 (ap is_some (sym c.in-Some.ensures.value)) in
    let was = ap found c.in-Some.ensures.value ∙ sym (listeners_get c.args.channel.now rows) in
    listeners_change (λ table. put ◌==◌ table c.args.conn true) c.args.channel.now
    (Some c.add.new.self) rows
    (c.get_mut.follows.lender c.add.new.self).entries writes.0
    (c.add.ensures ∙ ap (λ (table : ℕ → Bool). put ◌==◌ table c.args.conn true) was)

pub returns-in-None : goal.returns-in-None
returns-in-None c = λ q.
    let rows = c.args.self.now.by_channel.entries in
    let change : (ℕ → Bool) → ℕ → Bool = λ table. put ◌==◌ table c.args.conn true in
    let nobody = listeners_get c.args.channel.now rows ∙ ap found (sym c.in-None.ensures.value) in
    c.add_channel.ensures q
    ∙ ap (λ m. if same_channel q c.args.channel.now then change
    (λ _. false) else listeners q m.entries) c.get_mut.follows.holds-at-none
    ∙ changed-nobody change c.args.channel.now rows nobody q
