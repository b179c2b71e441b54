use Rattle.std.proofs.Common.{◌≡◌, ◌∙◌, ◌==◌, ℕ, Bool, Some, None, is_some, cond, ap, sym, refl, true, false}
use Rattle.lr_model.specs.Table.{put}
use Rattle.lr_model.proofs.Tables.{one_table}
use Rattle.lr_pubsub.specs.Subscribers.{listeners}
use Rattle.lr_pubsub.proofs.Listeners.{found, listeners_change, listeners_get, listeners_keep, put_put}
use Rattle.lr_pubsub.proofs.subscribers.Subscribers.remove.Goals as goal

-- to take a number from none leaves none
none_without : (conn : ℕ) → (λ (k : ℕ). false) ≡ put ◌==◌ (λ (k : ℕ). false) conn false
none_without conn = one_table _ _ (λ k. by (conn == k))
  where
    by : (b : Bool) → false ≡ cond b false false
    by true = refl
    by false = refl

pub returns-in_default : goal.returns-in_default
returns-in_default c = λ q.
    let rows = c.args.self.now.by_channel.entries in
    let change : (ℕ → Bool) → ℕ → Bool = λ table. put ◌==◌ table c.args.conn false in
    let nobody = listeners_get c.args.channel.now rows
    ∙ ap found (sym c.in_default.ensures.value) in
    ap (λ m. listeners q m.entries) c.get_mut.follows.holds-at-none
    ∙ listeners_keep change c.args.channel.now rows
    (nobody ∙ none_without c.args.conn ∙ ap change (sym nobody)) q

pub returns-then-is_empty : goal.returns-then-is_empty
returns-then-is_empty c =
    let rows = c.args.self.now.by_channel.entries in
    let change : (ℕ → Bool) → ℕ → Bool = λ table. put ◌==◌ table c.args.conn false in
    let was = ap found c.in-Some.ensures.value ∙ sym (listeners_get c.args.channel.now rows) in
    let writes =
    (c.get_mut.follows.holds c.remove.new.self).3 (ap is_some (sym c.in-Some.ensures.value)) in
    let sets = put_put c.args.channel.now (Some c.remove.new.self) None rows
    (c.get_mut.follows.lender c.remove.new.self).entries c.swap_remove.new.self.entries writes.0
    c.swap_remove.ensures.updates.0 in
    listeners_change change c.args.channel.now None rows c.swap_remove.new.self.entries sets
    (sym (c.is_empty.ensures.0 c.if-is_empty.true) ∙ c.remove.ensures ∙ ap change was)

pub returns-else-is_empty : goal.returns-else-is_empty
returns-else-is_empty c =
    let rows = c.args.self.now.by_channel.entries in
    let change : (ℕ → Bool) → ℕ → Bool = λ table. put ◌==◌ table c.args.conn false in
    let was = ap found c.in-Some.ensures.value ∙ sym (listeners_get c.args.channel.now rows) in
    let writes =
    (c.get_mut.follows.holds c.remove.new.self).3 (ap is_some (sym c.in-Some.ensures.value)) in
    listeners_change change c.args.channel.now (Some c.remove.new.self) rows
    (c.get_mut.follows.lender c.remove.new.self).entries writes.0 (c.remove.ensures ∙ ap change was)
