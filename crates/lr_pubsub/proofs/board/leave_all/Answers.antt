use Rattle.std.proofs.Common.{◌≡◌, ◌==◌, ◌+◌, ◌++◌, ◌||◌, ℕ, Bool, true, false, [], ◌∷◌, refl, ap, sym, ◌∙◌, take, cond}
use Rattle.std.specs.List.{list_any}
use Rattle.std.proofs.lemmas.List.{take_more}
use Rattle.std.proofs.lemmas.List.Folds.{list_any-append}
use Rattle.lr_model.specs.Board.{same_channel}
use Rattle.lr_model.specs.Table.{put}
use Rattle.lr_model.proofs.Tables.{one_table}
use Rattle.lr_pubsub.specs.Subscribers.{listeners}
use Rattle.lr_pubsub.proofs.board.leave_all.Goals as goal

-- leaving twice is leaving once
left_again : (conn : ℕ) (table : ℕ → Bool) → put ◌==◌ (put ◌==◌ table conn false) conn false
    ≡ put ◌==◌ table conn false
left_again conn table = one_table _ _ (λ k. by k (conn == k))
  where
    by : (k : ℕ) (b : Bool) → cond b false (cond b false (table k)) ≡ cond b false (table k)
    by k true = refl
    by k false = refl

-- one channel more is left
left_more : (conn : ℕ) (table : ℕ → Bool) (before here : Bool)
    → cond here (put ◌==◌ (cond before (put ◌==◌ table conn false) table) conn false)
    (cond before (put ◌==◌ table conn false) table)
    ≡ cond (before || (here || false)) (put ◌==◌ table conn false) table
left_more conn table true true = left_again conn table
left_more conn table true false = refl
left_more conn table false true = refl
left_more conn table false false = refl

pub loop-channel-preserved : goal.loop-channel-preserved
loop-channel-preserved c = λ q.
    let i = c.loop-channel.channel-index in
    let channels = c.args.channels.now in
    let conn = c.args.conn in
    let seen = list_any (same_channel q) (take i channels) in
    let table = listeners q c.args.subscribers.now.by_channel.entries in
    let more : take (i + 1) channels ≡ take i channels ++ c.channel-item.result ∷ [] =
    take_more channels i c.channel-item.result c.loop-channel-test.true
    ∙ ap (λ x. take i channels ++ x ∷ []) (sym c.channel-item.is) in
    c.remove.ensures q
    ∙ ap (λ (t : ℕ → Bool). cond (same_channel q c.channel-item.result) (put ◌==◌ t conn false) t)
    (c.loop-channel.invariant q)
    ∙ left_more conn table seen (same_channel q c.channel-item.result)
    ∙ ap (λ b. cond b (put ◌==◌ table conn false) table)
    (sym (ap (list_any (same_channel q)) more
    ∙ list_any-append (same_channel q) (take i channels) (c.channel-item.result ∷ [])))
