-- A call of a world on a connection that may call: what the server answers, and its history
-- afterwards.
use Rattle.std.proofs.Common.{◌≡◌, ℕ, ◌≤◌, ◌<◌, List, length, false, if◌then◌else◌, nat_le, Option, Some, None, refl, ap, ◌∙◌}
use Rattle.lr_limits.specs.Limits.{entry_limit, last_moment}
use Rattle.lr_names.specs.declared.post.Post.{Post}
use Rattle.lr_objects.specs.declared.op.Op.{Op}
use Rattle.lr_objects.specs.declared.reply.Reply.{Reply}
use Rattle.lr_model.specs.declared.entry.Act.TheVariants.{Call}
use Rattle.lr_model.specs.declared.entry.Entry.{Entry}
use Rattle.lr_model.specs.Answer.{reply_of, post_of}
use Rattle.lr_model.specs.Board.{Board}
use Rattle.lr_model.specs.History.{State, after, MayFollow, Replies, call_entry}
use Rattle.lr_machine.specs.Shown.{reached_post}
use Rattle.lr_machine.specs.World.{first_state}
use Rattle.lr_server.specs.declared.answered.Answer.{Answer}
use Rattle.lr_server.specs.declared.answered.Answer.TheVariants as answers
use Rattle.lr_server.specs.declared.fault.StepFault.TheVariants as faults
use Rattle.lr_server.specs.Server.{ServerValue, state_of, connection_of, with_entry, entry_of, entry_made, with_made, result_made, post_made, told_by, fault_of, reached_of, dropped_of, is_only_subscribed}
use Rattle.lr_world.specs.Called.{reached_with}
use Rattle.lr_world.proofs.Servers.{connection_is, entry_is, not_full, state_is}

-- a message with the number of connections that it reaches
with_reached : (post : Option Post) (board : Board)
    → reached_with post (reached_of post board) ≡ reached_post board post
with_reached None board = refl
with_reached (Some post) board = refl

module _ (server : ServerValue) (moment caller conn : ℕ) (op : Op) (first : server.last ≡ 128)
    (may : MayFollow (after first_state server.entries) (call_entry moment caller conn op))
    (early : moment ≤ last_moment) where
  abbrev pub state : State
  state = after first_state server.entries

  abbrev pub made : Option Entry
  made = entry_made server moment caller conn (Call op)

  -- the connection has no channel
  calls : is_only_subscribed (Call op) (connection_of server conn) ≡ false
  calls =
      ap (λ channels. nat_le 1 (length channels))
      (ap (λ c. c.channels) (connection_is server first conn) ∙ may.allowed.quiet)

  -- the entry that is made
  pub made_is : made ≡ Some (call_entry moment caller conn op)
  made_is =
      ap (λ b. if b then None else Some (entry_of server moment caller conn (Call op))) calls
      ∙ ap Some (entry_is server first moment caller conn (Call op) may.in_time early)

  pub result_is : result_made server made ≡ Some (Replies (reply_of state.objects moment op))
  result_is =
      ap (result_made server) made_is
      ∙ ap (λ (s : State). Some (Replies (reply_of s.objects moment op)))
      (state_is server first)

  pub post_is : post_made server made ≡ post_of state.objects moment op
  post_is =
      ap (post_made server) made_is
      ∙ ap (λ (s : State). post_of s.objects moment op) (state_is server first)

  pub entry_made_is : with_made server made ≡ with_entry server (call_entry moment caller conn op)
  entry_made_is = ap (with_made server) made_is

  pub no_fault : length server.entries < entry_limit → fault_of server conn (Call op) ≡ None
  no_fault room =
      ap (λ b. if b then None
      else if nat_le entry_limit (length server.entries) then Some faults.HistoryFull
      else if (connection_of server conn).dropped then Some faults.Dropped else None) calls
      ∙ ap (λ b. if b then Some faults.HistoryFull
      else if (connection_of server conn).dropped then Some faults.Dropped else None)
      (not_full server room)
      ∙ ap (λ b. if b then Some faults.Dropped else None)
      (ap (λ c. c.dropped) (connection_is server first conn) ∙ may.allowed.kept)

  -- whom the message reaches, and whom it drops
  pub reached_so : (post : Option Post) (reached : ℕ) → post ≡ post_made server made
      → reached ≡ reached_of (post_made server made) (state_of server).board
      → reached_with post reached ≡ reached_post state.board (post_of state.objects moment op)
  reached_so post reached sent met =
      let met_is : reached ≡ reached_of (post_of state.objects moment op) state.board =
      met ∙ ap (λ p. reached_of p (state_of server).board) post_is
      ∙ ap (λ (s : State). reached_of (post_of state.objects moment op) s.board)
      (state_is server first) in
      ap (λ p. reached_with p reached) (sent ∙ post_is)
      ∙ ap (reached_with (post_of state.objects moment op)) met_is
      ∙ with_reached (post_of state.objects moment op) state.board

  pub dropped_so : (dropped : List ℕ)
      → dropped ≡ dropped_of (post_made server made) (state_of server).board
      → dropped ≡ dropped_of (post_of state.objects moment op) state.board
  dropped_so dropped is =
      is ∙ ap (λ p. dropped_of p (state_of server).board) post_is
      ∙ ap (λ (s : State). dropped_of (post_of state.objects moment op) s.board)
      (state_is server first)

-- the answer that tells a reply
pub reply_told : (answer : Answer) (reply : Reply) → told_by answer ≡ Some (Replies reply)
    → answer ≡ answers.Reply reply
reply_told (answers.Reply r) reply same = let one : r ≡ reply = cc in ap answers.Reply one
reply_told (answers.Queued count) reply same = absurd (cc same)
reply_told (answers.Look frame) reply same = absurd (cc same)
reply_told answers.OnlySubscribed reply same = absurd (cc same)

pub same_reply : (a b : Reply) → answers.Reply a ≡ answers.Reply b → a ≡ b
same_reply a b same = cc
