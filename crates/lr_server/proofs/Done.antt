-- What a call does, as the act of an entry.
use Rattle.std.proofs.Common.{◌≡◌, ℕ, Option, Some, Result, Ok, Err, IfOk, sym, ap, subst, ◌∙◌}
use Rattle.lr_names.specs.declared.post.Post.{Post}
use Rattle.lr_objects.specs.declared.op.Op.{Op}
use Rattle.lr_objects.specs.declared.reply.Reply.{Reply}
use Rattle.lr_keys.specs.KeySpace.{Keys}
use Rattle.lr_model.specs.declared.entry.Act.{Act}
use Rattle.lr_model.specs.declared.entry.Act.TheVariants.{Call}
use Rattle.lr_model.specs.declared.entry.Entry.{Entry}
use Rattle.lr_model.specs.Answer.{post_of}
use Rattle.lr_model.specs.Board.{board_after_post}
use Rattle.lr_model.specs.History.{State, Replies, call_entry}
use Rattle.lr_pubsub.specs.BoardValue.{BoardValue, board_of}
use Rattle.lr_server.specs.declared.answered.Answered.{Answered}
use Rattle.lr_server.specs.Server.{told_by, reached_of, dropped_of}
use Rattle.lr_server.specs.Stands.{StateStands}
use Rattle.lr_server.specs.Done.{HasRun, IsSent, IsDone}

-- a function ran and its message was sent: so the act of its entry was done
pub call_done : (keys keys2 : Keys) (board board2 : BoardValue) (moment : ℕ) (op : Op)
    (reply : Reply) (post : Option Post) (answered : Answered)
    → HasRun keys keys2 moment op reply post → IsSent board board2 reply post answered
    → (state : State) (caller conn : ℕ) → StateStands keys board state
    → IsDone state (call_entry moment caller conn op) answered keys2 board2
call_done keys keys2 board board2 moment op reply post answered run sent state caller conn stands =
    let post_is = run.posts state.objects stands.keys_stand in
    record {
      told = record {
        answer = ap told_by sent.answer
            ∙ ap (λ r. Some (Replies r)) (run.replies state.objects stands.keys_stand);
        post = sent.post ∙ post_is;
        reached = sent.reached ∙ ap (λ p. reached_of p (board_of board)) post_is
            ∙ ap (reached_of (post_of state.objects moment op)) stands.board_is;
        dropping = sent.dropping ∙ ap (λ p. dropped_of p (board_of board)) post_is
            ∙ ap (dropped_of (post_of state.objects moment op)) stands.board_is;
      };
      stands = record {
        keys_stand = run.stands state.objects stands.keys_stand;
        board_is = sent.board ∙ ap (λ p. board_after_post p (board_of board)) post_is
            ∙ ap (board_after_post (post_of state.objects moment op)) stands.board_is;
      };
      in_time = run.in_time;
    }

-- an entry whose act is a call is the call's
pub done_as_call : {E : Type 0} (result : Result Answered E) (keys keys2 : Keys)
    (board board2 : BoardValue) (moment caller conn : ℕ) (act : Act) (entry : Entry) (op : Op)
    → record { moment = moment; caller = caller; conn = conn; act = act } ≡ entry → act ≡ Call op
    → IfOk result (λ a. (state : State) (caller conn : ℕ) → StateStands keys board state
    → IsDone state (call_entry moment caller conn op) a keys2 board2)
    → IfOk result (λ a. (state : State) → StateStands keys board state
    → IsDone state entry a keys2 board2)
done_as_call (Ok a) keys keys2 board board2 moment caller conn act entry op shown is done =
    λ state stands.
    let entry_by : Act → Entry =
    λ b. record { moment = moment; caller = caller; conn = conn; act = b } in
    let of_act : IsDone state (entry_by act) a keys2 board2 =
    subst (λ (b : Act). IsDone state (entry_by b) a keys2 board2) (sym is)
    (done state caller conn stands) in
    subst (λ (e : Entry). IsDone state e a keys2 board2) shown of_act
done_as_call (Err fault) keys keys2 board board2 moment caller conn act entry op shown is done = tt
