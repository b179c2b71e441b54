use Rattle.std.proofs.Common.{◌≡◌, ◌+◌, ◌++◌, ◌∷◌, [], if◌then◌else◌, ℕ, List, Vec, Global, Bool, sym, ap, subst, ◌∙◌}
use Rattle.std.proofs.lemmas.List.{append-nil}
use Rattle.lr_model.specs.Board.{numbers_below}
use Rattle.lr_waiting.specs.Session.{has_timer}
use Rattle.lr_session.specs.Value.{AreRequests, SessionValue, waiter_of}
use Rattle.lr_session.proofs.ThreadRequests.{none-at_zero}
use Rattle.lr_session.proofs.Joined.{below-first, below-next}
use Rattle.lr_session.proofs.state.SessionState.tick.Goals as goal
use Rattle.lr_session.proofs.state.SessionState.tick.Goals.{then-has_timer+in_ok-push, else-has_timer}

pub loop-looked-init : goal.loop-looked-init
loop-looked-init c =
    let test : ℕ → Bool = λ t. has_timer c.args.moment (waiter_of c.self.inside.waiters t) in
    let requests = subst (λ (v : SessionValue). AreRequests v.waiters) (sym c.self.view_is)
    c.check_requests.ensures.requests in
    c.new-due.ensures.items
    ∙ sym (below-first test
    (ap (has_timer c.args.moment) (none-at_zero c.self.inside.waiters requests)))

pub loop-looked-preserved : goal.loop-looked-preserved
loop-looked-preserved c =
    let test : ℕ → Bool = λ t. has_timer c.args.moment (waiter_of c.self.inside.waiters t) in
    let thread = c.loop-looked.looked + 1 in
    let found : test thread ≡ c.has_timer.result =
    sym (ap (has_timer c.args.moment) c.get.ensures.value) ∙ sym c.has_timer.ensures in
    let more = below-next thread test in
    elim c.if-has_timer.branch [
      | then-has_timer+in_ok-push w ↦
          ap (λ (v : Vec ℕ Global). v.items) w.due-is ∙ w.in_ok-push.ensures.items
          ∙ ap (λ (l : List ℕ). l ++ thread ∷ []) c.loop-looked.invariant
          ∙ sym (more
          ∙ ap (λ (b : Bool). numbers_below thread test ++ (if b then thread ∷ [] else []))
          (found ∙ w.if-has_timer.true))
      | else-has_timer w ↦
          ap (λ (v : Vec ℕ Global). v.items) w.due-is ∙ c.loop-looked.invariant
          ∙ sym (more
          ∙ ap (λ (b : Bool). numbers_below thread test ++ (if b then thread ∷ [] else []))
          (found ∙ w.if-has_timer.false)
          ∙ append-nil (numbers_below thread test))
    ]
