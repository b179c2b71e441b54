-- one part more of the piece
use Rattle.std.proofs.Common.{◌≡◌, ◌++◌, ap, ◌∙◌, sym, subst, ℕ, List, append_assoc, take-append-drop}
use Rattle.lr_program.specs.Recent.{IsRecentOf}
use Rattle.lr_program.proofs.recent_bytes.RecentBytes.remember.Goals as goal

pub loop-rest-preserved : goal.loop-rest-preserved
loop-rest-preserved c =
    let before = c.loop-rest.invariant in
    let front = c.split_at.result.0.now in
    let parts : c.loop-rest.rest.now ≡ front ++ c.split_at.result.1.now =
    sym (take-append-drop c.min.result c.loop-rest.rest.now) ∙ cc in
    let Is : List ℕ → Type 0 = λ text. IsRecentOf text c.append.new.self in
    let later = c.split_at.result.1.now in (
      before.0 ++ front,
      before.1 ∙ ap (λ l. before.0 ++ l) parts ∙ sym (append_assoc before.0 front later),
      λ text is.
          let now = c.append.ensures (text ++ before.0) (before.2 text is) in
          subst Is (append_assoc text before.0 front) now,
    )
