use Rattle.std.proofs.Common.{Some, sym, ap, ◌∙◌}
use Rattle.lr_names.specs.Post.{post_to}
use Rattle.lr_fair.proofs.TurnLemmas.{none-post, some-post}
use Rattle.lr_fair.proofs.steps.first_post.Goals as goal

pub returns-in_err-first : goal.returns-in_err-first
returns-in_err-first c = λ queue at.
    c.from_residual.ensures
    ∙ none-post c.args.name.now queue (sym (c.first_owner.ensures queue at) ∙ c.in_err-first.was)

pub returns : goal.returns
returns c = λ queue at.
    ap (λ p. Some p) c.to.ensures ∙ ap (λ ch. Some (post_to ch)) c.fair.ensures
    ∙ some-post c.args.name.now queue c.in_ok-first.first
    (sym (c.first_owner.ensures queue at) ∙ c.in_ok-first.was)
