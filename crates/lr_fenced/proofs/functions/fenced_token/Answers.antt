use Rattle.std.proofs.Common.{sym, subst, ap, ◌∙◌, arith}
use Rattle.lr_keys.specs.KeySpace.{entry_at}
use Rattle.lr_objects.specs.declared.reply.Reply.TheVariants.{Count}
use Rattle.lr_fenced.specs.Step.{IsTokenAt}
use Rattle.lr_fenced.proofs.RunLemmas.{still_run}
use Rattle.lr_fenced.proofs.functions.fenced_token.Goals as goal

pub returns : goal.returns
returns c =
    let passed = c.advance.ensures in
    still_run c.args.keys.now _ (omega arith) (omega arith) c.args.name.now c.requires.name
    c.advance.new.self passed.moment passed.entries (Count c.new.result) (λ token. Count token)
    (λ token at. ap (λ n. Count n) (c.new.ensures ∙ c.last_token.ensures.token token
    (subst (λ key. IsTokenAt (entry_at c.advance.new.self key) token) (sym c.key.ensures.text) at)))
