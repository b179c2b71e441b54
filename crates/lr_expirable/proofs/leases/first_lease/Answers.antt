use Rattle.std.proofs.Common.{◌≡◌, Option, Some, IfSome, Ok, ℕ, None, sym, subst, ap, ◌∙◌}
use Rattle.std.specs.Result.{result_unwrap_or}
use Rattle.lr_sorted.specs.Members.{Scored}
use Rattle.lr_keys.specs.KeySpace.{entry_at, score_at}
use Rattle.lr_expirable.proofs.ChangeLemmas.{first-seen}
use Rattle.lr_keys.proofs.SortedKeyLaws.{first-there}
use Rattle.lr_expirable.proofs.leases.first_lease.Goals as goal

pub returns-clause-first : goal.returns-clause-first
returns-clause-first c = λ members stands.
    c.unwrap_or.ensures ∙ ap (λ r. result_unwrap_or r None) c.zindex.ensures
    ∙ first-seen (entry_at c.args.keys.now c.args.key.now) members stands

pub returns-clause-there : goal.returns-clause-there
returns-clause-there c =
    let entry = entry_at c.args.keys.now c.args.key.now in
    subst (λ (found : Option Scored). IfSome found
    (λ first. (score : ℕ) × (score_at first.0 entry ≡ Ok (Some score))))
    (sym (c.unwrap_or.ensures ∙ ap (λ r. result_unwrap_or r None) c.zindex.ensures))
    (first-there entry)
