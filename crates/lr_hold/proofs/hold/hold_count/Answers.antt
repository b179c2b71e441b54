use Rattle.std.proofs.Common.{◌≡◌, Ok, sym, ap, ◌∙◌, pos}
use Rattle.lr_keys.specs.KeySpace.{entry_at, field_at}
use Rattle.lr_hold.specs.Step.{hold_count}
use Rattle.lr_hold.proofs.CountLemmas.{hold_count-field, hold_count-few, no_less_than_0}
use Rattle.lr_hold.proofs.hold.hold_count.Goals as goal

pub returns-in-Ok-Some-clause-count : goal.returns-in-Ok-Some-clause-count
returns-in-Ok-Some-clause-count c = λ held at.
    let owner = c.args.owner.now in
    let entry = entry_at c.args.keys.now c.args.key.now in
    let found =
    sym (ap (λ t. field_at t entry) c.brief.ensures.text) ∙ sym c.hget.ensures
    ∙ c.in-Ok-Some.is ∙ ap Ok c.in-Ok-Some.field-0-is in
    let number : c.in-Ok-Some.count ≡ pos (hold_count owner held) =
    hold_count-field _ owner entry held c.in-Ok-Some.count c.brief.ensures.owner at found in
    no_less_than_0 c.in-Ok-Some.count c.max.result (hold_count owner held) number
    (hold_count-few owner held at.hold) c.max.ensures.value
