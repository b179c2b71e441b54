use Rattle.std.proofs.Common.{◌≡◌, Option, None, is_some, false, sym, subst, ◌∙◌, arith}
use Rattle.lr_keys.specs.KeySpace.{KeyEntry, IsPrepared, entry_at}
use Rattle.lr_keys.specs.declared.value_kind.ValueKind.TheVariants.{Hash}
use Rattle.lr_hold.specs.Step.{hold_count}
use Rattle.lr_hold.proofs.StepLemmas.{full_step, busy_step, granted_step}
use Rattle.lr_hold.proofs.steps.take.Goals as goal
use Rattle.lr_hold.proofs.steps.take.Goals.{else-count-eq0-via-then-count-eq0+else-exists, else-count-eq0-via-else-count-eq0}

none-from_absent : (o : Option KeyEntry) → is_some o ≡ false → o ≡ None
none-from_absent o absent = grind arith

pub returns-then-count-ge-MOST_HOLDS-clause-step : goal.returns-then-count-ge-MOST_HOLDS-clause-step
returns-then-count-ge-MOST_HOLDS-clause-step c = λ held at.
    full_step c.args.keys.now c.args.owner.now _ _ held at
    (omega (arith, c.hold_count-count.ensures.count held at, c.if-count-ge-MOST_HOLDS.true))

pub returns-then-exists-clause-step : goal.returns-then-exists-clause-step
returns-then-exists-clause-step c = λ held at.
    busy_step c.args.keys.now c.args.owner.now _ _ _ held at
    (sym (c.hold_count-count.ensures.count held at) ∙ c.if-count-eq0.true)
    (sym c.if-exists.true ∙ c.exists.ensures)
    c.remaining.ensures

pub returns-clause-step : goal.returns-clause-step
returns-clause-step c = λ held at.
    let owner = c.args.owner.now in
    let keys = c.args.keys.now in
    let key = c.args.key.now in
    let known = c.hold_count-count.ensures in
    let count = known.count held at in
    let text = c.brief.ensures.text in
    let free : hold_count owner held ≡ 0 → entry_at keys key ≡ None = λ none.
    elim c.else-count-eq0.branch [
      | else-count-eq0-via-then-count-eq0+else-exists w ↦
          none-from_absent (entry_at keys key) (sym w.exists.ensures ∙ w.if-exists.false)
      | else-count-eq0-via-else-count-eq0 w ↦ absurd (w.if-count-eq0.false (count ∙ none))
    ] in
    granted_step keys c.add.new.keys key c.add.ensures.moment known.early owner known.owner
    c.args.lease c.requires.lease c.brief.result text held at (omega (arith, count)) free
    (λ absent. c.add.ensures.made
    (subst (λ t. IsPrepared keys key Hash t) (sym text) (c.requires.memory absent)) absent)
    c.add.ensures.added
