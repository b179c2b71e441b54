-- One event more of a drill.
use Rattle.std.proofs.Common.{◌≡◌, ℕ, ◌+◌, if◌then◌else◌, ap, ◌∙◌}
use Rattle.lr_machine.specs.declared.event.Event.{Event}
use Rattle.lr_machine.specs.declared.shown.Shown.{Shown}
use Rattle.lr_machine.specs.Shown.{shown}
use Rattle.lr_machine.specs.World.{World, next}
use Rattle.lr_drill.specs.Drill.{Drilled, applies, event_drawn, next_drilled, next_number}

abbrev pub drilled_with : ℕ → World → ℕ → Drilled
drilled_with number world not_applied =
    record { number = number; world = world; not_applied = not_applied }

-- how many events haven't applied, with one more of which this is shown
abbrev pub counted : ℕ → Shown → ℕ
counted not_applied told = if applies told then not_applied else not_applied + 1

pub drilled-next : (old : Drilled) (number : ℕ) (event : Event) (told : Shown) (world : World)
    (not_applied : ℕ) → number ≡ next_number old.number
    → event ≡ event_drawn number old.world.moment → told ≡ shown old.world event
    → world ≡ next old.world event → not_applied ≡ counted old.not_applied told
    → drilled_with number world not_applied ≡ next_drilled old
drilled-next old number event told world not_applied drawn is tells goes counts =
    let now : ℕ = next_number old.number in
    let taken : Event = event_drawn now old.world.moment in
    let same : event ≡ taken =
    is ∙ ap (λ n. event_drawn n old.world.moment) drawn in
    let next-is : world ≡ next old.world taken = goes ∙ ap (next old.world) same in
    let count-is : not_applied ≡ counted old.not_applied (shown old.world taken) =
    counts ∙ ap (counted old.not_applied) (tells ∙ ap (shown old.world) same) in
    ap (λ n. drilled_with n world not_applied) drawn
    ∙ ap (λ (w : World). drilled_with now w not_applied) next-is
    ∙ ap (drilled_with now (next old.world taken)) count-is
