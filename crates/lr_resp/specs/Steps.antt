-- What a step of the scanner answers, by what the byte leads to.
use Rattle.std.specs.Prelude.{◌≡◌, ℕ, ◌-◌, ◌≤◌, ◌++◌, List, [], Option, Some, None, min}
use Rattle.lr_resp.specs.declared.frame.Frame.{Frame}
use Rattle.lr_resp.specs.declared.phase.Phase.{Phase}
use Rattle.lr_resp.specs.declared.phase.Phase.TheVariants.{Begin, Body}
use Rattle.lr_resp.specs.declared.progress.Progress.{Progress}
use Rattle.lr_resp.specs.declared.progress.Progress.TheVariants as answers
use Rattle.lr_resp.specs.Opened.{Opened}
use Rattle.lr_resp.specs.Scan.{State, Step, Goes, Ends, Fails, start}

abbrev pub Answers : Step → State → Progress → State → Type 0
Answers step old answers.GoesOn new = step ≡ Goes new
Answers step old (answers.Whole frame) new = (step ≡ Ends frame) × (new ≡ start)
Answers step old (answers.Broken cause) new = (step ≡ Fails cause) × (new ≡ old)

abbrev pub Closes : Step → Option Frame → List Opened → Type 0
Closes step None arrays = step ≡ Goes (record { arrays = arrays; phase = Begin; text = [] })
Closes step (Some frame) arrays = (step ≡ Ends frame) × (arrays ≡ [])

-- as many of so many bytes are taken as the bulk string still has, and none outside of one
abbrev pub AllTaken : Phase → ℕ → ℕ → Type 0
AllTaken (Body left) n ahead = n ≡ min left ahead
AllTaken _ n ahead = n ≡ 0

-- so many bytes of a bulk string are taken at once
abbrev pub BodyTaken : Phase → ℕ → List ℕ → State → State → Type 0
BodyTaken (Body left) n taken old new =
    (n ≤ left)
    × (new ≡ record { arrays = old.arrays; phase = Body (left - n); text = old.text ++ taken })
BodyTaken _ n taken old new = n ≡ 0
