-- What is known of the passes of a race's threads.
use Rattle.std.specs.Prelude.{◌≡◌, ℕ, ◌<◌, ◌≤◌, List, [], ◌∷◌, ◌++◌}
use mathlib.Core.Option.{some}
use lib.ListN.{get_elem?}
use Rattle.lr_model.specs.declared.entry.Entry.{Entry}
use Rattle.lr_turnstile.specs.declared.pass.Pass.{Pass}
use Rattle.lr_turnstile.specs.declared.view.View.{View}
use Rattle.lr_turnstile.specs.Passes.{view, IsFirst, IsOther}
use Rattle.lr_service.specs.declared.served.Served.{Served}
use Rattle.lr_service.specs.declared.service.Service.{Service}
use Rattle.lr_drill.specs.Race.{IsRaceCall, AreCalls}

-- the first pass, which makes no calls
pub record IsIdleFirst (service : Service) (pass : Pass Served) : Type 0 where
  pub first : IsFirst service.gate pass
  pub caller : (view pass).caller ≡ 0
  pub mine : (view pass).mine ≡ []

-- the pass of a thread that has made so many calls
pub record HasMade (service : Service) (thread calls : ℕ) (pass : Pass Served) : Type 0 where
  pub other : IsOther service.gate pass
  pub caller : (view pass).caller ≡ thread
  pub mine : AreCalls thread calls (view pass).mine

-- a pass made this call of its thread, and nothing else
pub record MadeCall (before : View) (number : ℕ) (now : View) : Type 0 where
  pub entry : Entry
  pub call : IsRaceCall before.caller number entry
  pub mine : now.mine ≡ before.mine ++ entry ∷ []

-- the passes of the threads above `least` and up to `most` were joined, each with all its calls
abbrev pub HaveEnded : ℕ → ℕ → ℕ → List (ℕ × List Entry) → Type 0
HaveEnded calls least most joined =
    (thread : ℕ) → least < thread → thread ≤ most
    → (place : ℕ) × (made : List Entry)
    × (get_elem? joined place ≡ some (thread, made)) × AreCalls thread calls made
