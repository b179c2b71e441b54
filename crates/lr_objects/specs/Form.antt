-- How functions are written and used: this project's own.
use Rattle.std.specs.Prelude.{ℕ, List, Bool, true, false}
use Rattle.lr_objects.specs.Amount.{IsAmount}
use Rattle.lr_objects.specs.declared.form.Arguments.{Arguments}
use Rattle.lr_objects.specs.declared.form.Arguments.TheVariants as arguments
use Rattle.lr_objects.specs.declared.form.Begins.{Begins}
use Rattle.lr_objects.specs.declared.form.Begins.TheVariants.{Never, AtOnce, MayWait}

-- the word of a function, what it is given beside the object and its owner, and whether a request
-- may begin with it
pub record FormOf : Type 0 where
  pub word : List ℕ
  pub arguments : Arguments
  pub begins : Begins

-- whether a request may begin so
abbrev pub may_begin : Begins → Bool
may_begin Never = false
may_begin AtOnce = true
may_begin MayWait = true

-- the number, where a function is given one
abbrev pub FitsAmount : Arguments → ℕ → Type 0
FitsAmount arguments.Number number = IsAmount number
FitsAmount _ number = Unit {0}
