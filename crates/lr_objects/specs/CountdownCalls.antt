-- The functions of the countdown latch, after that of the Redisson guide, and their calls. Their
-- words are this project's own.
use Rattle.std.specs.Prelude.{ℕ, codes}
use Rattle.lr_objects.specs.declared.countdown.CountdownFunction.{CountdownFunction}
use Rattle.lr_objects.specs.declared.countdown.CountdownFunction.TheVariants as functions
use Rattle.lr_objects.specs.declared.countdown.CountdownCall.{CountdownCall}
use Rattle.lr_objects.specs.declared.countdown.CountdownCall.TheVariants.{Set, Down, Count}
use Rattle.lr_objects.specs.declared.form.Arguments.TheVariants.{Number, Nothing}
use Rattle.lr_objects.specs.declared.form.Begins.TheVariants.{AtOnce, MayWait}
use Rattle.lr_objects.specs.Amount.{IsAmount}
use Rattle.lr_objects.specs.Form.{FormOf}

-- a request may begin with each of them, and one for the count may wait
abbrev pub countdown_form : CountdownFunction → FormOf
countdown_form functions.Set =
    record { word = codes "latch_set"; arguments = Number; begins = AtOnce }
countdown_form functions.Down =
    record { word = codes "latch_down"; arguments = Nothing; begins = AtOnce }
countdown_form functions.Count =
    record { word = codes "latch_count"; arguments = Nothing; begins = MayWait }

-- the call of a function, with the number in its place
abbrev pub countdown_call_of : CountdownFunction → ℕ → CountdownCall
countdown_call_of functions.Set number = Set number
countdown_call_of functions.Down number = Down
countdown_call_of functions.Count number = Count

-- a call as the program makes it: its number is within the limits
abbrev pub IsCountdownCall : CountdownCall → Type 0
IsCountdownCall (Set number) = IsAmount number
IsCountdownCall Down = Unit {0}
IsCountdownCall Count = Unit {0}
