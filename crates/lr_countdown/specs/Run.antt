-- What a call on a countdown latch does to the keys.
use Rattle.std.specs.Prelude.{List, ℕ, Bool, false, is_none, Option}
use Rattle.lr_keys.specs.KeySpace.{KeyEntry}
use Rattle.lr_objects.specs.Op.{call_on}
use Rattle.lr_objects.specs.declared.kinds.Call.TheVariants.{Countdown}
use Rattle.lr_objects.specs.declared.op.Op.{Op}
use Rattle.lr_objects.specs.declared.countdown.CountdownCall.{CountdownCall}
use Rattle.lr_objects.specs.declared.countdown.CountdownCall.TheVariants as calls

-- a call on the latch of this name
abbrev pub countdown_op : List ℕ → CountdownCall → Op
countdown_op name call = call_on name (Countdown call)

-- whether a call makes the key of its latch where this is there: only that takes memory
abbrev pub makes_key : CountdownCall → Option KeyEntry → Bool
makes_key (calls.Set number) entry = is_none entry
makes_key _ entry = false
