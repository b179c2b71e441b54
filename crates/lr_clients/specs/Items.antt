-- What is shown of an item that a client takes.
use Rattle.std.specs.Prelude.{◌<◌, ◌^◌, length}
use Rattle.lr_machine.specs.declared.shown.Shown.{Shown}
use Rattle.lr_machine.specs.declared.shown.Shown.TheVariants as shows
use Rattle.lr_session.specs.declared.pushes.Pushed.{Pushed}
use Rattle.lr_session.specs.declared.pushes.Pushed.TheVariants.{Acked, Unacked, Message}

abbrev pub shown_pushed : Pushed → Shown
shown_pushed (Acked channel asks) = shows.Acknowledged channel (length asks)
shown_pushed (Unacked channel) = shows.Left channel
shown_pushed (Message channel number) = shows.Delivered channel number

-- as many tickets as 32 bits can count
abbrev pub AreFew : Pushed → Type 0
AreFew (Acked channel asks) = length asks < 2 ^ 32
AreFew _ = Unit {0}
