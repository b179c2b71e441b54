-- The events that are drawn are within the limits, and their requests may begin.
use Rattle.std.proofs.Common.{ℕ, zero, suc, ◌%◌, refl, arith}
use Rattle.lr_names.specs.Owner.{IsThread}
use Rattle.lr_machine.specs.Within.{IsClient, IsWithin, MayBegin}
use Rattle.lr_drill.specs.declared.draw.Draw.{Draw}
use Rattle.lr_drill.specs.declared.draw.DrawKind.{DrawKind}
use Rattle.lr_drill.specs.declared.draw.DrawKind.TheVariants as kinds
use Rattle.lr_drill.specs.Drill.{bits_of, draw_of, event_by, event_drawn, renewal_of}

renewal_within : (place : ℕ) (draw : Draw) → IsClient draw.client → IsThread draw.thread
    → IsWithin (renewal_of place draw)
renewal_within zero draw client thread = (client, thread)
renewal_within (suc zero) draw client thread = (client, thread)
renewal_within (suc (suc place)) draw client thread = (client, thread)

event_within : (kind : DrawKind) (draw : Draw) (moment : ℕ) → IsClient draw.client
    → IsThread draw.thread → IsWithin (event_by kind draw moment)
event_within kinds.Lock draw moment client thread = (client, thread)
event_within kinds.Watch draw moment client thread = (client, thread)
event_within kinds.Unlock draw moment client thread = (client, thread)
event_within kinds.Ask draw moment client thread = (client, thread)
event_within kinds.Exec draw moment client thread = (client, thread)
event_within kinds.Take draw moment client thread = (client, thread)
event_within kinds.Check draw moment client thread = (client, thread)
event_within kinds.Wake draw moment client thread = (client, thread)
event_within kinds.Fire draw moment client thread = (client, thread)
event_within kinds.Quit draw moment client thread = (client, thread)
event_within kinds.Sub draw moment client thread = client
event_within kinds.Push draw moment client thread = client
event_within kinds.Tick draw moment client thread = tt
event_within kinds.Renew draw moment client thread =
    renewal_within (draw.rest % 3) draw client thread

pub drawn_within : (number moment : ℕ) → IsWithin (event_drawn number moment)
drawn_within number moment =
    let draw = draw_of (bits_of number) in
    event_within draw.kind draw moment (omega arith, omega arith) (omega arith, omega arith)

renewal_begins : (place : ℕ) (draw : Draw) → MayBegin (renewal_of place draw)
renewal_begins zero draw = tt
renewal_begins (suc zero) draw = tt
renewal_begins (suc (suc place)) draw = tt

event_begins : (kind : DrawKind) (draw : Draw) (moment : ℕ) → MayBegin (event_by kind draw moment)
event_begins kinds.Lock draw moment = record {
  function = refl;
  amount = tt;
  lease = tt;
  wait = (refl, (omega arith, omega arith));
}
event_begins kinds.Watch draw moment = record {
  function = refl;
  amount = tt;
  lease = tt;
  wait = (refl, (omega arith, omega arith));
}
event_begins kinds.Unlock draw moment =
    record { function = refl; amount = tt; lease = tt; wait = tt }
event_begins kinds.Renew draw moment = renewal_begins (draw.rest % 3) draw
event_begins _ draw moment = tt

pub drawn_begins : (number moment : ℕ) → MayBegin (event_drawn number moment)
drawn_begins number moment =
    let draw = draw_of (bits_of number) in event_begins draw.kind draw moment
