-- A drill: a generator draws events from a number, and a world takes them one after the other. Which
-- events these are, and what becomes of the world: this project's own. The generator is Knuth's
-- linear congruential one.
use Rattle.std.specs.Prelude.{ℕ, zero, suc, ◌+◌, ◌*◌, ◌/◌, ◌%◌, ◌^◌, ◌==◌, List, [], ◌∷◌, codes, replicate, ◌++◌, length, get_or, nat_lt, Bool, true, false, Option, Some, None, if◌then◌else◌}
use Rattle.lr_limits.specs.Limits.{client_limit, thread_limit}
use Rattle.lr_objects.specs.declared.kinds.Function.TheVariants as functions
use Rattle.lr_objects.specs.declared.lock.LockFunction.{LockFunction}
use Rattle.lr_objects.specs.declared.lock.LockFunction.TheVariants.{Try, Unlock}
use Rattle.lr_objects.specs.declared.want.Lease.{Lease}
use Rattle.lr_objects.specs.declared.want.Lease.TheVariants as leases
use Rattle.lr_objects.specs.declared.want.Mode.{Mode}
use Rattle.lr_objects.specs.declared.want.Mode.TheVariants as modes
use Rattle.lr_model.specs.Board.{numbers_below}
use Rattle.lr_waiting.specs.declared.waiter.Stage.{Stage}
use Rattle.lr_waiting.specs.declared.waiter.Stage.TheVariants.{Asleep}
use Rattle.lr_waiting.specs.declared.waiter.Waiter.{Waiter}
use Rattle.lr_waiting.specs.Client.{Client, waiter_in}
use Rattle.lr_waiting.specs.declared.watch.WatchKind.TheVariants as watched
use Rattle.lr_machine.specs.declared.event.Event.{Event}
use Rattle.lr_machine.specs.declared.event.Event.TheVariants as events
use Rattle.lr_machine.specs.declared.shown.Shown.{Shown}
use Rattle.lr_machine.specs.declared.shown.Shown.TheVariants as shows
use Rattle.lr_machine.specs.Shown.{shown}
use Rattle.lr_machine.specs.World.{World, first_world, next}
use Rattle.lr_drill.specs.Summary.{number_line}
use Rattle.lr_drill.specs.declared.draw.Draw.{Draw}
use Rattle.lr_drill.specs.declared.draw.DrawKind.{DrawKind}
use Rattle.lr_drill.specs.declared.draw.DrawKind.TheVariants as kinds

-- The generator.

-- the number after this one
abbrev pub next_number : ℕ → ℕ
next_number number = (number * 6364136223846793005 + 1442695040888963407) % 2 ^ 64

-- its upper 31 bits are drawn, since the lower ones repeat soon
abbrev pub bits_of : ℕ → ℕ
bits_of number = number / 2 ^ 33

-- What is drawn.

-- what happens, by four bits
abbrev pub draw_kinds : List DrawKind
draw_kinds =
    kinds.Lock ∷ kinds.Watch ∷ kinds.Unlock ∷ kinds.Ask ∷ kinds.Ask ∷ kinds.Exec ∷ kinds.Exec
    ∷ kinds.Take ∷ kinds.Check ∷ kinds.Wake ∷ kinds.Fire ∷ kinds.Quit ∷ kinds.Sub ∷ kinds.Push
    ∷ kinds.Tick ∷ kinds.Renew ∷ []

abbrev pub drawn_kind : ℕ → DrawKind
drawn_kind place = get_or draw_kinds place kinds.Renew

abbrev pub drawn_name : ℕ → List ℕ
drawn_name place = if place == 0 then codes "a" else codes "b"

abbrev pub draw_of : ℕ → Draw
draw_of bits = record {
  client = 1 + bits % 4;
  thread = 1 + (bits / 4) % 4;
  kind = drawn_kind ((bits / 16) % 16);
  name = drawn_name ((bits / 256) % 2);
  rest = bits / 512;
}

-- Which event that is.

-- how long a request waits, and the lease of a hold, or that of a hold that stays
abbrev pub drill_wait : ℕ
drill_wait = 60000

abbrev pub drill_lease : ℕ
drill_lease = 5000

abbrev pub drill_rest : ℕ
drill_rest = 30000

-- a thread begins a request for a lock, or for giving it back
abbrev pub begin_of : Draw → Mode → LockFunction → Lease → Event
begin_of draw mode function lease = events.Begin draw.client draw.thread mode (record {
  function = functions.Lock function;
  name = draw.name;
  lease = lease;
  number = 0;
  id = replicate 16 0;
})

-- one of the three events of a renewal
abbrev pub renewal_of : ℕ → Draw → Event
renewal_of zero draw = events.RenewAsk draw.client draw.thread watched.Lock draw.name
renewal_of (suc zero) draw = events.RenewExec draw.client draw.thread watched.Lock draw.name
renewal_of _ draw = events.RenewTake draw.client draw.thread watched.Lock draw.name

-- the event of a draw of this kind, at a moment
abbrev pub event_by : DrawKind → Draw → ℕ → Event
event_by kinds.Lock draw moment =
    begin_of draw (modes.For drill_wait) Try (leases.For drill_lease)
event_by kinds.Watch draw moment = begin_of draw (modes.For drill_wait) Try leases.Watch
event_by kinds.Unlock draw moment = begin_of draw modes.Once Unlock (leases.For drill_rest)
event_by kinds.Ask draw moment = events.Ask draw.client draw.thread
event_by kinds.Exec draw moment = events.Exec draw.client draw.thread
event_by kinds.Take draw moment = events.Take draw.client draw.thread
event_by kinds.Check draw moment = events.Check draw.client draw.thread
event_by kinds.Wake draw moment = events.Wake draw.client draw.thread
event_by kinds.Fire draw moment = events.Fire draw.client draw.thread
event_by kinds.Quit draw moment = events.Quit draw.client draw.thread
event_by kinds.Sub draw moment = events.Sub draw.client
event_by kinds.Push draw moment = events.Push draw.client
event_by kinds.Tick draw moment = events.Tick (moment + draw.rest % 1000)
event_by kinds.Renew draw moment = renewal_of (draw.rest % 3) draw

abbrev pub event_of : Draw → ℕ → Event
event_of draw moment = event_by draw.kind draw moment

-- the event that a number draws at a moment
abbrev pub event_drawn : ℕ → ℕ → Event
event_drawn number moment = event_of (draw_of (bits_of number)) moment

-- What becomes of a world.

-- the number from which the last event was drawn, the world, and how many events didn't apply
pub record Drilled : Type 0 where
  pub number : ℕ
  pub world : World
  pub not_applied : ℕ

-- whether an event applied, by what is shown of it
abbrev pub applies : Shown → Bool
applies (shows.No found) = false
applies _ = true

-- before the first event
abbrev pub first_drilled : ℕ → Drilled
first_drilled number = record { number = number; world = first_world; not_applied = 0 }

-- each event is drawn from the next number, at the world's moment
abbrev pub next_drilled : Drilled → Drilled
next_drilled drilled =
    let number = next_number drilled.number in
    let event = event_drawn number drilled.world.moment in
    record {
      number = number;
      world = next drilled.world event;
      not_applied =
          if applies (shown drilled.world event) then drilled.not_applied
          else drilled.not_applied + 1;
    }

-- after so many events
abbrev pub drilled_at : ℕ → ℕ → Drilled
drilled_at number zero = first_drilled number
drilled_at number (suc events) = next_drilled (drilled_at number events)

-- How many threads sleep.

abbrev pub sleeps_at : Stage → Bool
sleeps_at (Asleep refusal) = true
sleeps_at _ = false

abbrev pub sleeps : Option Waiter → Bool
sleeps None = false
sleeps (Some waiter) = sleeps_at waiter.stage

-- of these threads of a client
abbrev pub asleep_of : Client → List ℕ → ℕ
asleep_of client [] = 0
asleep_of client (thread ∷ threads) =
    if sleeps (waiter_in client thread) then 1 + asleep_of client threads
    else asleep_of client threads

-- of these threads of each of these clients
abbrev pub asleep_among : World → List ℕ → List ℕ → ℕ
asleep_among world threads [] = 0
asleep_among world threads (client ∷ clients) =
    asleep_of (world.clients client) threads + asleep_among world threads clients

-- of all threads of all clients
abbrev pub asleep_in : World → ℕ
asleep_in world =
    asleep_among world (numbers_below (thread_limit + 1) (nat_lt 0))
    (numbers_below (client_limit + 1) (nat_lt 0))

-- What is written of it.

-- the summary of so many events, by what has become of the world
abbrev pub summary_after : ℕ → Drilled → List ℕ
summary_after events drilled =
    number_line (codes "events ") events
    ++ number_line (codes "no ") drilled.not_applied
    ++ number_line (codes "entries ") (length drilled.world.entries)
    ++ number_line (codes "moment ") drilled.world.moment
    ++ number_line (codes "asleep ") (asleep_in drilled.world)

abbrev pub drill_summary : ℕ → ℕ → List ℕ
drill_summary number events = summary_after events (drilled_at number events)
