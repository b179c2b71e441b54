-- What stands for the threads of a client that sleep, where it is known whether a message is in flight
-- and whether a call would be refused.
use Rattle.std.specs.Prelude.{ℕ, ◌==◌, nat_lt, Bool, true, not, Option, Some, None, if◌then◌else◌}
use Rattle.std.specs.List.{list_any}
use Rattle.lr_names.specs.Channel.{ChannelOf}
use Rattle.lr_waiting.specs.declared.stand.Stand.{Stand}
use Rattle.lr_waiting.specs.declared.stand.Stand.TheVariants as stands
use Rattle.lr_waiting.specs.declared.waiter.Refusal.{Refusal}
use Rattle.lr_waiting.specs.declared.waiter.Stage.{Stage}
use Rattle.lr_waiting.specs.declared.waiter.Stage.TheVariants.{Asleep}
use Rattle.lr_waiting.specs.declared.waiter.Waiter.{Waiter}
use Rattle.lr_waiting.specs.Client.{Client, waiter_in}
use Rattle.lr_waiting.specs.Session.{channel_in, owner_in}
use Rattle.lr_waiting.specs.Stand.{is_awake, least_due, moment_due, threads_with, timer_or_nobody}
use Rattle.lr_clients.specs.declared.sleeper.Sleeper.{Sleeper}

-- a thread that sleeps, with what it waits for
abbrev pub sleeper_in : Client → ℕ → Waiter → Refusal → Sleeper
sleeper_in client thread waiter refusal = record {
  channel = channel_in client.session thread waiter;
  want = waiter.want;
  owner = owner_in client.session thread;
  refusal = refusal;
}

abbrev pub sleeper_at : Client → ℕ → Waiter → Stage → Option Sleeper
sleeper_at client thread waiter (Asleep refusal) =
    Some (sleeper_in client thread waiter refusal)
sleeper_at client thread waiter _ = None

abbrev pub sleeper_with : Client → ℕ → Option Waiter → Option Sleeper
sleeper_with client thread None = None
sleeper_with client thread (Some waiter) = sleeper_at client thread waiter waiter.stage

abbrev pub sleeper_of : Client → ℕ → Option Sleeper
sleeper_of client thread = sleeper_with client thread (waiter_in client thread)

-- where a message wakes one: the first of these that is there
abbrev pub stand_where_one : Bool → ChannelOf → Client → Stand
stand_where_one in_flight channel client =
    if in_flight then stands.Message
    else if nat_lt 0 (client.session.latches.entries channel).permits then stands.Permit
    else if list_any (is_awake channel client) (threads_with (λ thread. true)) then stands.Awake
    else timer_or_nobody (least_due channel client)

-- where a message wakes all: the first of these that is there
abbrev pub stand_where_all : Bool → Bool → Sleeper → Client → Stand
stand_where_all held in_flight sleeper client =
    let entry = client.session.latches.entries sleeper.channel in
    if held then stands.Held
    else if in_flight then stands.Message
    else if not (entry.broadcast == sleeper.refusal.seen) then stands.Broadcast
    else timer_or_nobody (moment_due sleeper.refusal.due)
