-- What stands for a thread that sleeps, and the lists of all who sleep.
use Rattle.std.proofs.Common.{◌≡◌, ◌+◌, ◌≤◌, ℕ, suc, nat_lt, List, [], ◌∷◌, ◌++◌, Bool, true, ◌||◌, if◌then◌else◌, Option, Some, None, refl, ap, sym, ◌∙◌, append-nil, append_assoc, arith}
use Rattle.std.proofs.lemmas.Bool.{lt-ltb}
use Rattle.std.specs.List.{list_any}
use Rattle.lr_limits.specs.Limits.{last_moment}
use Rattle.lr_names.specs.Channel.{ChannelOf, channel_wakes}
use Rattle.lr_names.specs.Owner.{ThreadOfClient}
use Rattle.lr_names.specs.declared.kind.Wakes.{Wakes}
use Rattle.lr_names.specs.declared.kind.Wakes.TheVariants.{One, All}
use Rattle.lr_names.specs.declared.post.Push.{Push}
use Rattle.lr_names.specs.declared.post.Push.TheVariants.{Subscribed, Unsubscribed, Message}
use Rattle.lr_objects.specs.declared.want.Want.{Want}
use Rattle.lr_model.proofs.ReadWriteFacts.{none_some, some_one}
use Rattle.lr_machine.specs.Shown.{stand_in, standing_at, standings_among, standings_in}
use Rattle.lr_machine.specs.Clients.{subscription_connection}
use Rattle.lr_machine.specs.World.{World, first_state}
use Rattle.lr_model.specs.Board.{numbers_below}
use Rattle.lr_model.specs.History.{State, after}
use Rattle.lr_pubsub.specs.Connection.{is_in_flight, is_message_of}
use Rattle.lr_server.specs.Server.{ServerValue, connection_of, moment_at, state_of}
use Rattle.lr_waiting.specs.declared.stand.Stand.{Stand}
use Rattle.lr_waiting.specs.declared.stand.Standing.{Standing}
use Rattle.lr_waiting.specs.declared.waiter.Refusal.{Refusal}
use Rattle.lr_waiting.specs.declared.waiter.Stage.{Stage}
use Rattle.lr_waiting.specs.declared.waiter.Stage.TheVariants.{Asleep}
use Rattle.lr_waiting.specs.declared.waiter.Waiter.{Waiter}
use Rattle.lr_waiting.specs.Client.{Client, waiter_in}
use Rattle.lr_waiting.specs.Session.{channel_in}
use Rattle.lr_waiting.specs.Stand.{in_flight, is_message_on, is_refused, stand_at, stand_by, stand_of, stand_with}
use Rattle.lr_clients.specs.declared.sleeper.Sleeper.{Sleeper}
use Rattle.lr_clients.specs.Stands.{sleeper_at, sleeper_in, sleeper_of, sleeper_with, stand_where_all, stand_where_one}
use Rattle.lr_world.specs.Steps.{heard_on}
use Rattle.lr_world.proofs.Servers.{connection_is, moment_is, state_is}

-- the server's test and that of a client agree
same_test : (channel : ChannelOf) (item : Push)
    → is_message_of channel item ≡ is_message_on channel item
same_test channel (Message other wakes) = refl
same_test channel (Subscribed other count) = refl
same_test channel (Unsubscribed other count) = refl

same_flight : (channel : ChannelOf) (outbox : List Push)
    → list_any (is_message_of channel) outbox ≡ in_flight channel outbox
same_flight channel [] = refl
same_flight channel (item ∷ items) =
    (λ i. same_test channel item i || same_flight channel items i)

-- whether a message is in flight to a client, as its server tells
pub flight-is : (server : ServerValue) → server.last ≡ 128 → (channel : ChannelOf)
    (client conn : ℕ) → conn ≡ subscription_connection client
    → is_in_flight channel (connection_of server conn)
    ≡ in_flight channel (heard_on server.entries client).outbox
flight-is server first channel client conn is =
    ap (λ (n : ℕ). is_in_flight channel (connection_of server n)) is
    ∙ ap (is_in_flight channel) (connection_is server first (subscription_connection client))
    ∙ same_flight channel (heard_on server.entries client).outbox

-- whether a call would be refused, as the server tells at a moment that isn't before its own
pub refusal-is : (server : ServerValue) → server.last ≡ 128 → (moment : ℕ)
    → (after first_state server.entries).moment ≤ moment → moment ≤ last_moment
    → (owner : ThreadOfClient) (want : Want)
    → is_refused (state_of server).objects (moment_at server moment) owner want
    ≡ is_refused (after first_state server.entries).objects moment owner want
refusal-is server first moment in_time early owner want =
    (λ i. is_refused (state_is server first i).objects
    (moment_is server first moment in_time early i) owner want)

-- what is told to stand for a thread, on a channel that wakes so many
abbrev pub stand_told : Wakes → State → ℕ → List Push → Client → Sleeper → Stand
stand_told One state moment outbox client sleeper =
    stand_where_one (in_flight sleeper.channel outbox) sleeper.channel client
stand_told All state moment outbox client sleeper =
    stand_where_all (is_refused state.objects moment sleeper.owner sleeper.want)
    (in_flight sleeper.channel outbox) sleeper client

-- it is what stands for it
stand-found : (state : State) (moment : ℕ) (outbox : List Push) (client : Client)
    (thread : ℕ) (sleeper : Sleeper) (found : Option Waiter)
    → sleeper_with client thread found ≡ Some sleeper
    → Some (stand_told (channel_wakes sleeper.channel.kind) state moment outbox client sleeper)
    ≡ stand_with state moment outbox client thread found
stand-found state moment outbox client thread sleeper None is =
    absurd (none_some sleeper (sym is))
stand-found state moment outbox client thread sleeper (Some waiter) is = by waiter.stage is
  where
    by_wakes : (refusal : Refusal) (wakes : Wakes)
        → stand_told wakes state moment outbox client (sleeper_in client thread waiter refusal)
        ≡ stand_by wakes state moment outbox client thread waiter refusal
    by_wakes refusal One = refl
    by_wakes refusal All = refl

    by : (stage : Stage) → sleeper_at client thread waiter stage ≡ Some sleeper
        → Some (stand_told (channel_wakes sleeper.channel.kind) state moment outbox client sleeper)
        ≡ stand_at state moment outbox client thread waiter stage
    by (Asleep refusal) is =
        ap (λ (s : Sleeper). Some (stand_told (channel_wakes s.channel.kind) state moment outbox client s))
        (sym (some_one _ _ is))
        ∙ ap Some (by_wakes refusal (channel_wakes (channel_in client.session thread waiter).kind))
    by _ is = absurd (none_some sleeper (sym is))

pub stand-asleep : (state : State) (moment : ℕ) (outbox : List Push) (client : Client)
    (thread : ℕ) (sleeper : Sleeper) (wakes : Wakes) (stand : Stand)
    → sleeper_of client thread ≡ Some sleeper → wakes ≡ channel_wakes sleeper.channel.kind
    → stand ≡ stand_told wakes state moment outbox client sleeper
    → Some stand ≡ stand_of state moment outbox client thread
stand-asleep state moment outbox client thread sleeper wakes stand sleeps so told =
    ap Some told
    ∙ ap (λ (w : Wakes). Some (stand_told w state moment outbox client sleeper)) so
    ∙ stand-found state moment outbox client thread sleeper (waiter_in client thread) sleeps

-- The lists of all who sleep, one number more at the end.

standing-more : (world : World) (c : ℕ) (threads : List ℕ) (t : ℕ)
    → standings_in world c (threads ++ t ∷ [])
    ≡ standings_in world c threads ++ standing_at c t (stand_in world c t)
standing-more world c [] t = append-nil (standing_at c t (stand_in world c t))
standing-more world c (thread ∷ threads) t =
    ap (λ (rest : List Standing). standing_at c thread (stand_in world c thread) ++ rest)
    (standing-more world c threads t)
    ∙ sym (append_assoc (standing_at c thread (stand_in world c thread))
    (standings_in world c threads) (standing_at c t (stand_in world c t)))

client-more : (world : World) (threads clients : List ℕ) (c : ℕ)
    → standings_among world threads (clients ++ c ∷ [])
    ≡ standings_among world threads clients ++ standings_in world c threads
client-more world threads [] c = append-nil (standings_in world c threads)
client-more world threads (client ∷ clients) c =
    ap (λ (rest : List Standing). standings_in world client threads ++ rest)
    (client-more world threads clients c)
    ∙ sym (append_assoc (standings_in world client threads)
    (standings_among world threads clients) (standings_in world c threads))

-- the numbers from 1 to n
abbrev pub numbers_to : ℕ → List ℕ
numbers_to n = numbers_below (n + 1) (nat_lt 0)

pub to-none : numbers_to 0 ≡ []
unfolding numbers_below
to-none = refl

to-more : (n : ℕ) → numbers_to (n + 1) ≡ numbers_to n ++ (n + 1) ∷ []
unfolding numbers_below
to-more n =
    let next : n + 1 + 1 ≡ suc (n + 1) = omega arith in
    let above : nat_lt 0 (n + 1) ≡ true = lt-ltb 0 (n + 1) (omega arith) in
    ap (λ (m : ℕ). numbers_below m (nat_lt 0)) next
    ∙ ap (λ (b : Bool). numbers_to n ++ (if b then (n + 1) ∷ [] else [])) above

-- one thread more of a client
pub thread-more : (world : World) (c n : ℕ) (front before now : List Standing)
    (stand : Option Stand) → before ≡ front ++ standings_in world c (numbers_to n)
    → stand ≡ stand_in world c (n + 1) → now ≡ before ++ standing_at c (n + 1) stand
    → now ≡ front ++ standings_in world c (numbers_to (n + 1))
thread-more world c n front before now stand earlier here is =
    is
    ∙ ap (λ (list : List Standing). list ++ standing_at c (n + 1) stand) earlier
    ∙ ap (λ (found : Option Stand). (front ++ standings_in world c (numbers_to n))
    ++ standing_at c (n + 1) found) here
    ∙ append_assoc front (standings_in world c (numbers_to n))
    (standing_at c (n + 1) (stand_in world c (n + 1)))
    ∙ ap (λ (list : List Standing). front ++ list) (sym all)
  where
    all : standings_in world c (numbers_to (n + 1))
        ≡ standings_in world c (numbers_to n) ++ standing_at c (n + 1) (stand_in world c (n + 1))
    all = ap (standings_in world c) (to-more n) ∙ standing-more world c (numbers_to n) (n + 1)

-- and one client more
pub client-next : (world : World) (threads : List ℕ) (n : ℕ) (before now : List Standing)
    → before ≡ standings_among world threads (numbers_to n)
    → now ≡ before ++ standings_in world (n + 1) threads
    → now ≡ standings_among world threads (numbers_to (n + 1))
client-next world threads n before now earlier is =
    is ∙ ap (λ (list : List Standing). list ++ standings_in world (n + 1) threads) earlier
    ∙ sym (client-more world threads (numbers_to n) (n + 1))
    ∙ sym (ap (standings_among world threads) (to-more n))
