-- It is told what stands for as many threads as sleep.
use Rattle.std.proofs.Common.{◌≡◌, ℕ, ◌+◌, List, [], ◌∷◌, length, Bool, true, false, nat_lt, if◌then◌else◌, Option, Some, None, refl, ◌∙◌, arith, length-append}
use Rattle.lr_limits.specs.Limits.{client_limit, thread_limit}
use Rattle.lr_names.specs.declared.post.Push.{Push}
use Rattle.lr_model.specs.Board.{numbers_below}
use Rattle.lr_model.specs.History.{State}
use Rattle.lr_waiting.specs.declared.waiter.Stage.{Stage}
use Rattle.lr_waiting.specs.declared.waiter.Stage.TheVariants.{Fresh, Asked, Joining, Ready, Refused, Asleep, Leaving}
use Rattle.lr_waiting.specs.declared.waiter.Waiter.{Waiter}
use Rattle.lr_waiting.specs.Client.{Client, waiter_in}
use Rattle.lr_waiting.specs.Stand.{stand_at, stand_with}
use Rattle.lr_machine.specs.Shown.{stand_in, standing_at, standings_in, standings_among, standings_of}
use Rattle.lr_machine.specs.World.{World, state_of, connection_of}
use Rattle.lr_drill.specs.Drill.{sleeps_at, sleeps, asleep_of, asleep_among, asleep_in}

one_at : (state : State) (now : ℕ) (outbox : List Push) (client : Client) (c t : ℕ)
    (waiter : Waiter) (stage : Stage)
    → length (standing_at c t (stand_at state now outbox client t waiter stage))
    ≡ (if sleeps_at stage then 1 else 0)
one_at state now outbox client c t waiter (Fresh turn) = refl
one_at state now outbox client c t waiter (Asked asking) = refl
one_at state now outbox client c t waiter Joining = refl
one_at state now outbox client c t waiter (Ready turn) = refl
one_at state now outbox client c t waiter (Refused refusal) = refl
one_at state now outbox client c t waiter (Asleep refusal) = refl
one_at state now outbox client c t waiter (Leaving turn) = refl

one_with : (state : State) (now : ℕ) (outbox : List Push) (client : Client) (c t : ℕ)
    (waiter : Option Waiter)
    → length (standing_at c t (stand_with state now outbox client t waiter))
    ≡ (if sleeps waiter then 1 else 0)
one_with state now outbox client c t None = refl
one_with state now outbox client c t (Some waiter) =
    one_at state now outbox client c t waiter waiter.stage

one_more : (asleep : Bool) (count : ℕ)
    → (if asleep then 1 else 0) + count ≡ (if asleep then 1 + count else count)
one_more true count = refl
one_more false count = omega arith

of_client : (world : World) (c : ℕ) (threads : List ℕ)
    → length (standings_in world c threads) ≡ asleep_of (world.clients c) threads
of_client world c [] = refl
of_client world c (t ∷ threads) =
    let waiter : Option Waiter = waiter_in (world.clients c) t in
    let first = one_with (state_of world) world.moment (connection_of world c).outbox
    (world.clients c) c t waiter in
    let rest = of_client world c threads in
    length-append (standing_at c t (stand_in world c t)) (standings_in world c threads)
    ∙ (λ i. first i + rest i)
    ∙ one_more (sleeps waiter) (asleep_of (world.clients c) threads)

of_clients : (world : World) (threads clients : List ℕ)
    → length (standings_among world threads clients) ≡ asleep_among world threads clients
of_clients world threads [] = refl
of_clients world threads (c ∷ clients) =
    let first = of_client world c threads in
    let rest = of_clients world threads clients in
    length-append (standings_in world c threads) (standings_among world threads clients)
    ∙ (λ i. first i + rest i)

pub asleep_is : (world : World) → length (standings_of world) ≡ asleep_in world
asleep_is world =
    of_clients world (numbers_below (thread_limit + 1) (nat_lt 0))
    (numbers_below (client_limit + 1) (nat_lt 0))
