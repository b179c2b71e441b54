-- How the peaks, the places that were left and the connections of a world change as its history
-- grows.
use Rattle.std.proofs.Common.{◌≡◌, ℕ, ◌==◌, List, [], ◌∷◌, ◌++◌, Option, None, Bool, true, false, ◌||◌, if◌then◌else◌, refl, sym, ap, ◌∙◌, arith, ◌⊎◌, inl, inr}
use Rattle.std.specs.List.{list_any}
use Rattle.std.proofs.lemmas.Bool.{eq-eqb, ne_eqb, cases_eq}
use Rattle.lr_names.specs.Channel.{ChannelOf}
use Rattle.lr_names.specs.declared.kind.Kind.{Kind}
use Rattle.lr_model.specs.declared.entry.Entry.{Entry}
use Rattle.lr_model.specs.Board.{Connection, closed_connection, with_connection}
use Rattle.lr_model.specs.History.{State, step, after}
use Rattle.lr_waiting.specs.Peak.{peak_by_act, peak_after}
use Rattle.lr_waiting.specs.Queue.{place_by_act, place_after, told_by_act, told_after}
use Rattle.lr_machine.specs.Clients.{command_connection, subscription_connection}
use Rattle.lr_machine.specs.Within.{IsClient}
use Rattle.lr_machine.specs.World.{World, first_state, state_of, connection_of, with_entry, closes_of_all, with_cut}
use Rattle.lr_machine_laws.proofs.Closes.{closed_board, kept_open}
use Rattle.lr_machine_laws.proofs.Worlds.{after-append}
use Rattle.lr_machine_wakeups.specs.WorldFacts.{is_shared, peak_for, peak_of, left_of, told_of}

peak_after-append : (kind : Kind) (name : List ℕ) (xs ys : List Entry) (state : State) (peak : ℕ)
    → peak_after kind name state (xs ++ ys) peak
    ≡ peak_after kind name (after state xs) ys (peak_after kind name state xs peak)
peak_after-append kind name [] ys state peak = refl
peak_after-append kind name (x ∷ xs) ys state peak =
    peak_after-append kind name xs ys (step state x)
    (peak_by_act kind name state x.moment x.act peak)

place_after-append : (channel : ChannelOf) (xs ys : List Entry) (state : State) (left : Option ℕ)
    → place_after channel state (xs ++ ys) left
    ≡ place_after channel (after state xs) ys (place_after channel state xs left)
place_after-append channel [] ys state left = refl
place_after-append channel (x ∷ xs) ys state left =
    place_after-append channel xs ys (step state x)
    (place_by_act channel state x.moment x.act left)

told_after-append : (channel : ChannelOf) (xs ys : List Entry) (state : State) (told : Bool)
    → told_after channel state (xs ++ ys) told
    ≡ told_after channel (after state xs) ys (told_after channel state xs told)
told_after-append channel [] ys state told = refl
told_after-append channel (x ∷ xs) ys state told =
    told_after-append channel xs ys (step state x)
    (told_by_act channel state x.moment x.act told)

-- One entry more.

pub state-entry : (entry : Entry) (world : World)
    → state_of (with_entry entry world) ≡ step (state_of world) entry
state-entry entry world = after-append first_state world.entries (entry ∷ [])

pub peak-entry : (entry : Entry) (world : World) (channel : ChannelOf)
    → peak_of (with_entry entry world) channel
    ≡ peak_for (is_shared channel)
    (peak_by_act channel.kind channel.name (state_of world) entry.moment entry.act
    (peak_after channel.kind channel.name first_state world.entries 0))
peak-entry entry world channel =
    ap (peak_for (is_shared channel))
    (peak_after-append channel.kind channel.name world.entries (entry ∷ []) first_state 0)

pub left-entry : (entry : Entry) (world : World) (channel : ChannelOf)
    → left_of (with_entry entry world) channel
    ≡ place_by_act channel (state_of world) entry.moment entry.act (left_of world channel)
left-entry entry world channel =
    place_after-append channel world.entries (entry ∷ []) first_state None

pub told-entry : (entry : Entry) (world : World) (channel : ChannelOf)
    → told_of (with_entry entry world) channel
    ≡ told_by_act channel (state_of world) entry.moment entry.act (told_of world channel)
told-entry entry world channel =
    told_after-append channel world.entries (entry ∷ []) first_state false

-- Connections that are closed.

-- no peak falls
peak-closes : (kind : Kind) (name : List ℕ) (moment : ℕ) (cs : List ℕ) (state : State) (peak : ℕ)
    → peak_after kind name state (closes_of_all moment cs) peak ≡ peak
peak-closes kind name moment [] state peak = refl
peak-closes kind name moment (c ∷ cs) state peak =
    peak-closes kind name moment cs
    (record {
      moment = moment;
      objects = state.objects;
      board = closed_board state.board c;
    })
    peak

-- and no object changes
objects-closes : (moment : ℕ) (cs : List ℕ) (state : State)
    → (after state (closes_of_all moment cs)).objects ≡ state.objects
objects-closes moment [] state = refl
objects-closes moment (c ∷ cs) state =
    objects-closes moment cs
    (record {
      moment = moment;
      objects = state.objects;
      board = closed_board state.board c;
    })

pub objects-cut : (cs : List ℕ) (world : World)
    → (state_of (with_cut cs world)).objects ≡ (state_of world).objects
objects-cut cs world =
    ap (λ (s : State). s.objects)
    (after-append first_state world.entries (closes_of_all world.moment cs))
    ∙ objects-closes world.moment cs (state_of world)

pub peak-cut : (cs : List ℕ) (world : World) (channel : ChannelOf)
    → peak_of (with_cut cs world) channel ≡ peak_of world channel
peak-cut cs world channel =
    ap (peak_for (is_shared channel))
    (peak_after-append channel.kind channel.name world.entries (closes_of_all world.moment cs)
    first_state 0
    ∙ peak-closes channel.kind channel.name world.moment cs (state_of world)
    (peak_after channel.kind channel.name first_state world.entries 0))

-- and nobody is told, nor is another place left
left-closes : (channel : ChannelOf) (moment : ℕ) (cs : List ℕ) (state : State) (left : Option ℕ)
    → place_after channel state (closes_of_all moment cs) left ≡ left
left-closes channel moment [] state left = refl
left-closes channel moment (c ∷ cs) state left =
    left-closes channel moment cs
    (record {
      moment = moment;
      objects = state.objects;
      board = closed_board state.board c;
    })
    left

told-closes : (channel : ChannelOf) (moment : ℕ) (cs : List ℕ) (state : State) (told : Bool)
    → told_after channel state (closes_of_all moment cs) told ≡ told
told-closes channel moment [] state told = refl
told-closes channel moment (c ∷ cs) state told =
    told-closes channel moment cs
    (record {
      moment = moment;
      objects = state.objects;
      board = closed_board state.board c;
    })
    told

pub left-cut : (cs : List ℕ) (world : World) (channel : ChannelOf)
    → left_of (with_cut cs world) channel ≡ left_of world channel
left-cut cs world channel =
    place_after-append channel world.entries (closes_of_all world.moment cs) first_state None
    ∙ left-closes channel world.moment cs (state_of world) (left_of world channel)

pub told-cut : (cs : List ℕ) (world : World) (channel : ChannelOf)
    → told_of (with_cut cs world) channel ≡ told_of world channel
told-cut cs world channel =
    told_after-append channel world.entries (closes_of_all world.moment cs) first_state false
    ∙ told-closes channel world.moment cs (state_of world) (told_of world channel)

closed_twice : (among : Bool) (connection : Connection) → connection ≡ closed_connection
    → (if among then closed_connection else connection) ≡ closed_connection
closed_twice true connection closed = refl
closed_twice false connection closed = closed

-- the connections of these clients are closed, and all others stay as they are
closes-connection : (moment : ℕ) (cs : List ℕ) (state : State) (d : ℕ) → IsClient d
    → (after state (closes_of_all moment cs)).board (subscription_connection d)
    ≡ (if list_any (λ other. d == other) cs then closed_connection
    else state.board (subscription_connection d))
closes-connection moment [] state d within = refl
closes-connection moment (c ∷ cs) state d within =
    closes-connection moment cs
    (record {
      moment = moment;
      objects = state.objects;
      board = closed_board state.board c;
    })
    d within
    ∙ by (cases_eq d c)
  where
    by : (d ≡ c) ⊎ (d ≡ c → ⊥)
        → (if list_any (λ other. d == other) cs then closed_connection
        else closed_board state.board c (subscription_connection d))
        ≡ (if (d == c) || list_any (λ other. d == other) cs then closed_connection
        else state.board (subscription_connection d))
    by (inl same) =
        closed_twice (list_any (λ other. d == other) cs)
        (closed_board state.board c (subscription_connection d))
        (ap
        (λ b. if b then closed_connection
        else with_connection state.board (command_connection c) closed_connection
        (subscription_connection d))
        (eq-eqb (subscription_connection c) (subscription_connection d)
        (ap subscription_connection (sym same))))
        ∙ sym
        (ap
        (λ b. if b || list_any (λ other. d == other) cs then closed_connection
        else state.board (subscription_connection d))
        (eq-eqb d c same))
    by (inr apart) =
        ap
        (λ (connection : Connection). if list_any (λ other. d == other) cs then closed_connection
        else connection)
        (kept_open state.board c (subscription_connection d) (λ e. omega (arith, e, within.0))
        (λ e. apart (omega (arith, e))))
        ∙ sym
        (ap
        (λ b. if b || list_any (λ other. d == other) cs then closed_connection
        else state.board (subscription_connection d))
        (ne_eqb d c apart))

pub connection-cut : (cs : List ℕ) (world : World) (d : ℕ) → IsClient d
    → connection_of (with_cut cs world) d
    ≡ (if list_any (λ other. d == other) cs then closed_connection else connection_of world d)
connection-cut cs world d within =
    ap (λ (s : State). s.board (subscription_connection d))
    (after-append first_state world.entries (closes_of_all world.moment cs))
    ∙ closes-connection world.moment cs (state_of world) d within
