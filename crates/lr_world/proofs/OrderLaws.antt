-- An order of a client, and the item that it takes, as steps of the server.
use Rattle.std.proofs.Common.{◌≡◌, ◌≤◌, ◌<◌, ℕ, nat_le, Bool, true, false, not, ◌&&◌, ◌||◌, List, [], ◌∷◌, length, slice_get, Result, Ok, Err, Option, Some, None, if◌then◌else◌, ◌↔◌, refl, sym, ap, ◌∙◌, arith}
use Rattle.std.proofs.lemmas.Bool.{le-leb}
use Rattle.lr_limits.specs.Limits.{entry_limit, last_moment}
use Rattle.lr_names.specs.declared.post.Push.{Push}
use Rattle.lr_model.specs.declared.entry.Act.TheVariants.{Drain}
use Rattle.lr_model.specs.declared.entry.Entry.{Entry}
use Rattle.lr_model.specs.Board.{Connection, has_room}
use Rattle.lr_model.specs.History.{State, after, Counts, entry_of as history_entry, result_of}
use Rattle.lr_waiting.specs.declared.latch.Order.{Order}
use Rattle.lr_machine.specs.Clients.{client_caller, subscription_connection}
use Rattle.lr_machine.specs.Shown.{channels_after}
use Rattle.lr_machine.specs.World.{act_of, first_state}
use Rattle.lr_history.specs.Limit.{is_refused}
use Rattle.lr_pubsub.specs.Connection.{is_shut}
use Rattle.lr_server.specs.declared.answered.Answer.{Answer}
use Rattle.lr_server.specs.declared.answered.Answer.TheVariants as answers
use Rattle.lr_server.specs.declared.fault.StepFault.{StepFault}
use Rattle.lr_server.specs.declared.fault.StepFault.TheVariants as faults
use Rattle.lr_server.specs.Server.{ServerValue, connection_of, drain_made, entry_made, entry_of, fault_of, is_only_subscribed, is_stopped, result_made, takes_some, told_by, with_entry, with_made}
use Rattle.lr_world.specs.Steps.{channels_sent, heard_on, with_item, with_order}
use Rattle.lr_world.proofs.Servers.{connection_is, entry_is, not_full, state_is}

-- An order runs no function.
no_call : (order : Order) (connection : Connection)
    → is_only_subscribed (act_of order) connection ≡ false
no_call order connection = by order.subscribe
  where
    by : (subscribe : Bool)
        → is_only_subscribed (act_of (record order { subscribe = subscribe })) connection ≡ false
    by true = refl
    by false = refl

-- a connection that is too full stops it
stopped : (order : Order) (connection : Connection)
    → is_stopped (act_of order) connection ≡ is_shut connection
stopped order connection = by order.subscribe
  where
    by : (subscribe : Bool)
        → is_stopped (act_of (record order { subscribe = subscribe })) connection
        ≡ is_shut connection
    by true = refl
    by false = refl

-- it is refused where the history is full
refused : (order : Order) (entries : List Entry)
    → is_refused entries (act_of order) ≡ nat_le entry_limit (length entries)
refused order entries = by order.subscribe
  where
    by : (subscribe : Bool)
        → is_refused entries (act_of (record order { subscribe = subscribe }))
        ≡ nat_le entry_limit (length entries)
    by true = refl
    by false = refl

-- it gives how many channels the connection then has
counted : (state : State) (moment caller conn : ℕ) (order : Order)
    → result_of state (history_entry moment caller conn (act_of order))
    ≡ Counts (channels_after order (state.board conn))
counted state moment caller conn order = by order.subscribe
  where
    by : (subscribe : Bool)
        → result_of state
        (history_entry moment caller conn (act_of (record order { subscribe = subscribe })))
        ≡ Counts (channels_after (record order { subscribe = subscribe }) (state.board conn))
    by true = refl
    by false = refl

-- the answer that tells a count
pub count_told : (answer : Answer) (count : ℕ) → told_by answer ≡ Some (Counts count)
    → answer ≡ answers.Queued count
count_told (answers.Queued n) count same = let one : n ≡ count = cc in ap answers.Queued one
count_told (answers.Reply reply) count same = absurd (cc same)
count_told (answers.Look frame) count same = absurd (cc same)
count_told answers.OnlySubscribed count same = absurd (cc same)

pub same_count : (a b : ℕ) → answers.Queued a ≡ answers.Queued b → a ≡ b
same_count a b same = cc

module _ (server : ServerValue) (moment client caller conn : ℕ) (order : Order)
    (first : server.last ≡ 128)
    (in_time : (after first_state server.entries).moment ≤ moment) (early : moment ≤ last_moment)
    (is_caller : caller ≡ client_caller client) (is_conn : conn ≡ subscription_connection client)
  where
    abbrev pub heard : Connection
    heard = heard_on server.entries client

    abbrev pub made : Option Entry
    made = entry_made server moment caller conn (act_of order)

    heard_is : connection_of server conn ≡ heard
    heard_is = connection_is server first conn ∙ ap (after first_state server.entries).board is_conn

    -- the entry that is made
    made_is : made ≡ Some (history_entry moment (client_caller client)
        (subscription_connection client) (act_of order))
    made_is =
        ap (λ b. if b then None else Some (entry_of server moment caller conn (act_of order)))
        (no_call order (connection_of server conn))
        ∙ ap Some (entry_is server first moment caller conn (act_of order) in_time early)
        ∙ ap (λ n. Some (history_entry moment n conn (act_of order))) is_caller
        ∙ ap (λ n. Some (history_entry moment (client_caller client) n (act_of order))) is_conn

    pub result_is : result_made server made ≡ Some (Counts (channels_after order heard))
    result_is =
        ap (result_made server) made_is
        ∙ ap (λ (s : State). Some (result_of s (history_entry moment (client_caller client)
        (subscription_connection client) (act_of order)))) (state_is server first)
        ∙ ap Some (counted (after first_state server.entries) moment (client_caller client)
        (subscription_connection client) order)

    -- its one fault, beside want of memory
    pub fault_is : heard.dropped ≡ false → length server.entries < entry_limit
        → fault_of server conn (act_of order)
        ≡ (if has_room heard then None else Some faults.Dropped)
    fault_is kept room =
        ap (λ b. if b then None
        else if is_refused server.entries (act_of order) then Some faults.HistoryFull
        else if is_stopped (act_of order) (connection_of server conn) then Some faults.Dropped
        else None) (no_call order (connection_of server conn))
        ∙ ap (λ b. if b then Some faults.HistoryFull
        else if is_stopped (act_of order) (connection_of server conn) then Some faults.Dropped
        else None) (refused order server.entries ∙ not_full server room)
        ∙ ap (λ b. if b then Some faults.Dropped else None)
        (stopped order (connection_of server conn) ∙ ap is_shut heard_is
        ∙ ap (λ b. b || not (has_room heard)) kept)
        ∙ by (has_room heard)
      where
        by : (b : Bool)
            → (if false || not b then Some faults.Dropped else None)
            ≡ (if b then None else Some faults.Dropped)
        by true = refl
        by false = refl

    -- where it was made, the connection had room
    pub room_told : heard.dropped ≡ false → length server.entries < entry_limit
        → {R : Type 0} (result : Result R StepFault) (answered : R) → result ≡ Ok answered
        → ((result ≡ Err faults.Dropped)
        ↔ (fault_of server conn (act_of order) ≡ Some faults.Dropped))
        → has_room heard ≡ true
    room_told kept room {R} result answered ok dropped = by (has_room heard) refl
      where
        by : (b : Bool) → has_room heard ≡ b → has_room heard ≡ true
        by true is = is
        by false is =
            let found = fault_is kept room ∙ ap (λ b. if b then None else Some faults.Dropped) is in
            absurd (cc (sym ok ∙ dropped.1 found))

    -- and where it wasn't, it had none
    pub none_told : heard.dropped ≡ false → length server.entries < entry_limit
        → fault_of server conn (act_of order) ≡ Some faults.Dropped → has_room heard ≡ false
    none_told kept room dropped = by (has_room heard) refl
      where
        by : (b : Bool) → has_room heard ≡ b → has_room heard ≡ false
        by false is = is
        by true is =
            let found = fault_is kept room ∙ ap (λ b. if b then None else Some faults.Dropped) is in
            absurd (cc (sym found ∙ dropped))

    -- the history never is full
    pub never_full : heard.dropped ≡ false → length server.entries < entry_limit
        → fault_of server conn (act_of order) ≡ Some faults.HistoryFull → ⊥
    never_full kept room full = by (has_room heard) (sym (fault_is kept room) ∙ full)
      where
        by : (b : Bool) → (if b then None else Some faults.Dropped) ≡ Some faults.HistoryFull → ⊥
        by true e = absurd (cc e)
        by false e = absurd (cc e)

    -- the server after it
    pub sent_is : has_room heard ≡ true → with_made server made ≡ with_order server moment client order
    sent_is room =
        ap (with_made server) made_is
        ∙ sym (ap (λ b. if b then with_entry server (history_entry moment (client_caller client)
        (subscription_connection client) (act_of order)) else server) room)

    pub unsent_is : has_room heard ≡ false → server ≡ with_order server moment client order
    unsent_is full =
        sym (ap (λ b. if b then with_entry server (history_entry moment (client_caller client)
        (subscription_connection client) (act_of order)) else server) full)

-- where channels are told, there was room
pub room-sent : (order : Order) (connection : Connection) (n : ℕ)
    → Some n ≡ channels_sent order connection → has_room connection ≡ true
room-sent order connection n told = by (has_room connection) refl
  where
    by : (b : Bool) → has_room connection ≡ b → has_room connection ≡ true
    by true is = is
    by false is = absurd (cc (told
        ∙ ap (λ b. if b then Some (channels_after order connection) else None) is))

-- and where none are, there was none
pub none-sent : (order : Order) (connection : Connection)
    → None ≡ channels_sent order connection → has_room connection ≡ false
none-sent order connection told = by (has_room connection) refl
  where
    by : (b : Bool) → has_room connection ≡ b → has_room connection ≡ false
    by false is = is
    by true is = absurd (cc (told
        ∙ ap (λ b. if b then Some (channels_after order connection) else None) is))

-- An item that is handed out: none where none waits.
pub item-made : (server : ServerValue) (moment client caller conn : ℕ) → server.last ≡ 128
    → (after first_state server.entries).moment ≤ moment → moment ≤ last_moment
    → caller ≡ client_caller client → conn ≡ subscription_connection client
    → with_made server (drain_made server moment caller conn 1)
    ≡ with_item server moment client (slice_get (heard_on server.entries client).outbox 0)
item-made server moment client caller conn first in_time early is_caller is_conn =
    ap (λ (x : Connection). with_made server (if takes_some 1 x
    then Some (entry_of server moment caller conn (Drain 1)) else None))
    (connection_is server first conn ∙ ap (after first_state server.entries).board is_conn)
    ∙ by (heard_on server.entries client).outbox
  where
    entry : entry_of server moment caller conn (Drain 1)
        ≡ history_entry moment (client_caller client) (subscription_connection client) (Drain 1)
    entry =
        entry_is server first moment caller conn (Drain 1) in_time early
        ∙ ap (λ n. history_entry moment n conn (Drain 1)) is_caller
        ∙ ap (λ n. history_entry moment (client_caller client) n (Drain 1)) is_conn

    by : (outbox : List Push)
        → with_made server (if nat_le 1 1 && nat_le 1 (length outbox)
        then Some (entry_of server moment caller conn (Drain 1)) else None)
        ≡ with_item server moment client (slice_get outbox 0)
    by [] = refl
    by (item ∷ items) =
        let some : nat_le 1 (length (item ∷ items)) ≡ true =
        le-leb 1 (length (item ∷ items)) (omega arith) in
        ap (λ b. with_made server (if true && b
        then Some (entry_of server moment caller conn (Drain 1)) else None)) some
        ∙ ap (with_entry server) entry
