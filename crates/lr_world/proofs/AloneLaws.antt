-- Events that are steps of one client alone.
use Rattle.std.proofs.Common.{◌≡◌, ℕ, List, Option, Some, Result, OnErr, OnOk, ap, sym, ◌∙◌}
use Rattle.std.proofs.lemmas.Result.{on_err_weaker, on_ok_weaker}
use Rattle.lr_model.proofs.ReadWriteFacts.{none_some, some_one}
use Rattle.lr_model.specs.declared.entry.Entry.{Entry}
use Rattle.lr_machine.specs.declared.event.Event.{Event}
use Rattle.lr_machine.specs.declared.event.Event.TheVariants.{Begin, Ask, Take, Check, Wake, Fire, Quit, RenewAsk, RenewTake}
use Rattle.lr_machine.specs.World.{World, clients_after, hold_key, next, next_row}
use Rattle.lr_waiting.specs.Client.{Client, client_row, take_renewed, take_reply}
use Rattle.lr_waiting.specs.Session.{begin_row, ask_row, check_row, wake_row, fire_row, quit_row, renew_row}
use Rattle.lr_clients.specs.Client.{ClientValue, clients_of}
use Rattle.lr_clients.specs.Rows.{client_alone, row_by}
use Rattle.lr_world.specs.World.{world_with}

row-at : (world : World) (row : Client → Option Client) (c client : ℕ) → Some c ≡ Some client
    → next_row world client (row (world.clients client))
    ≡ next_row world c (row (world.clients c))
row-at world row c client is =
    ap (λ (d : ℕ). next_row world d (row (world.clients d))) (sym (some_one c client is))

next-alone : (world : World) (event : Event) (client : ℕ) → client_alone event ≡ Some client
    → next_row world client (row_by world.moment event (world.clients client))
    ≡ next world event
next-alone world (Begin c t mode want) client is =
    row-at world (client_row (begin_row t mode want)) c client is
next-alone world (Ask c t) client is =
    row-at world (client_row (ask_row t world.moment)) c client is
next-alone world (Take c t) client is = row-at world (take_reply t) c client is
next-alone world (Check c t) client is =
    row-at world (client_row (check_row t world.moment)) c client is
next-alone world (Wake c t) client is = row-at world (client_row (wake_row t)) c client is
next-alone world (Fire c t) client is =
    row-at world (client_row (fire_row t world.moment)) c client is
next-alone world (Quit c t) client is = row-at world (client_row (quit_row t)) c client is
next-alone world (RenewAsk c t kind name) client is =
    row-at world (client_row (renew_row (hold_key c t kind name) world.moment)) c client is
next-alone world (RenewTake c t kind name) client is =
    row-at world (take_renewed (hold_key c t kind name)) c client is
next-alone world _ client is = absurd (none_some client (sym is))

-- the world whose clients these are
abbrev world_at : List Entry → ℕ → (ℕ → Client) → World
world_at entries moment clients =
    record { entries = entries; moment = moment; clients = clients }

same_world : (entries : List Entry) (moment : ℕ) (old new : List ClientValue)
    → clients_of new ≡ clients_of old
    → world_with entries moment new ≡ world_with entries moment old
same_world entries moment old new same = ap (world_at entries moment) same

next_world : (entries : List Entry) (moment : ℕ) (old new : List ClientValue) (event : Event)
    (client : ℕ) → client_alone event ≡ Some client
    → clients_of new
    ≡ clients_after (clients_of old) client (row_by moment event (clients_of old client))
    → world_with entries moment new ≡ next (world_with entries moment old) event
next_world entries moment old new event client is same =
    let row : world_with entries moment new
    ≡ next_row (world_with entries moment old) client
    (row_by moment event (clients_of old client)) = ap (world_at entries moment) same in
    row ∙ next-alone (world_with entries moment old) event client is

-- the world after a step of a client
pub alone-ok : {T E : Type 0} (result : Result T E) (entries : List Entry) (moment : ℕ)
    (old new : List ClientValue) (event : Event) (client : ℕ)
    → client_alone event ≡ Some client
    → OnOk result (clients_of new
    ≡ clients_after (clients_of old) client (row_by moment event (clients_of old client)))
    → OnOk result
    (world_with entries moment new ≡ next (world_with entries moment old) event)
alone-ok result entries moment old new event client is =
    on_ok_weaker result (next_world entries moment old new event client is)

-- and where it found no memory
pub alone-err : {T E : Type 0} (result : Result T E) (entries : List Entry) (moment : ℕ)
    (old new : List ClientValue) → OnErr result (clients_of new ≡ clients_of old)
    → OnErr result (world_with entries moment new ≡ world_with entries moment old)
alone-err result entries moment old new =
    on_err_weaker result (same_world entries moment old new)
