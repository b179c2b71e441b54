-- What the server's steps come to for the pass that made them.
use Rattle.std.proofs.Common.{◌≡◌, ◌≢◌, ◌↔◌, ℕ, Bool, true, false, if◌then◌else◌, List, [], ◌∷◌, Option, Some, None, refl, sym, ap, ◌∙◌, subst, eq-eqb, ◌⊎◌, inl, inr, ◌++◌}
use Rattle.std.specs.Prelude.{Result, Ok, Err, IfOk, OnOk, OnErr, IsSome, IsTrue}
use Rattle.std.specs.Option.{ForSome}
use Rattle.lr_commands.specs.declared.request.Request.{Request}
use Rattle.lr_commands.specs.declared.request.Request.TheVariants as requests
use Rattle.lr_history.specs.Limit.{is_refused}
use Rattle.lr_names.specs.Channel.{ChannelOf}
use Rattle.lr_names.specs.declared.post.Push.{Push}
use Rattle.lr_model.specs.declared.entry.Act.{Act}
use Rattle.lr_model.specs.declared.entry.Act.TheVariants as acts
use Rattle.lr_model.specs.declared.entry.Entry.{Entry}
use Rattle.lr_model.specs.Board.{free_numbers, Board, Connection}
use Rattle.lr_model.specs.History.{State, Opens, result_of, after, state_at_start, IsLegal}
use Rattle.lr_server.specs.declared.answered.Answer.TheVariants as answers
use Rattle.lr_server.specs.declared.answered.Answered.{Answered}
use Rattle.lr_server.specs.declared.fault.StepFault.{StepFault}
use Rattle.lr_server.specs.declared.fault.StepFault.TheVariants.{TooManyConnections, HistoryFull, Dropped}
use Rattle.lr_server.specs.Server.{ServerValue, state_of, connection_of, entry_of, act_of, is_only_subscribed, takes_some, entry_made, drain_made, result_made, result_in, post_in, reached_of, dropped_of, told_by, IsTold, IsHandedOut, fault_of, drain_fault, act_on_one, with_entry, with_made}
use Rattle.lr_server.specs.Looked.{IsAnsweredQuietly, is_out_of_place, is_quiet, is_step, quiet_fault}
use Rattle.lr_turnstile.specs.declared.view.View.{View}
use Rattle.lr_service.specs.declared.fault.TryFault.{TryFault}
use Rattle.lr_service.specs.declared.fault.TryFault.TheVariants as tries
use Rattle.lr_turnstile.specs.Passes.{WasBusy}
use Rattle.lr_turnstile.specs.Views.{Grew, HasOwn, IsSame, looked, took}
use Rattle.lr_service.specs.Closes.{MayClose, IsOwnClose, has_open}
use Rattle.lr_service.specs.Served.{server_at, IsServed}
use Rattle.lr_service.specs.Passes.{IsOwnConnection, CanClose, KeepsConnections}
use Rattle.lr_service.specs.Calls.{HadTurn, IsServedTo, IsShownTo, IsTried, IsTriedShown, IsOpened, IsDrained, IsClosed}
use Rattle.lr_service.proofs.Openers.{has_open-push, IsLegal-right, apart_if_free, first_stays}
use Rattle.lr_server.proofs.Asked.{asked_or_quiet, out_of_place}
use Rattle.lr_server.proofs.Serves.{least_is_free}
use Rattle.lr_service.proofs.Connections.{own_is, keeps_by, keeps_others}
use Rattle.lr_service.proofs.HadTurns.{made_by, made_is, opened_by, had_by, had_opened, had_turn_on, same_if}

-- What is so of each entry that a step can make.

module _ (P : Entry → Type 0) where
  pub for_one : (entry : Entry) → P entry → ForSome (Some entry) P
  for_one entry p x is = let same : entry ≡ x = cc in subst P same p

  pub for_none : ForSome None P
  for_none x is = absurd (cc)

  for_if : (b : Bool) (entry : Entry) → P entry → ForSome (if b then None else Some entry) P
  for_if true entry p = for_none
  for_if false entry p = for_one entry p

  for_then : (b : Bool) (entry : Entry) → P entry → ForSome (if b then Some entry else None) P
  for_then true entry p = for_one entry p
  for_then false entry p = for_none

  for_made : {A E : Type 0} (result : Result A E) (made : Option Entry) → ForSome made P
      → ForSome (made_by result made) P
  for_made (Ok value) made p = p
  for_made (Err fault) made p = for_none

  pub for_found : (made found : Option Entry) → found ≡ made → ForSome made P → ForSome found P
  for_found made found is p = subst (λ o. ForSome o P) (sym is) p

  pub for_step : (result : Result Answered StepFault) (server : ServerValue)
      (reading caller conn : ℕ) (act : Act) → P (entry_of server reading caller conn act)
      → ForSome (made_by result (entry_made server reading caller conn act)) P
  for_step result server reading caller conn act p =
      for_made result (entry_made server reading caller conn act)
      (for_if (is_only_subscribed act (connection_of server conn))
      (entry_of server reading caller conn act) p)

  pub for_drain : (result : Result (List Push) StepFault) (server : ServerValue)
      (reading caller conn most : ℕ) → P (entry_of server reading caller conn (acts.Drain most))
      → ForSome (made_by result (drain_made server reading caller conn most)) P
  for_drain result server reading caller conn most p =
      for_made result (drain_made server reading caller conn most)
      (for_then (takes_some most (connection_of server conn))
      (entry_of server reading caller conn (acts.Drain most)) p)

  pub for_opened : (result : Result ℕ StepFault) (entry : ℕ → Entry) → ((c : ℕ) → P (entry c))
      → ForSome (opened_by result entry) P
  for_opened (Ok conn) entry p = for_one (entry conn) (p conn)
  for_opened (Err fault) entry p = for_none

-- What a request asks.

-- it isn't a close
pub asked_may : (request : Request) (act : Act) → act_of request ≡ Some act
    → (state : State) (entry : Entry) → MayClose state entry act
asked_may request (acts.Call op) is state entry = tt
asked_may request (acts.Subscribe channel) is state entry = tt
asked_may request (acts.Unsubscribe channel) is state entry = tt
asked_may request acts.Open is state entry = tt
asked_may request (acts.Drain most) is state entry = tt
asked_may request acts.Close is state entry = absurd (no_close request is)
  where
    one : (make : ChannelOf → Act) → ((c : ChannelOf) → make c ≡ acts.Close → ⊥)
        → (channels : List ChannelOf) → act_on_one make channels ≡ Some acts.Close → ⊥
    one make n [] e = cc
    one make n (c ∷ []) e = let same : make c ≡ acts.Close = cc in n c same
    one make n (c ∷ d ∷ rest) e = cc

    no_close : (r : Request) → act_of r ≡ Some acts.Close → ⊥
    no_close (requests.Call op) e = cc
    no_close (requests.Look look) e = cc
    no_close (requests.Subscribe channels) e = one acts.Subscribe (λ c same. cc) channels e
    no_close (requests.Unsubscribe channels) e = one acts.Unsubscribe (λ c same. cc) channels e
    no_close requests.UnsubscribeAll e = cc
    no_close (requests.Ping text) e = cc
    no_close requests.Quit e = cc

-- A request.

pub told_if : (state : State) (made : Option Entry) (result : Result Answered StepFault)
    → IfOk result (λ a. told_by a.answer ≡ result_in state made)
    → IfOk result (λ a. a.post ≡ post_in state made)
    → IfOk result (λ a. a.reached ≡ reached_of (post_in state made) state.board)
    → IfOk result (λ a. a.dropped ≡ dropped_of (post_in state made) state.board)
    → IfOk result (IsTold state made)
told_if state made (Ok a) t p r d = record { answer = t; post = p; reached = r; dropping = d }
told_if state made (Err fault) t p r d = tt

-- what the server says of a request that it was asked, and what was found in its history
pub record IsStep (reading caller conn : ℕ) (act : Act) (result : Result Answered StepFault)
    (found : Option Entry) (server : ServerValue) : Type 0 where
  pub made : found ≡ made_by result (entry_made server reading caller conn act)
  pub told : IfOk result (IsTold (state_of server) (entry_made server reading caller conn act))
  pub only_subscribed : IfOk result (λ a. (a.answer ≡ answers.OnlySubscribed)
      ↔ IsTrue (is_only_subscribed act (connection_of server conn)))
  pub full : (result ≡ Err HistoryFull) ↔ (fault_of server conn act ≡ Some HistoryFull)
  pub dropped : (result ≡ Err Dropped) ↔ (fault_of server conn act ≡ Some Dropped)
  pub not_too_many : result ≢ Err TooManyConnections

pub served_here : (v now : View) (server : ServerValue) (reading caller conn : ℕ) (act : Act)
    (result : Result Answered StepFault) (found : Option Entry) → IsServed server v.seen
    → caller ≡ v.caller → IsStep reading caller conn act result found server
    → HadTurn v v.seen found now → IsServedTo v reading conn act result now
served_here v now server reading caller conn act result found served same is had =
    let here : IsStep reading v.caller conn act result found (server_at v.seen) =
    subst (λ (z : ℕ × ServerValue). IsStep reading z.0 conn act result found z.1)
    (λ i. (same i, served.is i)) is in
    let made : Option Entry = entry_made (server_at v.seen) reading v.caller conn act in
    let both = had_by v now v.seen result made
    (subst (λ o. HadTurn v v.seen o now) here.made had) in record {
      history = v.seen;
      told = here.told;
      only_subscribed = here.only_subscribed;
      ok = both.0;
      err = both.1;
      full = here.full;
      dropped = here.dropped;
      not_too_many = here.not_too_many;
    }

-- what it says of an act whose request is refused on a connection that has a channel
pub refused_if : (request : Request) (act : Act) (connection : Connection)
    (result : Result Answered StepFault) → act_of request ≡ Some act
    → IfOk result (λ a. (a.answer ≡ answers.OnlySubscribed)
    ↔ IsTrue (is_out_of_place request connection))
    → IfOk result (λ a. (a.answer ≡ answers.OnlySubscribed)
    ↔ IsTrue (is_only_subscribed act connection))
refused_if request act connection result asked refused =
    subst (λ b. IfOk result (λ a. (a.answer ≡ answers.OnlySubscribed) ↔ IsTrue b))
    (out_of_place request act connection asked) refused

-- A look or a ping.

pub shown_here : (v now : View) (server : ServerValue) (reading conn : ℕ) (request : Request)
    (result : Result Answered StepFault) → IsServed server v.seen
    → IfOk result (IsAnsweredQuietly server reading conn request) → result ≢ Err HistoryFull
    → ((result ≡ Err Dropped)
    ↔ (quiet_fault (connection_of server conn) request ≡ Some Dropped))
    → result ≢ Err TooManyConnections → HadTurn v v.seen None now
    → IsShownTo v reading conn request result now
shown_here v now server reading conn request result served answered full dropped many had =
    record {
      history = v.seen;
      answered = subst (λ s. IfOk result (IsAnsweredQuietly s reading conn request)) served.is
          answered;
      turn = had;
      not_full = full;
      dropped = subst (λ s. (result ≡ Err Dropped)
          ↔ (quiet_fault (connection_of s conn) request ≡ Some Dropped)) served.is dropped;
      not_too_many = many;
    }

-- the same as the pass knew it before it had the turn
pub shown_on : (u v now : View) (reading conn : ℕ) (request : Request)
    (result : Result Answered StepFault) → IsSame u v → v.mine ≡ u.mine → Grew u v.seen
    → IsShownTo v reading conn request result now → IsShownTo u reading conn request result now
shown_on u v now reading conn request result same mine grew s = record {
  history = s.history;
  answered = s.answered;
  turn = had_turn_on u v now s.history None same mine grew s.turn;
  not_full = s.not_full;
  dropped = s.dropped;
  not_too_many = s.not_too_many;
}

-- What a request made.

-- what the server has now was made by a pass that may make it
pub record IsMade (v : View) (old new : ServerValue) : Type 0 where
  pub made : Option Entry
  pub is : new ≡ with_made old made
  pub may : ForSome made (λ entry. MayClose (after (state_at_start 0) v.seen) entry entry.act)
  pub own : ForSome made (λ entry. entry.caller ≡ v.caller)

pub made_for : (v : View) (old new : ServerValue) (reading caller conn : ℕ) (request : Request)
    (result : Result Answered StepFault) → caller ≡ v.caller → IsTrue (is_step request)
    → (IsTrue (is_quiet request) → new ≡ old)
    → ((act : Act) → act_of request ≡ Some act
    → OnOk result (new ≡ with_made old (entry_made old reading caller conn act)))
    → OnErr result (new ≡ old) → IsMade v old new
made_for v old new reading caller conn request result its step quiet acted err =
    by (asked_or_quiet request step)
  where
    by : IsTrue (is_quiet request) ⊎ ((act : Act) × (act_of request ≡ Some act))
        → IsMade v old new
    by (inl is_quiet) = record {
      made = None;
      is = quiet is_quiet;
      may = for_none (λ entry. MayClose (after (state_at_start 0) v.seen) entry entry.act);
      own = for_none (λ entry. entry.caller ≡ v.caller);
    }
    by (inr asked) =
        let act : Act = asked.0 in record {
          made = made_by result (entry_made old reading caller conn act);
          is = made_is old new result (entry_made old reading caller conn act)
              (acted act asked.1) err;
          may = for_step (λ entry. MayClose (after (state_at_start 0) v.seen) entry entry.act)
              result old reading caller conn act (asked_may request act asked.1 _ _);
          own = for_step (λ entry. entry.caller ≡ v.caller) result old reading caller conn act its;
        }

-- A drain.

pub record IsDrain (reading caller conn most : ℕ) (result : Result (List Push) StepFault)
    (found : Option Entry) (server : ServerValue) : Type 0 where
  pub made : found ≡ made_by result (drain_made server reading caller conn most)
  pub items : IfOk result (λ items. IsHandedOut items
      (result_made server (drain_made server reading caller conn most)))
  pub full : (result ≡ Err HistoryFull) ↔ (drain_fault server conn most ≡ Some HistoryFull)
  pub dropped : (result ≡ Err Dropped) ↔ (drain_fault server conn most ≡ Some Dropped)
  pub not_too_many : result ≢ Err TooManyConnections

-- the same as the pass knew it before it had the turn
if_had : {A E : Type 0} (result : Result A E) (u v now : View) (history : List Entry)
    (made : Option Entry) → IsSame u v → v.mine ≡ u.mine → Grew u v.seen
    → OnOk result (HadTurn v history made now) → OnOk result (HadTurn u history made now)
if_had (Ok value) u v now history made same mine grew had =
    had_turn_on u v now history made same mine grew had
if_had (Err fault) u v now history made same mine grew had = tt

if_not : {A E : Type 0} (result : Result A E) (u v now : View) (history : List Entry) → IsSame u v
    → v.mine ≡ u.mine → Grew u v.seen → OnErr result (HadTurn v history None now)
    → OnErr result (HadTurn u history None now)
if_not (Ok value) u v now history same mine grew had = tt
if_not (Err fault) u v now history same mine grew had =
    had_turn_on u v now history None same mine grew had

pub drained_here : (u v now : View) (server : ServerValue) (reading caller conn most : ℕ)
    (result : Result (List Push) StepFault) (found : Option Entry) → IsServed server v.seen
    → caller ≡ v.caller → IsSame u v → v.mine ≡ u.mine → Grew u v.seen
    → IsDrain reading caller conn most result found server
    → HadTurn v v.seen found now → IsDrained u reading conn most result now
drained_here u v now server reading caller conn most result found served its same mine grew is had =
    let here : IsDrain reading u.caller conn most result found (server_at v.seen) =
    subst (λ (z : ℕ × ServerValue). IsDrain reading z.0 conn most result found z.1)
    (λ i. ((its ∙ same.caller) i, served.is i)) is in
    let made : Option Entry = drain_made (server_at v.seen) reading u.caller conn most in
    let both = had_by v now v.seen result made
    (subst (λ o. HadTurn v v.seen o now) here.made had) in record {
      history = v.seen;
      items = here.items;
      ok = if_had result u v now v.seen made same mine grew both.0;
      err = if_not result u v now v.seen same mine grew both.1;
      full = here.full;
      dropped = here.dropped;
      not_too_many = here.not_too_many;
    }

-- An opening.

pub record IsOpening (reading caller : ℕ) (result : Result ℕ StepFault) (found : Option Entry)
    (server : ServerValue) : Type 0 where
  pub made : found ≡ opened_by result (λ conn. entry_of server reading caller conn acts.Open)
  pub number : IfOk result (λ conn. Opens conn
      ≡ result_of (state_of server) (entry_of server reading caller conn acts.Open))
  pub too_many : (result ≡ Err TooManyConnections) ↔ (free_numbers (state_of server).board ≡ [])
  pub full : (result ≡ Err HistoryFull) ↔ (free_numbers (state_of server).board ≢ [])
      × IsTrue (is_refused server.entries acts.Open)
  pub not_dropped : result ≢ Err Dropped

if_opened : (result : Result ℕ StepFault) (u v now : View) (history : List Entry)
    (entry : ℕ → Entry) → IsSame u v → v.mine ≡ u.mine → Grew u v.seen
    → IfOk result (λ conn. HadTurn v history (Some (entry conn)) now)
    → IfOk result (λ conn. HadTurn u history (Some (entry conn)) now)
if_opened (Ok conn) u v now history entry same mine grew had =
    had_turn_on u v now history (Some (entry conn)) same mine grew had
if_opened (Err fault) u v now history entry same mine grew had = tt

pub opened_here : (u v now : View) (server : ServerValue) (reading caller : ℕ)
    (result : Result ℕ StepFault) (found : Option Entry) → IsServed server v.seen
    → caller ≡ v.caller → IsSame u v → v.mine ≡ u.mine → Grew u v.seen
    → IsOpening reading caller result found server
    → HadTurn v v.seen found now → IsOpened u reading result now
opened_here u v now server reading caller result found served its same mine grew is had =
    let here : IsOpening reading u.caller result found (server_at v.seen) =
    subst (λ (z : ℕ × ServerValue). IsOpening reading z.0 result found z.1)
    (λ i. ((its ∙ same.caller) i, served.is i)) is in
    let entry : ℕ → Entry =
    λ conn. entry_of (server_at v.seen) reading u.caller conn acts.Open in
    let both = had_opened v now v.seen result entry
    (subst (λ o. HadTurn v v.seen o now) here.made had) in record {
      history = v.seen;
      number = here.number;
      ok = if_opened result u v now v.seen entry same mine grew both.0;
      err = if_not result u v now v.seen same mine grew both.1;
      too_many = here.too_many;
      full = here.full;
      not_dropped = here.not_dropped;
    }

-- whose connection it then is, beside those that were the pass's own
pub opened_own : (u now : View) (reading : ℕ) (result : Result ℕ StepFault)
    → IsOpened u reading result now → IfOk result (IsOwnConnection now)
opened_own u now reading (Err fault) is = tt
opened_own u now reading (Ok conn) is =
    let entry : Entry = entry_of (server_at is.history) reading u.caller conn acts.Open in
    ap (λ (l : List Entry). has_open conn l) is.ok.mine
    ∙ (has_open-push conn false u.mine entry
    ∙ ap (λ (b : Bool). if b then true else has_open conn u.mine) (eq-eqb conn conn refl))

-- it isn't connection 0, which is always open
pub opened_not_first : (v : View) (old new : ServerValue) (reading caller : ℕ)
    (result : Result ℕ StepFault) → IsServed old v.seen
    → new ≡ with_made old (opened_by result (λ conn. entry_of old reading caller conn acts.Open))
    → IsLegal (state_at_start new.last) new.entries → IfOk result (λ conn. conn ≢ 0)
opened_not_first v old new reading caller (Err fault) served is legal = tt
opened_not_first v old new reading caller (Ok conn) served is legal =
    let start : State = state_at_start 0 in
    let entry : Entry = entry_of old reading caller conn acts.Open in
    let board : Board = (after start v.seen).board in
    let now : new ≡ server_at (v.seen ++ entry ∷ []) =
    is ∙ ap (λ (s : ServerValue). with_entry s entry) served.is in
    let longer : IsLegal start (v.seen ++ entry ∷ []) =
    subst (λ (s : ServerValue). IsLegal (state_at_start s.last) s.entries) now legal in
    let may = IsLegal-right start v.seen (entry ∷ []) longer in
    apart_if_free board conn 0 0 (least_is_free board conn may.0.allowed.free).1
    (first_stays start v.seen served.legal served.closes refl)

-- A close.

pub may_close : (v : View) (server : ServerValue) (reading caller conn : ℕ) → HasOwn v
    → IsServed server v.seen → caller ≡ v.caller → CanClose v conn
    → IsOwnClose (after (state_at_start 0) v.seen)
    (entry_of server reading caller conn acts.Close)
may_close v server reading caller conn known served its can = record {
  own = own_is v server conn known served can.own ∙ ap Some (sym its);
  not_first = can.not_first;
}

pub closed_here : (u v now : View) (server : ServerValue) (reading caller conn : ℕ)
    (found : Option Entry) → IsServed server v.seen → caller ≡ v.caller → IsSame u v
    → v.mine ≡ u.mine → Grew u v.seen
    → found ≡ Some (entry_of server reading caller conn acts.Close)
    → HadTurn v v.seen found now → IsClosed u reading conn now
closed_here u v now server reading caller conn found served its same mine grew made had =
    let entry : Entry = entry_of (server_at v.seen) reading u.caller conn acts.Close in
    let here : found ≡ Some entry =
    subst (λ (z : ℕ × ServerValue). found ≡ Some (entry_of z.1 reading z.0 conn acts.Close))
    (λ i. ((its ∙ same.caller) i, served.is i)) made in record {
      history = v.seen;
      made = had_turn_on u v now v.seen (Some entry) same mine grew
          (subst (λ o. HadTurn v v.seen o now) here had);
    }

-- A gate that was entered at once.

pub entered_same : (u v : View) (word : ℕ) → v ≡ took (looked u v.seen word) v.seen word
    → IsSame u v
entered_same u v word is = same_if u v (took (looked u v.seen word) v.seen word) is refl refl refl
    refl refl refl

-- What stays the pass's own.

abbrev any_entry : Entry
any_entry = record { moment = 0; caller = 0; conn = 0; act = acts.Close }

not_close : (request : Request) (act : Act) → act_of request ≡ Some act → act ≢ acts.Close
not_close request act is close =
    (asked_may request acts.Close (is ∙ ap Some close) (state_at_start 0) any_entry).not_first refl

abbrev IsKept : Entry → Type 0
IsKept entry = entry.act ≢ acts.Close

served_keeps : (u now : View) (reading conn : ℕ) (request : Request) (act : Act)
    (result : Result Answered StepFault) → act_of request ≡ Some act
    → IsServedTo u reading conn act result now → KeepsConnections u now
served_keeps u now reading conn request act (Ok answered) asked s =
    let server : ServerValue = server_at s.history in
    keeps_by u now (entry_made server reading u.caller conn act) s.ok.mine
    (for_if IsKept (is_only_subscribed act (connection_of server conn))
    (entry_of server reading u.caller conn act) (not_close request act asked))
served_keeps u now reading conn request act (Err fault) asked s =
    keeps_by u now None s.err.mine (for_none IsKept)

shown_keeps : (u now : View) (reading conn : ℕ) (request : Request)
    (result : Result Answered StepFault) → IsShownTo u reading conn request result now
    → KeepsConnections u now
shown_keeps u now reading conn request result s = keeps_by u now None s.turn.mine (for_none IsKept)

-- each request
pub request_keeps : (u now : View) (reading conn : ℕ) (request : Request)
    (result : Result Answered StepFault) → IsTrue (is_step request)
    → ((act : Act) → act_of request ≡ Some act → IsServedTo u reading conn act result now)
    → (IsTrue (is_quiet request) → IsShownTo u reading conn request result now)
    → KeepsConnections u now
request_keeps u now reading conn request result step served shown =
    by (asked_or_quiet request step)
  where
    by : IsTrue (is_quiet request) ⊎ ((act : Act) × (act_of request ≡ Some act))
        → KeepsConnections u now
    by (inl quiet) = shown_keeps u now reading conn request result (shown quiet)
    by (inr asked) =
        served_keeps u now reading conn request asked.0 result asked.1 (served asked.0 asked.1)

busy_keeps : (u now : View) (word : ℕ) → WasBusy u word now → KeepsConnections u now
busy_keeps u now word (inl b) =
    keeps_by u now None (ap (λ z. z.mine) b.look.view) (for_none IsKept)
busy_keeps u now word (inr b) = keeps_by u now None (ap (λ z. z.mine) b.view) (for_none IsKept)

tried_keeps : (u now : View) (reading conn : ℕ) (request : Request) (act : Act)
    (result : Result Answered TryFault) → act_of request ≡ Some act
    → IsTried u reading conn act result now → KeepsConnections u now
tried_keeps u now reading conn request act (Ok answered) asked s =
    served_keeps u now reading conn request act (Ok answered) asked s
tried_keeps u now reading conn request act (Err (tries.Step fault)) asked s =
    served_keeps u now reading conn request act (Err fault) asked s
tried_keeps u now reading conn request act (Err (tries.Busy word)) asked s =
    busy_keeps u now word s

tried_shown_keeps : (u now : View) (reading conn : ℕ) (request : Request)
    (result : Result Answered TryFault) → IsTriedShown u reading conn request result now
    → KeepsConnections u now
tried_shown_keeps u now reading conn request (Ok answered) s =
    shown_keeps u now reading conn request (Ok answered) s
tried_shown_keeps u now reading conn request (Err (tries.Step fault)) s =
    shown_keeps u now reading conn request (Err fault) s
tried_shown_keeps u now reading conn request (Err (tries.Busy word)) s = busy_keeps u now word s

pub try_keeps : (u now : View) (reading conn : ℕ) (request : Request)
    (result : Result Answered TryFault) → IsTrue (is_step request)
    → ((act : Act) → act_of request ≡ Some act → IsTried u reading conn act result now)
    → (IsTrue (is_quiet request) → IsTriedShown u reading conn request result now)
    → KeepsConnections u now
try_keeps u now reading conn request result step tried shown =
    by (asked_or_quiet request step)
  where
    by : IsTrue (is_quiet request) ⊎ ((act : Act) × (act_of request ≡ Some act))
        → KeepsConnections u now
    by (inl quiet) = tried_shown_keeps u now reading conn request result (shown quiet)
    by (inr asked) =
        tried_keeps u now reading conn request asked.0 result asked.1 (tried asked.0 asked.1)

pub drained_keeps : (u now : View) (reading conn most : ℕ) (result : Result (List Push) StepFault)
    → IsDrained u reading conn most result now → KeepsConnections u now
drained_keeps u now reading conn most (Ok items) s =
    let server : ServerValue = server_at s.history in
    keeps_by u now (drain_made server reading u.caller conn most) s.ok.mine
    (for_then IsKept (takes_some most (connection_of server conn))
    (entry_of server reading u.caller conn (acts.Drain most)) (λ is. absurd (cc)))
drained_keeps u now reading conn most (Err fault) s =
    keeps_by u now None s.err.mine (for_none IsKept)

pub opened_keeps : (u now : View) (reading : ℕ) (result : Result ℕ StepFault)
    → IsOpened u reading result now → KeepsConnections u now
opened_keeps u now reading (Ok conn) s =
    let entry : Entry = entry_of (server_at s.history) reading u.caller conn acts.Open in
    keeps_by u now (Some entry) s.ok.mine (for_one IsKept entry (λ is. absurd (cc)))
opened_keeps u now reading (Err fault) s = keeps_by u now None s.err.mine (for_none IsKept)

pub closed_keeps : (u now : View) (reading conn : ℕ) → IsClosed u reading conn now
    → (other : ℕ) → other ≢ conn → IsOwnConnection u other → IsOwnConnection now other
closed_keeps u now reading conn s =
    keeps_others u now (entry_of (server_at s.history) reading u.caller conn acts.Close) conn refl
    refl s.made.mine
