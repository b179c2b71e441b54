-- Clients that are cut off: their connections are closed one after the other.
use Rattle.std.proofs.Common.{◌≡◌, ◌≢◌, ◌==◌, ◌||◌, ℕ, suc, ◌+◌, ◌≤◌, ◌<◌, List, [], ◌∷◌, ◌++◌, map, drop, get_or, length, Bool, true, false, IsTrue, if◌then◌else◌, refl, sym, ap, ◌∙◌, subst, arith, append-nil, append_assoc, ◌⊎◌, inl, inr}
use Rattle.std.proofs.lemmas.Bool.{cases_eq, eq-eqb, ne_eqb}
use Rattle.std.proofs.Math.ListN.{drop_of_length-le}
use Rattle.std.proofs.Math.Seq.{drop-cons}
use Rattle.std.specs.List.{list_any}
use Rattle.lr_limits.specs.Limits.{last_moment}
use Rattle.lr_model.specs.declared.entry.Act.TheVariants.{Close}
use Rattle.lr_model.specs.declared.entry.Entry.{Entry}
use Rattle.lr_model.specs.Board.{Board, Connection, closed_connection, is_open, with_connection}
use Rattle.lr_model.specs.History.{State, after, step, entry_of as history_entry}
use Rattle.lr_model.specs.Table.{put}
use Rattle.lr_model.proofs.Tables.{one_table}
use Rattle.lr_waiting.specs.Client.{Client, cut_client}
use Rattle.lr_machine.specs.Clients.{client_at, client_caller, command_connection, subscription_connection}
use Rattle.lr_machine.specs.World.{World, closes_of_all, cut_among, first_state, state_of, with_cut}
use Rattle.lr_machine_laws.proofs.Worlds.{after-append}
use Rattle.lr_server.specs.Server.{ServerValue, entry_of, with_entry}
use Rattle.lr_world.specs.Cuts.{AreOpen, IsOpen, board_without}
use Rattle.lr_world.proofs.Servers.{entry_is}

-- the entry of a close
abbrev pub close_of : ℕ → ℕ → ℕ → Entry
close_of moment caller conn = history_entry moment caller conn Close

-- a server that has closed a connection
pub record IsClosed (before : List Entry) (entry : Entry) (now : ServerValue) : Type 0 where
  pub last : now.last ≡ 128
  pub entries : now.entries ≡ before ++ entry ∷ []
  pub state : after first_state now.entries ≡ step (after first_state before) entry

pub closed : (server : ServerValue) (moment caller conn : ℕ) (now : ServerValue)
    → server.last ≡ 128 → (after first_state server.entries).moment ≤ moment
    → moment ≤ last_moment → now ≡ with_entry server (entry_of server moment caller conn Close)
    → IsClosed server.entries (close_of moment caller conn) now
closed server moment caller conn now first in_time early is =
    let made = is ∙ ap (with_entry server) (entry_is server first moment caller conn Close in_time early) in
    let entries = ap (λ (s : ServerValue). s.entries) made in
    record {
      last = ap (λ (s : ServerValue). s.last) made ∙ first;
      entries = entries;
      state = ap (after first_state) entries
          ∙ after-append first_state server.entries (close_of moment caller conn ∷ []);
    }

-- the other connection stays open
pub hears-still : (board : Board) (client : ℕ) → IsOpen board client
    → IsTrue (is_open (with_connection board (command_connection client) closed_connection
    (subscription_connection client)))
hears-still board client opened =
    subst (λ (x : Connection). IsTrue (is_open x)) (sym same) opened.hears
  where
    same : with_connection board (command_connection client) closed_connection
        (subscription_connection client)
        ≡ board (subscription_connection client)
    same =
        ap (λ b. if b then closed_connection else board (subscription_connection client))
        (ne_eqb (command_connection client) (subscription_connection client)
        (λ e. omega (arith, e, opened.within.0)))

-- one client that is cut off
pub cut-one : (clients : ℕ → Client) (client : ℕ)
    → put ◌==◌ clients client (cut_client (clients client)) ≡ cut_among (client ∷ []) clients
cut-one clients client = one_table _ _ (λ d. by d (cases_eq client d))
  where
    by : (d : ℕ) → (client ≡ d) ⊎ (client ≢ d)
        → (if client == d then cut_client (clients client) else clients d)
        ≡ (if (d == client) || false then cut_client (clients d) else clients d)
    by d (inl same) =
        ap (λ b. if b then cut_client (clients client) else clients d) (eq-eqb client d same)
        ∙ ap (λ n. cut_client (clients n)) same
        ∙ sym (ap (λ b. if b || false then cut_client (clients d) else clients d)
        (eq-eqb d client (sym same)))
    by d (inr apart) =
        ap (λ b. if b then cut_client (clients client) else clients d) (ne_eqb client d apart)
        ∙ sym (ap (λ b. if b || false then cut_client (clients d) else clients d)
        (ne_eqb d client (λ e. apart (sym e))))

-- the entries of its end
pub closes-one : (before : List Entry) (moment client : ℕ)
    → (before ++ close_of moment (client_caller client) (command_connection client) ∷ [])
    ++ close_of moment (client_caller client) (subscription_connection client) ∷ []
    ≡ before ++ closes_of_all moment (client ∷ [])
closes-one before moment client =
    append_assoc before (close_of moment (client_caller client) (command_connection client) ∷ [])
    (close_of moment (client_caller client) (subscription_connection client) ∷ [])

-- cut off twice is cut off
cut-twice : (clients : ℕ → Client) (client : ℕ) (cs : List ℕ) → cut_among cs (cut_among (client ∷ []) clients)
    ≡ cut_among (client ∷ cs) clients
cut-twice clients client cs = one_table _ _ (λ d.
    by d (list_any (λ other. d == other) cs) (d == client))
  where
    by : (d : ℕ) (among is : Bool)
        → (if among then cut_client (if is || false then cut_client (clients d) else clients d)
        else (if is || false then cut_client (clients d) else clients d))
        ≡ (if is || among then cut_client (clients d) else clients d)
    by d true true = refl
    by d true false = refl
    by d false true = refl
    by d false false = refl

-- one after the other
pub cut-more : (world : World) (client : ℕ) (cs : List ℕ)
    → with_cut cs (with_cut (client ∷ []) world) ≡ with_cut (client ∷ cs) world
cut-more world client cs = λ i. record {
  entries = entries i;
  moment = world.moment;
  clients = cut-twice world.clients client cs i;
}
  where
    entries : (world.entries ++ closes_of_all world.moment (client ∷ [])) ++ closes_of_all world.moment cs
        ≡ world.entries ++ closes_of_all world.moment (client ∷ cs)
    entries = append_assoc world.entries (closes_of_all world.moment (client ∷ [])) (closes_of_all world.moment cs)

-- nobody is cut off
pub cut-none : (world : World) → with_cut [] world ≡ world
cut-none world = λ i. record {
  entries = append-nil world.entries i;
  moment = world.moment;
  clients = world.clients;
}

-- the server after a client's end
pub state-ended : (entries : List Entry) (moment client : ℕ)
    → after first_state (entries ++ closes_of_all moment (client ∷ []))
    ≡ record {
      moment = moment;
      objects = (after first_state entries).objects;
      board = board_without (after first_state entries).board client;
    }
state-ended entries moment client =
    after-append first_state entries (closes_of_all moment (client ∷ []))

-- a server that has closed both connections of a client
pub ended : (server now later : ServerValue) (moment client caller command subscription : ℕ)
    → server.last ≡ 128 → (after first_state server.entries).moment ≤ moment
    → moment ≤ last_moment → caller ≡ client_caller client
    → command ≡ command_connection client → subscription ≡ subscription_connection client
    → now ≡ with_entry server (entry_of server moment caller command Close)
    → later ≡ with_entry now (entry_of now moment caller subscription Close)
    → later.entries ≡ server.entries ++ closes_of_all moment (client ∷ [])
ended server now later moment client caller command subscription first in_time early is_caller
    is_command is_subscription made_now made_later =
    twice.entries ∙ ap (λ (entries : List Entry). entries ++ second ∷ []) once.entries
    ∙ closes-one server.entries moment client
  where
    second : Entry
    second = close_of moment (client_caller client) (subscription_connection client)

    once : IsClosed server.entries
        (close_of moment (client_caller client) (command_connection client)) now
    once =
        closed server moment (client_caller client) (command_connection client) now first in_time
        early
        (made_now
        ∙ ap (λ n. with_entry server (entry_of server moment n command Close)) is_caller
        ∙ ap (λ n. with_entry server (entry_of server moment (client_caller client) n Close))
        is_command)

    still : (after first_state now.entries).moment ≤ moment
    still =
        let same : (after first_state now.entries).moment ≡ moment =
        ap (λ (s : State). s.moment) once.state in
        omega (arith, same)

    twice : IsClosed now.entries second later
    twice =
        closed now moment (client_caller client) (subscription_connection client) later once.last
        still early
        (made_later
        ∙ ap (λ n. with_entry now (entry_of now moment n subscription Close)) is_caller
        ∙ ap (λ n. with_entry now (entry_of now moment (client_caller client) n Close))
        is_subscription)

-- Clients that are cut off one after the other, so many of them so far.
pub record AreCut (all : List ℕ) (first : World) (n : ℕ) (now : World) : Type 0 where
  pub in_time : (state_of now).moment ≤ now.moment
  pub opened : AreOpen (state_of now).board (map client_at (drop n all))
  pub world : with_cut (map client_at (drop n all)) now ≡ with_cut (map client_at all) first

-- the next one
next-first : (all : List ℕ) (n : ℕ) → n < length all → map client_at (drop n all)
    ≡ client_at (get_or all n 0) ∷ map client_at (drop (n + 1) all)
next-first all n below =
    let next : suc n ≡ n + 1 = omega arith in
    ap (map client_at) (drop-cons all n 0 below)
    ∙ ap (λ m. client_at (get_or all n 0) ∷ map client_at (drop m all)) next

pub next-open : (all : List ℕ) (first : World) (n : ℕ) (now : World) → n < length all
    → AreCut all first n now → IsOpen (state_of now).board (client_at (get_or all n 0))
next-open all first n now below so =
    (subst (AreOpen (state_of now).board) (next-first all n below) so.opened).0

pub next-cut : (all : List ℕ) (first : World) (n : ℕ) (now next : World) → n < length all
    → AreCut all first n now → next ≡ with_cut (client_at (get_or all n 0) ∷ []) now
    → AreCut all first (n + 1) next
next-cut all first n now next below so is = record {
  in_time =
      let moment : next.moment ≡ now.moment = ap (λ (w : World). w.moment) is in
      let same : (state_of next).moment ≡ now.moment = ap (λ (s : State). s.moment) state in
      omega (arith, moment, same);
  opened =
      subst (λ (s : State). AreOpen s.board (map client_at (drop (n + 1) all))) (sym state)
      (subst (AreOpen (state_of now).board) (next-first all n below) so.opened).1;
  world =
      ap (with_cut (map client_at (drop (n + 1) all))) is
      ∙ cut-more now (client_at (get_or all n 0)) (map client_at (drop (n + 1) all))
      ∙ sym (ap (λ cs. with_cut cs now) (next-first all n below)) ∙ so.world;
}
  where
    state : state_of next ≡ record {
      moment = now.moment;
      objects = (state_of now).objects;
      board = board_without (state_of now).board (client_at (get_or all n 0));
    }
    state = ap state_of is ∙ state-ended now.entries now.moment (client_at (get_or all n 0))

-- all of them
pub all-cut : (all : List ℕ) (first : World) (n : ℕ) (now : World) → length all ≤ n
    → AreCut all first n now → now ≡ with_cut (map client_at all) first
all-cut all first n now over so =
    sym (cut-none now)
    ∙ sym (ap (λ l. with_cut (map client_at l) now) (drop_of_length-le all over)) ∙ so.world
