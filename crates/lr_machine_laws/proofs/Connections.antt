-- The connections of a world's clients: which are open, and that no message reaches others than
-- those of clients that weren't cut off.
use Rattle.std.proofs.Common.{◌≡◌, ◌≢◌, ℕ, ◌≤◌, ◌<◌, ◌==◌, List, [], ◌∷◌, map, Bool, true, false, not, ◌&&◌, ◌||◌, IsTrue, nat_le, Some, if◌then◌else◌, refl, sym, ap, ◌∙◌, subst, arith, ◌⊎◌, inl, inr}
use Rattle.std.proofs.lemmas.Bool.{false≢true, le-leb, eq-eqb, ne_eqb, cases_eq}
use Rattle.std.proofs.lemmas.List.Elements.{recursion_from_All}
use Rattle.std.specs.List.{AllByRecursion, list_any}
use Rattle.lr_names.specs.declared.post.Post.{Post}
use Rattle.lr_names.specs.declared.post.Push.TheVariants.{Message}
use Rattle.lr_model.specs.Board.{Board, Connection, new_connection, closed_connection, board_after_post, connection_after_post, dropped_connection, with_item, has_channel, has_room, is_open, is_overrun, dropped_by, same_channel}
use Rattle.lr_model.specs.History.{CanCall}
use Rattle.lr_waiting.specs.Client.{Client, cut_client}
use Rattle.lr_machine.specs.Clients.{client_at, command_connection, subscription_connection}
use Rattle.lr_machine.specs.Sound.{IsConnected, IsHeard, AreConnected}
use Rattle.lr_machine.specs.Within.{IsClient}
use Rattle.lr_machine.specs.World.{first_state, first_client, cut_among, clients_dropped}
use Rattle.lr_model.proofs.Numbers.{below_has, below_all}

-- At the start.

-- a connection of a server that has just started
abbrev connection_at_start : Bool → Connection
connection_at_start opens = if opens then new_connection 0 else closed_connection

-- the connections 0 to 128 may run functions
pub CanCall-at_start : (conn : ℕ) → conn ≤ 128 → CanCall (first_state.board conn)
CanCall-at_start conn le = by_test (nat_le conn 128) (le-leb conn 128 le)
  where
    by_test : (opens : Bool) → opens ≡ true → CanCall (connection_at_start opens)
    by_test true e = record { open_ = refl; kept = refl; quiet = refl }
    by_test false e = absurd (false≢true e)

channels_at_start : (conn : ℕ) → (first_state.board conn).channels ≡ []
channels_at_start conn = by_test (nat_le conn 128)
  where
    by_test : (opens : Bool) → (connection_at_start opens).channels ≡ []
    by_test true = refl
    by_test false = refl

pub AreConnected-first : AreConnected first_state.board first_client
AreConnected-first = record {
  operator = CanCall-at_start 0 (omega arith);
  each = λ c within uncut.
      let hears = CanCall-at_start (subscription_connection c) (omega (arith, within.1)) in
      record {
        calls = CanCall-at_start (command_connection c) (omega (arith, within.1));
        open_ = hears.open_;
        kept = hears.kept;
      };
  quiet = λ conn some. absurd (some (channels_at_start conn));
}

-- Clients that change, but aren't cut off.

pub AreConnected-same_cut : (board : Board) (before now : ℕ → Client)
    → ((c : ℕ) → (now c).session.is_cut ≡ (before c).session.is_cut)
    → AreConnected board before → AreConnected board now
AreConnected-same_cut board before now same connected = record {
  operator = connected.operator;
  each = λ c within uncut. connected.each c within (sym (same c) ∙ uncut);
  quiet = λ conn some.
      let heard = connected.quiet conn some in
      record {
        client = heard.client;
        within = heard.within;
        uncut = same heard.client ∙ heard.uncut;
        at = heard.at;
      };
}

-- A message.

-- a connection without channels stays as it is
pub unreached : (post : Post) (connection : Connection)
    → connection.channels ≡ [] → connection_after_post post connection ≡ connection
unreached post connection none = rw none refl

-- a connection after a message: does it have the channel, and has its outbox room?
abbrev after_tests : Bool → Bool → Post → Connection → Connection
after_tests has room post connection =
    if has
    then (if room then with_item (Message post.channel post.wakes) connection
    else dropped_connection connection)
    else connection

-- a message opens and closes nothing
pub open-after_post : (post : Post) (connection : Connection)
    → is_open (connection_after_post post connection) ≡ is_open connection
open-after_post post connection =
    by_tests (has_channel post.channel connection) (has_room connection)
  where
    by_tests : (has room : Bool)
        → is_open (after_tests has room post connection) ≡ is_open connection
    by_tests true true = refl
    by_tests true false = refl
    by_tests false room = refl

-- it drops only who is overrun
kept-after_post : (post : Post) (connection : Connection) → is_overrun post connection ≡ false
    → connection.dropped ≡ false → (connection_after_post post connection).dropped ≡ false
kept-after_post post connection =
    by_tests (has_channel post.channel connection) (has_room connection)
  where
    by_tests : (has room : Bool) → (has && not room) ≡ false → connection.dropped ≡ false
        → (after_tests has room post connection).dropped ≡ false
    by_tests true true apart kept = kept
    by_tests true false apart kept = absurd (false≢true (sym apart))
    by_tests false room apart kept = kept

-- it gives nobody a channel, and who is overrun has none afterwards
channels-after_post : (post : Post) (connection : Connection)
    → (connection_after_post post connection).channels ≢ [] → connection.channels ≢ []
channels-after_post post connection =
    by_tests (has_channel post.channel connection) (has_room connection)
  where
    by_tests : (has room : Bool) → (after_tests has room post connection).channels ≢ []
        → connection.channels ≢ []
    by_tests true true some = some
    by_tests true false some = absurd (some refl)
    by_tests false room some = some

overrun-has_none : (post : Post) (connection : Connection) → is_overrun post connection ≡ true
    → (connection_after_post post connection).channels ≡ []
overrun-has_none post connection =
    by_tests (has_channel post.channel connection) (has_room connection)
  where
    by_tests : (has room : Bool) → (has && not room) ≡ true
        → (after_tests has room post connection).channels ≡ []
    by_tests true true over = absurd (false≢true over)
    by_tests true false over = refl
    by_tests false room over = absurd (false≢true over)

-- who is overrun has channels
overrun-has_some : (post : Post) (connection : Connection) → is_overrun post connection ≡ true
    → connection.channels ≢ []
overrun-has_some post connection over none = false≢true (by_channel ∙ over)
  where
    by_channel : false ≡ is_overrun post connection
    by_channel = sym (ap (λ channels. list_any (same_channel post.channel) channels && not (has_room connection)) none)

-- Which clients a message cuts off.

client_at-hearing : (c : ℕ) → client_at (subscription_connection c) ≡ c
client_at-hearing c = omega arith

pub or_true : (b : Bool) {rest : Bool} → rest ≡ true → (b || rest) ≡ true
or_true true e = refl
or_true false e = e

-- a client is among those of these connections where one of them is its own
among-from_connection : (c : ℕ) (conns : List ℕ)
    → list_any (λ conn. conn == subscription_connection c) conns ≡ true
    → list_any (λ other. c == other) (map client_at conns) ≡ true
among-from_connection c [] any = any
among-from_connection c (conn ∷ conns) any =
    by_case (cases_eq conn (subscription_connection c)) (among-from_connection c conns)
  where
    by_case : (conn ≡ subscription_connection c) ⊎ (conn ≡ subscription_connection c → ⊥)
        → (list_any (λ conn. conn == subscription_connection c) conns ≡ true
        → list_any (λ other. c == other) (map client_at conns) ≡ true)
        → list_any (λ other. c == other) (map client_at (conn ∷ conns)) ≡ true
    by_case (inl same) later =
        ap (λ b. b || list_any (λ other. c == other) (map client_at conns))
        (eq-eqb c (client_at conn) (sym (ap client_at same ∙ client_at-hearing c)))
    by_case (inr apart) later = or_true (c == client_at conn) (later (sym (ap (λ b. b || list_any (λ conn. conn == subscription_connection c) conns) (ne_eqb conn (subscription_connection c) apart)) ∙ any))

-- a connection of a client, with what is true of each of these connections
record OfClient (P : ℕ → Type 0) (c : ℕ) : Type 0 where
  conn : ℕ
  holds : P conn
  at : c ≡ client_at conn

connection-from_among : (P : ℕ → Type 0) (c : ℕ) (conns : List ℕ) → AllByRecursion P conns
    → list_any (λ other. c == other) (map client_at conns) ≡ true → OfClient P c
connection-from_among P c [] all any = absurd (false≢true any)
connection-from_among P c (conn ∷ conns) all any =
    by_case (cases_eq c (client_at conn)) (connection-from_among P c conns all.1)
  where
    by_case : (c ≡ client_at conn) ⊎ (c ≡ client_at conn → ⊥)
        → (list_any (λ other. c == other) (map client_at conns) ≡ true → OfClient P c)
        → OfClient P c
    by_case (inl same) later = record { conn = conn; holds = all.0; at = same }
    by_case (inr apart) later =
        later (sym (ap (λ b. b || list_any (λ other. c == other) (map client_at conns))
        (ne_eqb c (client_at conn) apart)) ∙ any)

-- After a message.

-- the connections that a message drops, and the clients that are cut off by it
abbrev cut_by : Post → Board → List ℕ
cut_by post board = clients_dropped board (Some post)

overrun-dropped : (post : Post) (board : Board) (c : ℕ) → IsClient c
    → is_overrun post (board (subscription_connection c)) ≡ true
    → list_any (λ other. c == other) (cut_by post board) ≡ true
overrun-dropped post board c within over =
    among-from_connection c (dropped_by post board)
    (below_has 256 (λ conn. is_overrun post (board conn)) (subscription_connection c)
    (omega (arith, within.1)) ∙ over)

-- a connection that a message drops is one on which a client gets messages
pub overrun-heard : (post : Post) (board : Board) (clients : ℕ → Client) → AreConnected board clients
    → (conn : ℕ) → is_overrun post (board conn) ≡ true → IsHeard clients conn
overrun-heard post board clients connected conn over =
    connected.quiet conn (overrun-has_some post (board conn) over)

-- a client is cut off by a message only where its connection is overrun
cut-overrun : (post : Post) (board : Board) (clients : ℕ → Client) → AreConnected board clients
    → (c : ℕ) → list_any (λ other. c == other) (cut_by post board) ≡ true
    → is_overrun post (board (subscription_connection c)) ≡ true
cut-overrun post board clients connected c among =
    ap (λ conn. is_overrun post (board conn)) same ∙ found.holds.1
  where
    over : ℕ → Type 0
    over conn = (conn < 256) × (is_overrun post (board conn) ≡ true)

    found : OfClient over c
    found = connection-from_among over c (dropped_by post board)
        (recursion_from_All over (dropped_by post board)
        (below_all 256 (λ conn. is_overrun post (board conn)))) among

    heard : IsHeard clients found.conn
    heard = overrun-heard post board clients connected found.conn found.holds.1

    same : subscription_connection c ≡ found.conn
    same = ap subscription_connection
        (found.at ∙ ap client_at heard.at ∙ client_at-hearing heard.client)
        ∙ sym heard.at

-- the operator's and the clients' connections after a message
pub AreConnected-after_post : (post : Post) (board : Board) (clients : ℕ → Client)
    → AreConnected board clients
    → AreConnected (board_after_post (Some post) board)
    (cut_among (clients_dropped board (Some post)) clients)
AreConnected-after_post post board clients connected = record {
  operator =
      subst CanCall (sym (unreached post (board 0) connected.operator.quiet)) connected.operator;
  each = λ c within. each c within (list_any (λ other. c == other) (cut_by post board)) refl;
  quiet = λ conn some. heard conn some (connected.quiet conn (channels-after_post post (board conn) some));
}
  where
    each : (c : ℕ) → IsClient c → (cut : Bool)
        → list_any (λ other. c == other) (cut_by post board) ≡ cut
        → (if cut then cut_client (clients c) else clients c).session.is_cut ≡ false
        → IsConnected (board_after_post (Some post) board) c
    each c within true among uncut = absurd (false≢true (sym uncut))
    each c within false among uncut =
        let old = connected.each c within uncut in
        let hearing = board (subscription_connection c) in
        record {
          calls =
              subst CanCall
              (sym (unreached post (board (command_connection c)) old.calls.quiet))
              old.calls;
          open_ = subst IsTrue (sym (open-after_post post hearing)) old.open_;
          kept = kept-after_post post hearing (not_over c within among) old.kept;
        }
      where
        not_over : (c : ℕ) → IsClient c
            → list_any (λ other. c == other) (cut_by post board) ≡ false
            → is_overrun post (board (subscription_connection c)) ≡ false
        not_over c within among =
            by (is_overrun post (board (subscription_connection c))) refl
          where
            by : (over : Bool) → is_overrun post (board (subscription_connection c)) ≡ over
                → over ≡ false
            by true e = absurd (false≢true (sym among ∙ overrun-dropped post board c within e))
            by false e = refl

    heard : (conn : ℕ) → (connection_after_post post (board conn)).channels ≢ []
        → IsHeard clients conn
        → IsHeard (cut_among (clients_dropped board (Some post)) clients) conn
    heard conn some old = record {
      client = old.client;
      within = old.within;
      uncut = by (list_any (λ other. old.client == other) (cut_by post board)) refl;
      at = old.at;
    }
      where
        by : (cut : Bool) → list_any (λ other. old.client == other) (cut_by post board) ≡ cut
            → (if cut then cut_client (clients old.client) else clients old.client).session.is_cut
            ≡ false
        by false e = old.uncut
        by true e =
            absurd (some (overrun-has_none post (board conn)
            (ap (λ at. is_overrun post (board at)) old.at
            ∙ cut-overrun post board clients connected old.client e)))
