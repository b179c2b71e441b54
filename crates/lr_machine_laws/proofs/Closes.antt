-- Clients that are cut off one after the other: their connections are closed, and all others stay.
use Rattle.std.proofs.Common.{◌≡◌, ◌≢◌, ℕ, ◌≤◌, ◌<◌, ◌==◌, zero, suc, List, [], ◌∷◌, ◌++◌, map, Bool, true, false, ◌||◌, IsTrue, Some, if◌then◌else◌, refl, sym, ap, ◌∙◌, subst, arith, append-nil, ◌⊎◌, inl, inr}
use Rattle.std.proofs.lemmas.Bool.{false≢true, eq-eqb, ne_eqb, cases_eq}
use Rattle.std.proofs.lemmas.List.Elements.{recursion_from_All}
use Rattle.std.specs.List.{AllByRecursion, list_any}
use Rattle.lr_names.specs.declared.post.Post.{Post}
use Rattle.lr_model.specs.declared.entry.Entry.{Entry}
use Rattle.lr_model.specs.Board.{Board, Connection, closed_connection, is_open, is_overrun, dropped_by, board_after_post, with_connection, numbers_below}
use Rattle.lr_model.specs.History.{State, after, IsLegal, CanCall}
use Rattle.lr_waiting.specs.Client.{Client, cut_client}
use Rattle.lr_machine.specs.Clients.{client_at, command_connection, subscription_connection}
use Rattle.lr_machine.specs.Sound.{IsConnected, IsHeard, AreConnected}
use Rattle.lr_machine.specs.Within.{IsClient}
use Rattle.lr_machine.specs.World.{closes_of_all, cut_among, clients_dropped}
use Rattle.lr_model.proofs.Numbers.{below_all}
use Rattle.lr_machine_laws.proofs.Connections.{unreached, open-after_post, overrun-heard, or_true}

-- numbers of which no two are one
abbrev pub AreApart : ℕ → List ℕ → Type 0
AreApart c others = AllByRecursion (λ d. c ≢ d) others

abbrev pub AreDistinct : List ℕ → Type 0
AreDistinct [] = Unit {0}
AreDistinct (c ∷ cs) = AreApart c cs × AreDistinct cs

-- a client that is cut off, and whose connections are still open
pub record IsClosable (board : Board) (clients : ℕ → Client) (c : ℕ) : Type 0 where
  pub within : IsClient c
  pub cut : (clients c).session.is_cut ≡ true
  pub calls : IsTrue (is_open (board (command_connection c)))
  pub hears : IsTrue (is_open (board (subscription_connection c)))

abbrev pub AreClosable : Board → (ℕ → Client) → List ℕ → Type 0
AreClosable board clients cs = AllByRecursion (IsClosable board clients) cs

-- the board without one client's connections
abbrev pub closed_board : Board → ℕ → Board
closed_board board c =
    with_connection (with_connection board (command_connection c) closed_connection)
    (subscription_connection c) closed_connection

other_connection : (board : Board) (at conn : ℕ) → conn ≢ at
    → with_connection board at closed_connection conn ≡ board conn
other_connection board at conn apart =
    ap (λ b. if b then closed_connection else board conn) (ne_eqb at conn (λ e. apart (sym e)))

pub kept_open : (board : Board) (c conn : ℕ) → conn ≢ command_connection c
    → conn ≢ subscription_connection c → closed_board board c conn ≡ board conn
kept_open board c conn command subscription =
    other_connection (with_connection board (command_connection c) closed_connection)
    (subscription_connection c) conn subscription
    ∙ other_connection board (command_connection c) conn command

-- a connection that has channels after the closes had them before
channels-closed : (board : Board) (c conn : ℕ) → (closed_board board c conn).channels ≢ []
    → (board conn).channels ≢ []
channels-closed board c conn =
    by (subscription_connection c == conn) (command_connection c == conn)
  where
    by : (hears calls : Bool)
        → (if hears then closed_connection
        else (if calls then closed_connection else board conn)).channels ≢ []
        → (board conn).channels ≢ []
    by true calls some = absurd (some refl)
    by false true some = absurd (some refl)
    by false false some = some

pub AreConnected-closed : (board : Board) (clients : ℕ → Client) (c : ℕ)
    → IsClosable board clients c → AreConnected board clients
    → AreConnected (closed_board board c) clients
AreConnected-closed board clients c closable connected = record {
  operator =
      subst CanCall
      (sym (kept_open board c 0 (λ e. omega (arith, e, closable.within.0))
      (λ e. omega (arith, e, closable.within.0))))
      connected.operator;
  each = λ d within uncut.
      let apart : d ≢ c =
      λ e. false≢true (sym uncut ∙ ap (λ n. (clients n).session.is_cut) e ∙ closable.cut) in
      let old = connected.each d within uncut in
      let calls =
      kept_open board c (command_connection d)
      (λ e. apart (omega (arith, e, within.0, closable.within.0)))
      (λ e. omega (arith, e, within.0, closable.within.0)) in
      let hears =
      kept_open board c (subscription_connection d)
      (λ e. omega (arith, e, within.0, closable.within.0))
      (λ e. apart (omega (arith, e))) in
      record {
        calls = subst CanCall (sym calls) old.calls;
        open_ = subst (λ (x : Connection). IsTrue (is_open x)) (sym hears) old.open_;
        kept = ap (λ (x : Connection). x.dropped) hears ∙ old.kept;
      };
  quiet = λ conn some. connected.quiet conn (channels-closed board c conn some);
}

-- the others can still be closed
pub AreClosable-closed : (board : Board) (clients : ℕ → Client) (c : ℕ) (cs : List ℕ) → IsClient c
    → AreApart c cs → AreClosable board clients cs → AreClosable (closed_board board c) clients cs
AreClosable-closed board clients c [] within apart closable = tt
AreClosable-closed board clients c (d ∷ ds) within apart closable =
    (one closable.0 apart.0, AreClosable-closed board clients c ds within apart.1 closable.1)
  where
    one : IsClosable board clients d → c ≢ d → IsClosable (closed_board board c) clients d
    one old apart = record {
      within = old.within;
      cut = old.cut;
      calls =
          subst (λ (x : Connection). IsTrue (is_open x))
          (sym (kept_open board c (command_connection d)
          (λ e. apart (omega (arith, e, within.0, old.within.0)))
          (λ e. omega (arith, e, within.0, old.within.0))))
          old.calls;
      hears =
          subst (λ (x : Connection). IsTrue (is_open x))
          (sym (kept_open board c (subscription_connection d)
          (λ e. omega (arith, e, within.0, old.within.0))
          (λ e. apart (omega (arith, e)))))
          old.hears;
    }

-- What goes on from a state: entries that may follow, after which connections fit clients.
pub record GoesOn (state : State) (entries : List Entry) (moment : ℕ) (clients : ℕ → Client)
    : Type 0 where
  pub legal : IsLegal state entries
  pub in_time : (after state entries).moment ≤ moment
  pub connected : AreConnected (after state entries).board clients

-- both connections of each of these clients are closed
pub GoesOn-closes : (cs : List ℕ) (state : State) (moment : ℕ) (clients : ℕ → Client)
    → state.moment ≤ moment → AreConnected state.board clients
    → AreClosable state.board clients cs → AreDistinct cs
    → GoesOn state (closes_of_all moment cs) moment clients
GoesOn-closes [] state moment clients in_time connected closable distinct =
    record { legal = tt; in_time = in_time; connected = connected }
GoesOn-closes (c ∷ cs) state moment clients in_time connected closable distinct =
    let hears =
    subst (λ (x : Connection). IsTrue (is_open x))
    (sym (other_connection state.board (command_connection c) (subscription_connection c)
    (λ e. omega (arith, e, closable.0.within.0))))
    closable.0.hears in
    let rest =
    GoesOn-closes cs (closed_state state moment c) moment clients (omega arith)
    (AreConnected-closed state.board clients c closable.0 connected)
    (AreClosable-closed state.board clients c cs closable.0.within distinct.0 closable.1)
    distinct.1 in
    record {
      legal = (
        record { in_time = in_time; allowed = closable.0.calls },
        (record { in_time = omega arith; allowed = hears }, rest.legal),
      );
      in_time = rest.in_time;
      connected = rest.connected;
    }
  where
    closed_state : State → ℕ → ℕ → State
    closed_state state moment c =
        record { moment = moment; objects = state.objects; board = closed_board state.board c }

-- One client that is cut off.

-- who is left after one client was cut off
left_apart : (clients : ℕ → Client) (c d : ℕ)
    → (cut_among (c ∷ []) clients d).session.is_cut ≡ false
    → (d ≢ c) × ((clients d).session.is_cut ≡ false)
left_apart clients c d = by (cases_eq d c)
  where
    by : (d ≡ c) ⊎ (d ≡ c → ⊥) → (cut_among (c ∷ []) clients d).session.is_cut ≡ false
        → (d ≢ c) × ((clients d).session.is_cut ≡ false)
    by (inl same) uncut =
        absurd (false≢true (sym uncut
        ∙ ap (λ b. (if b || false then cut_client (clients d) else clients d).session.is_cut)
        (eq-eqb d c same)))
    by (inr apart) uncut = (
      apart,
      sym (ap (λ b. (if b || false then cut_client (clients d) else clients d).session.is_cut)
          (ne_eqb d c apart)) ∙ uncut,
    )

pub others_left : (clients : ℕ → Client) (c d : ℕ) → d ≢ c → (clients d).session.is_cut ≡ false
    → (cut_among (c ∷ []) clients d).session.is_cut ≡ false
others_left clients c d apart uncut =
    ap (λ b. (if b || false then cut_client (clients d) else clients d).session.is_cut)
    (ne_eqb d c apart) ∙ uncut

-- a connection that has channels after the closes isn't one of those that were closed
channels-apart : (board : Board) (c conn : ℕ) → (closed_board board c conn).channels ≢ []
    → conn ≢ subscription_connection c
channels-apart board c conn some same =
    some
    (ap (λ b. (if b then closed_connection
    else with_connection board (command_connection c) closed_connection conn).channels)
    (eq-eqb (subscription_connection c) conn (sym same)))

pub AreConnected-cut : (board : Board) (clients : ℕ → Client) (c : ℕ) → IsClient c
    → AreConnected board clients
    → AreConnected (closed_board board c) (cut_among (c ∷ []) clients)
AreConnected-cut board clients c client connected = record {
  operator =
      subst CanCall
      (sym (kept_open board c 0 (λ e. omega (arith, e, client.0))
      (λ e. omega (arith, e, client.0))))
      connected.operator;
  each = λ d within uncut. each d within (left_apart clients c d uncut);
  quiet = λ conn some. heard conn some (connected.quiet conn (channels-closed board c conn some));
}
  where
    each : (d : ℕ) → IsClient d → (d ≢ c) × ((clients d).session.is_cut ≡ false)
        → IsConnected (closed_board board c) d
    each d within left =
        let old = connected.each d within left.1 in
        let calls =
        kept_open board c (command_connection d)
        (λ e. left.0 (omega (arith, e, within.0, client.0)))
        (λ e. omega (arith, e, within.0, client.0)) in
        let hears =
        kept_open board c (subscription_connection d)
        (λ e. omega (arith, e, within.0, client.0)) (λ e. left.0 (omega (arith, e))) in
        record {
          calls = subst CanCall (sym calls) old.calls;
          open_ = subst (λ (x : Connection). IsTrue (is_open x)) (sym hears) old.open_;
          kept = ap (λ (x : Connection). x.dropped) hears ∙ old.kept;
        }

    heard : (conn : ℕ) → (closed_board board c conn).channels ≢ [] → IsHeard clients conn
        → IsHeard (cut_among (c ∷ []) clients) conn
    heard conn some old = record {
      client = old.client;
      within = old.within;
      uncut =
          others_left clients c old.client
          (λ e. channels-apart board c conn some (old.at ∙ ap subscription_connection e))
          old.uncut;
      at = old.at;
    }

-- both connections of a client are closed, and it is cut off
pub GoesOn-cut : (state : State) (moment : ℕ) (clients : ℕ → Client) (c : ℕ)
    → state.moment ≤ moment → IsClient c → (clients c).session.is_cut ≡ false
    → AreConnected state.board clients
    → GoesOn state (closes_of_all moment (c ∷ [])) moment (cut_among (c ∷ []) clients)
GoesOn-cut state moment clients c in_time client uncut connected =
    let old = connected.each c client uncut in
    let hears =
    subst (λ (x : Connection). IsTrue (is_open x))
    (sym (other_connection state.board (command_connection c) (subscription_connection c)
    (λ e. omega (arith, e, client.0)))) old.open_ in
    record {
      legal = (
        record { in_time = in_time; allowed = old.calls.open_ },
        (record { in_time = omega arith; allowed = hears }, tt),
      );
      in_time = omega arith;
      connected = AreConnected-cut state.board clients c client connected;
    }

-- Those whom a message drops.

-- one more number at the end
AreDistinct-push : (cs : List ℕ) (n : ℕ) → AllByRecursion (λ c. c < n) cs → AreDistinct cs
    → AreDistinct (cs ++ n ∷ [])
AreDistinct-push [] n below distinct = (tt, tt)
AreDistinct-push (c ∷ cs) n below distinct =
    (apart cs distinct.0, AreDistinct-push cs n below.1 distinct.1)
  where
    apart : (ds : List ℕ) → AreApart c ds → AreApart c (ds ++ n ∷ [])
    apart [] none = ((λ e. omega (arith, e, below.0)), tt)
    apart (d ∷ ds) all = (all.0, apart ds all.1)

AreDistinct-below : (n : ℕ) (p : ℕ → Bool) → AreDistinct (numbers_below n p)
unfolding numbers_below
AreDistinct-below zero p = tt
AreDistinct-below (suc n) p = by (p n) (AreDistinct-below n p)
  where
    below : AllByRecursion (λ c. c < n) (numbers_below n p)
    below = weaker (numbers_below n p)
        (recursion_from_All (λ c. (c < n) × (p c ≡ true)) (numbers_below n p) (below_all n p))
      where
        weaker : (cs : List ℕ) → AllByRecursion (λ c. (c < n) × (p c ≡ true)) cs
            → AllByRecursion (λ c. c < n) cs
        weaker [] all = tt
        weaker (c ∷ cs) all = (all.0.0, weaker cs all.1)

    by : (passes : Bool) → AreDistinct (numbers_below n p)
        → AreDistinct (numbers_below n p ++ (if passes then n ∷ [] else []))
    by true distinct = AreDistinct-push (numbers_below n p) n below distinct
    by false distinct = subst AreDistinct (sym (append-nil (numbers_below n p))) distinct

-- each of these clients is among them
all_among : (cs : List ℕ) → AllByRecursion (λ c. list_any (λ other. c == other) cs ≡ true) cs
all_among [] = tt
all_among (c ∷ cs) = (
  ap (λ b. b || list_any (λ other. c == other) cs) (eq-eqb c c refl),
  weaker cs (all_among cs),
)
  where
    weaker : (ds : List ℕ) → AllByRecursion (λ d. list_any (λ other. d == other) cs ≡ true) ds
        → AllByRecursion (λ d. list_any (λ other. d == other) (c ∷ cs) ≡ true) ds
    weaker [] all = tt
    weaker (d ∷ ds) all = (or_true (d == c) all.0, weaker ds all.1)

-- a connection that a message drops
abbrev IsOver : Post → Board → ℕ → Type 0
IsOver post board conn = (conn < 256) × (is_overrun post (board conn) ≡ true)

all_over : (post : Post) (board : Board)
    → AllByRecursion (IsOver post board) (dropped_by post board)
all_over post board =
    recursion_from_All (IsOver post board) (dropped_by post board)
    (below_all 256 (λ conn. is_overrun post (board conn)))

-- each of them is of another client
distinct_clients : (post : Post) (board : Board) (clients : ℕ → Client)
    → AreConnected board clients → (conns : List ℕ) → AllByRecursion (IsOver post board) conns
    → AreDistinct conns → AreDistinct (map client_at conns)
distinct_clients post board clients connected [] over distinct = tt
distinct_clients post board clients connected (conn ∷ conns) over distinct = (
  apart conns over.1 distinct.0,
  distinct_clients post board clients connected conns over.1 distinct.1,
)
  where
    apart : (others : List ℕ) → AllByRecursion (IsOver post board) others → AreApart conn others
        → AreApart (client_at conn) (map client_at others)
    apart [] over none = tt
    apart (other ∷ others) more all =
        let here = overrun-heard post board clients connected conn over.0.1 in
        let there = overrun-heard post board clients connected other more.0.1 in
        ((λ e. all.0 (omega (arith, e, here.at, there.at))), apart others more.1 all.1)

-- a client whose connection a message drops can be closed after it
closable_client : (post : Post) (board : Board) (clients : ℕ → Client)
    → AreConnected board clients → (conn : ℕ) → IsOver post board conn
    → list_any (λ other. client_at conn == other) (clients_dropped board (Some post)) ≡ true
    → IsClosable (board_after_post (Some post) board)
    (cut_among (clients_dropped board (Some post)) clients) (client_at conn)
closable_client post board clients connected conn over among =
    subst
    (IsClosable (board_after_post (Some post) board)
    (cut_among (clients_dropped board (Some post)) clients))
    (sym same) closable
  where
    heard : IsHeard clients conn
    heard = overrun-heard post board clients connected conn over.1

    c : ℕ
    c = heard.client

    same : client_at conn ≡ c
    same = omega (arith, heard.at)

    old : IsConnected board c
    old = connected.each c heard.within heard.uncut

    closable : IsClosable (board_after_post (Some post) board)
        (cut_among (clients_dropped board (Some post)) clients) c
    closable = record {
      within = heard.within;
      cut =
          ap (λ cut. (if cut then cut_client (clients c) else clients c).session.is_cut)
          (sym (ap (λ n. list_any (λ other. n == other) (clients_dropped board (Some post))) same)
          ∙ among);
      calls =
          subst (λ (x : Connection). IsTrue (is_open x))
          (sym (unreached post (board (command_connection c)) old.calls.quiet)) old.calls.open_;
      hears =
          subst IsTrue (sym (open-after_post post (board (subscription_connection c)))) old.open_;
    }

pub AreClosable-dropped : (post : Post) (board : Board) (clients : ℕ → Client)
    → AreConnected board clients
    → AreClosable (board_after_post (Some post) board)
    (cut_among (clients_dropped board (Some post)) clients) (clients_dropped board (Some post))
AreClosable-dropped post board clients connected =
    by (dropped_by post board) (all_over post board)
    (all_among (clients_dropped board (Some post)))
  where
    now : ℕ → Client
    now = cut_among (clients_dropped board (Some post)) clients

    by : (conns : List ℕ) → AllByRecursion (IsOver post board) conns
        → AllByRecursion
        (λ c. list_any (λ other. c == other) (clients_dropped board (Some post)) ≡ true)
        (map client_at conns)
        → AreClosable (board_after_post (Some post) board) now (map client_at conns)
    by [] over among = tt
    by (conn ∷ conns) over among = (
      closable_client post board clients connected conn over.0 among.0,
      by conns over.1 among.1,
    )

pub AreDistinct-dropped : (post : Post) (board : Board) (clients : ℕ → Client)
    → AreConnected board clients → AreDistinct (clients_dropped board (Some post))
AreDistinct-dropped post board clients connected =
    distinct_clients post board clients connected (dropped_by post board) (all_over post board)
    (AreDistinct-below 256 (λ conn. is_overrun post (board conn)))

-- clients that weren't cut off before
abbrev pub AreLeft : (ℕ → Client) → List ℕ → Type 0
AreLeft clients cs =
    AllByRecursion (λ c. IsClient c × ((clients c).session.is_cut ≡ false)) cs

-- a message drops only such clients
pub AreLeft-dropped : (post : Post) (board : Board) (clients : ℕ → Client)
    → AreConnected board clients → AreLeft clients (clients_dropped board (Some post))
AreLeft-dropped post board clients connected = by (dropped_by post board) (all_over post board)
  where
    by : (conns : List ℕ) → AllByRecursion (IsOver post board) conns
        → AreLeft clients (map client_at conns)
    by [] over = tt
    by (conn ∷ conns) over =
        let heard = overrun-heard post board clients connected conn over.0.1 in
        let same : client_at conn ≡ heard.client = omega (arith, heard.at) in (
          (
            subst IsClient (sym same) heard.within,
            ap (λ n. (clients n).session.is_cut) same ∙ heard.uncut,
          ),
          by conns over.1,
        )
