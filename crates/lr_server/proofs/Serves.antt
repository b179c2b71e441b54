-- A server after one entry more.
use Rattle.std.proofs.Common.{◌≡◌, ℕ, ◌+◌, ◌==◌, ◌<◌, ◌≤◌, List, [], ◌∷◌, ◌++◌, length, Bool, true, false, not, if◌then◌else◌, Option, Some, None, IsTrue, refl, sym, ap, ◌∙◌, subst, arith, ◌⊎◌, inl, inr, slice_get}
use Rattle.std.specs.Prelude.{unwrap_or}
use Rattle.std.proofs.lemmas.Bool.{cases_lt, false≢true, eqb-true, eq-eqb, ne_eqb, lt-leb, not-true}
use Rattle.lr_limits.specs.Limits.{connection_limit, last_moment}
use Rattle.lr_names.specs.declared.post.Post.{Post}
use Rattle.lr_names.specs.declared.post.Push.TheVariants.{Message}
use Rattle.lr_keys.specs.KeySpace.{Keys, entry_at}
use Rattle.lr_model.specs.declared.entry.Act.{Act}
use Rattle.lr_model.specs.declared.entry.Act.TheVariants.{Call, Subscribe, Unsubscribe, Open, Close, Drain}
use Rattle.lr_model.specs.declared.entry.Entry.{Entry}
use Rattle.lr_model.specs.Answer.{post_of}
use Rattle.lr_model.specs.Board.{Board, Connection, closed_connection, connection_after_drain, new_connection, dropped_connection, with_item, has_channel, has_room, is_open, free_numbers, board_after_post, connection_after_post, with_connection}
use Rattle.lr_model.specs.History.{State, state_at_start, step, board_by, CanDrain, IsAllowed}
use Rattle.lr_model.proofs.Histories.{after-push, IsLegal-push}
use Rattle.lr_pubsub.specs.BoardValue.{BoardValue, board_of}
use Rattle.lr_model.proofs.Numbers.{below_few, below_least}
use Rattle.lr_server.specs.declared.answered.Answered.{Answered}
use Rattle.lr_server.specs.Server.{ServerValue, state_of, connection_of, with_entry, moment_at, entry_of, is_asked, IsTold}
use Rattle.lr_server.specs.Stands.{KeysStand, StateStands}
use Rattle.lr_server.specs.Done.{IsDone}
use Rattle.lr_server.specs.Serving.{IsServing, open_numbers}
use Rattle.lr_server.proofs.Numbers.{below_fewer}
use Rattle.lr_server.proofs.Runs.{no_keys_stand_for_no_objects}

-- a message leaves a connection open or closed
told_open : (post : Post) (connection : Connection)
    → is_open (connection_after_post post connection) ≡ is_open connection
told_open post connection = by (has_channel post.channel connection) (has_room connection)
  where
    by : (has room : Bool)
        → is_open (if has
        then (if room then with_item (Message post.channel post.wakes) connection
        else dropped_connection connection)
        else connection) ≡ is_open connection
    by true true = refl
    by true false = refl
    by false room = refl

posted_open : (post : Option Post) (board : Board) (c : ℕ)
    → is_open (board_after_post post board c) ≡ is_open (board c)
posted_open None board c = refl
posted_open (Some post) board c = told_open post (board c)

-- so does a change of a connection that keeps its opener
kept_open : (board : Board) (conn : ℕ) (connection : Connection) (c : ℕ)
    → is_open connection ≡ is_open (board conn)
    → is_open (with_connection board conn connection c) ≡ is_open (board c)
kept_open board conn connection c same = by (conn == c) refl
  where
    by : (b : Bool) → (conn == c) ≡ b
        → is_open (if b then connection else board c) ≡ is_open (board c)
    by true e = same ∙ ap (λ k. is_open (board k)) (eqb-true conn c e)
    by false e = refl

-- all other connections stay as they were
others_kept : (board : Board) (conn : ℕ) (connection : Connection) (c : ℕ) → (c ≡ conn → ⊥)
    → with_connection board conn connection c ≡ board c
others_kept board conn connection c apart =
    ap (λ b. if b then connection else board c) (ne_eqb conn c (λ e. apart (sym e)))

this_changed : (board : Board) (conn : ℕ) (connection : Connection)
    → with_connection board conn connection conn ≡ connection
this_changed board conn connection =
    ap (λ b. if b then connection else board conn) (eq-eqb conn conn refl)

-- a closed connection is not open, and closes no other
closes : (board : Board) (conn c : ℕ) → is_open (board c) ≡ false
    → is_open (with_connection board conn closed_connection c) ≡ false
closes board conn c closed = by (conn == c)
  where
    by : (b : Bool) → is_open (if b then closed_connection else board c) ≡ false
    by true = refl
    by false = closed

-- what a request asks for opens and closes no connection
asked_open : (state : State) (entry : Entry) (act : Act) (c : ℕ) → IsTrue (is_asked act)
    → is_open (board_by state entry act c) ≡ is_open (state.board c)
asked_open state entry (Call op) c asked =
    posted_open (post_of state.objects entry.moment op) state.board c
asked_open state entry (Subscribe channel) c asked = kept_open state.board entry.conn _ c refl
asked_open state entry (Unsubscribe channel) c asked = kept_open state.board entry.conn _ c refl
asked_open state entry _ c asked = absurd (false≢true asked)

-- an open connection has a number below the limit
is_numbered : (board : Board) (conn : ℕ)
    → ((c : ℕ) → connection_limit ≤ c → is_open (board c) ≡ false)
    → is_open (board conn) ≡ true → conn < connection_limit
is_numbered board conn numbered opened = by (cases_lt conn connection_limit)
  where
    by : (conn < connection_limit) ⊎ (connection_limit ≤ conn) → conn < connection_limit
    by (inl below) = below
    by (inr above) = absurd (false≢true (sym (numbered conn above) ∙ opened))

-- the least free number is below the limit, and no connection is open there
pub least_is_free : (board : Board) (conn : ℕ) → slice_get (free_numbers board) 0 ≡ Some conn
    → (conn < connection_limit) × (is_open (board conn) ≡ false)
least_is_free board conn free =
    let least = below_least connection_limit (λ c. not (is_open (board c))) conn free in
    (least.below, not-true (is_open (board conn)) least.passes)

-- the board is what its connections are
same_board : (board board2 : BoardValue) → board2.connections ≡ board.connections
    → board_of board2 ≡ board_of board
same_board board board2 same =
    ap (λ (cs : List Connection). λ conn. unwrap_or (slice_get cs conn) closed_connection) same

-- a server that has just started
pub serves_first : (last : ℕ) (entries : List Entry) (keys : Keys) (board : BoardValue) (spare : ℕ)
    → last < connection_limit → entries ≡ [] → entry_at keys ≡ (λ _. None) → keys.moment ≡ 0
    → board_of board ≡ (state_at_start last).board → connection_limit ≤ spare
    → IsServing (record { last = last; entries = entries }) 0 keys board spare
serves_first last entries keys board spare below none no_keys now board_is room =
    subst (λ (es : List Entry). IsServing (record { last = last; entries = es }) 0 keys board spare)
    (sym none) (record {
      first = below;
      legal = tt;
      now = refl;
      early = omega arith;
      in_time = omega arith;
      stands = record {
        keys_stand = no_keys_stand_for_no_objects keys no_keys;
        board_is = board_is;
      };
      numbered = λ c above. ap (λ b. is_open (if b then new_connection 0 else closed_connection))
          (lt-leb c last (omega arith));
      closable = omega (
        arith,
        room,
        below_few connection_limit (λ c. is_open ((state_at_start last).board c)),
      );
    })

-- it serves as what it shows
pub serves_as_shown : {inside shown : ServerValue} {moment : ℕ} {keys : Keys} {board : BoardValue}
    {spare : ℕ} → inside ≡ shown → IsServing inside moment keys board spare
    → IsServing shown moment keys board spare
serves_as_shown {moment = moment} {keys = keys} {board = board} {spare = spare} is serving =
    subst (λ (server : ServerValue). IsServing server moment keys board spare) is serving

-- so does one whose entries have one more, which was pushed where they had stayed
pub serves_pushed : {last : ℕ} {entries stayed pushed : List Entry} {server : ServerValue}
    {made entry : Entry} {moment2 : ℕ} {keys2 : Keys} {board2 : BoardValue} {spare2 : ℕ}
    → record { last = last; entries = entries } ≡ server → made ≡ entry → stayed ≡ entries
    → pushed ≡ stayed ++ made ∷ [] → moment2 ≡ made.moment
    → IsServing (with_entry server entry) entry.moment keys2 board2 spare2
    → IsServing (record { last = last; entries = pushed }) moment2 keys2 board2 spare2
serves_pushed {last = last} {entries = entries} {pushed = pushed} {made = made} {entry = entry}
    {keys2 = keys2} {board2 = board2} {spare2 = spare2} shown is stays all now serving =
    let all_is : pushed ≡ entries ++ entry ∷ [] =
    all ∙ ap (λ (es : List Entry). es ++ made ∷ []) stays
    ∙ ap (λ (e : Entry). entries ++ e ∷ []) is in
    let now_is = now ∙ ap (λ (e : Entry). e.moment) is in
    subst (λ m. IsServing (record { last = last; entries = pushed }) m keys2 board2 spare2)
    (sym now_is)
    (serves_as_shown
    (sym (ap (λ (es : List Entry). record { last = last; entries = es }) all_is
    ∙ ap (λ (s : ServerValue). with_entry s entry) shown)) serving)

module _ {server : ServerValue} {moment : ℕ} {keys : Keys} {board : BoardValue} {spare : ℕ}
    (serving : IsServing server moment keys board spare) where
  abbrev state : State
  state = state_of server

  -- a close leaves one open connection fewer
  one_fewer : (conn : ℕ) → IsTrue (is_open (state.board conn))
      → length (open_numbers (with_connection state.board conn closed_connection)) + 1
      ≡ length (open_numbers state.board)
  one_fewer conn opened =
      let next = with_connection state.board conn closed_connection in
      below_fewer connection_limit (λ c. is_open (state.board c)) (λ c. is_open (next c)) conn
      (is_numbered state.board conn serving.numbered opened) opened
      (ap is_open (this_changed state.board conn closed_connection))
      (λ c apart. sym (ap is_open (others_kept state.board conn closed_connection c apart)))

  -- so where one is open there is room for its close
  pub room_to_close : (conn : ℕ) → IsTrue (is_open (connection_of server conn)) → 0 < spare
  room_to_close conn opened = omega (arith, one_fewer conn opened, serving.closable)

  module _ (reading caller conn : ℕ) (early : moment_at server reading ≤ last_moment) where
    abbrev entry_by : Act → Entry
    entry_by act = entry_of server reading caller conn act

    -- the server serves with the entry of an act
    abbrev ServesWith : Act → Keys → BoardValue → ℕ → Type 0
    ServesWith act keys2 board2 spare2 =
        IsServing (with_entry server (entry_by act)) (moment_at server reading) keys2 board2 spare2

    serves_on : (act : Act) (keys2 : Keys) (board2 : BoardValue) (spare2 : ℕ)
        → IsAllowed state conn act → StateStands keys2 board2 (step state (entry_by act))
        → keys2.moment ≤ moment_at server reading
        → ((c : ℕ) → connection_limit ≤ c → is_open ((step state (entry_by act)).board c) ≡ false)
        → length (open_numbers (step state (entry_by act)).board) ≤ spare2
        → ServesWith act keys2 board2 spare2
    serves_on act keys2 board2 spare2 allowed stands in_time numbered closable =
        let state_is : state_of (with_entry server (entry_by act)) ≡ step state (entry_by act) =
        after-push (state_at_start server.last) server.entries (entry_by act) in
        record {
          first = serving.first;
          legal = IsLegal-push (state_at_start server.last) server.entries (entry_by act)
              serving.legal (record { in_time = omega arith; allowed = allowed });
          now = sym (ap (λ (s : State). s.moment) state_is);
          early = early;
          in_time = in_time;
          stands = subst (StateStands keys2 board2) (sym state_is) stands;
          numbered = λ c above. ap (λ (s : State). is_open (s.board c)) state_is ∙ numbered c above;
          closable = subst (λ (s : State). length (open_numbers s.board) ≤ spare2) (sym state_is)
              closable;
        }

    -- where there is room for a close of each connection
    with_room : (act : Act) (keys2 : Keys) (board2 : BoardValue) (spare2 : ℕ)
        → IsAllowed state conn act → StateStands keys2 board2 (step state (entry_by act))
        → keys2.moment ≤ moment_at server reading
        → ((c : ℕ) → connection_limit ≤ c → is_open ((step state (entry_by act)).board c) ≡ false)
        → connection_limit ≤ spare2
        → ServesWith act keys2 board2 spare2
    with_room act keys2 board2 spare2 allowed stands in_time numbered room =
        let few = below_few connection_limit (λ c. is_open ((step state (entry_by act)).board c)) in
        serves_on act keys2 board2 spare2 allowed stands in_time numbered (omega (arith, room, few))

    keys_late : keys.moment ≤ moment_at server reading
    keys_late = omega (arith, serving.in_time, serving.now)

    -- the keys stand as before, and the board is another
    keys_stay : (board2 : BoardValue) (next : State) → next.objects ≡ state.objects
        → board_of board2 ≡ next.board → StateStands keys board2 next
    keys_stay board2 next same is = record {
      keys_stand = subst (KeysStand keys) (sym same) serving.stands.keys_stand;
      board_is = is;
    }

    -- what a request asks for was done
    module _ (act : Act) (made : Entry) (is : made ≡ entry_by act) (answered : Answered)
        (keys2 : Keys) (board1 board2 : BoardValue) (same : board1.connections ≡ board.connections)
        (dones : (held : State) → StateStands keys board1 held
        → IsDone held made answered keys2 board2) where
      done : IsDone state (entry_by act) answered keys2 board2
      done =
          subst (λ (e : Entry). IsDone state e answered keys2 board2) is
          (dones state (record {
            keys_stand = serving.stands.keys_stand;
            board_is = same_board board board1 same ∙ serving.stands.board_is;
          }))

      pub told_asked : IsTold state (Some (entry_by act)) answered
      told_asked = done.told

      pub serves_asked : (spare2 : ℕ) → IsTrue (is_asked act) → IsAllowed state conn act
          → connection_limit ≤ spare2
          → ServesWith act keys2 board2 spare2
      serves_asked spare2 asked allowed room =
          with_room act keys2 board2 spare2 allowed done.stands done.in_time
          (λ c above. asked_open state (entry_by act) act c asked ∙ serving.numbered c above) room

    pub serves_drain : (most : ℕ) (board2 : BoardValue) (spare2 : ℕ)
        → CanDrain (connection_of server conn) most
        → board_of board2 ≡ with_connection (board_of board) conn
        (connection_after_drain most (board_of board conn))
        → connection_limit ≤ spare2
        → ServesWith (Drain most) keys board2 spare2
    serves_drain most board2 spare2 allowed changed room =
        let after_drain : Board → Board =
        λ b. with_connection b conn (connection_after_drain most (b conn)) in
        with_room (Drain most) keys board2 spare2 allowed
        (keys_stay board2 (step state (entry_by (Drain most))) refl
        (changed ∙ ap after_drain serving.stands.board_is))
        keys_late
        (λ c above. kept_open state.board conn _ c refl ∙ serving.numbered c above) room

    pub serves_open : (board2 : BoardValue) (spare2 : ℕ)
        → slice_get (free_numbers (board_of board)) 0 ≡ Some conn
        → board_of board2 ≡ with_connection (board_of board) conn (new_connection caller)
        → connection_limit ≤ spare2
        → ServesWith Open keys board2 spare2
    serves_open board2 spare2 free changed room =
        let least : slice_get (free_numbers state.board) 0 ≡ Some conn =
        subst (λ (b : Board). slice_get (free_numbers b) 0 ≡ Some conn) serving.stands.board_is
        free in
        let below : conn < connection_limit = (least_is_free state.board conn least).0 in
        let after_open : Board → Board = λ b. with_connection b conn (new_connection caller) in
        with_room Open keys board2 spare2 (record { free = least })
        (keys_stay board2 (step state (entry_by Open)) refl
        (changed ∙ ap after_open serving.stands.board_is))
        keys_late
        (λ c above. ap is_open (others_kept state.board conn _ c (λ e. omega arith))
        ∙ serving.numbered c above) room

    pub serves_close : (board2 : BoardValue) (spare2 : ℕ)
        → IsTrue (is_open (connection_of server conn))
        → board_of board2 ≡ with_connection (board_of board) conn closed_connection
        → spare2 + 1 ≡ spare
        → ServesWith Close keys board2 spare2
    serves_close board2 spare2 opened changed room =
        let after_close : Board → Board = λ b. with_connection b conn closed_connection in
        serves_on Close keys board2 spare2 opened
        (keys_stay board2 (step state (entry_by Close)) refl
        (changed ∙ ap after_close serving.stands.board_is))
        keys_late
        (λ c above. closes state.board conn c (serving.numbered c above))
        (omega (arith, one_fewer conn opened, serving.closable))
