-- A board after a change of one of its slots.
use Rattle.std.proofs.Common.{◌≡◌, ◌⊎◌, inl, inr, ◌==◌, ℕ, nat_lt, ◌<◌, ◌≤◌, Bool, true, false, not, ◌&&◌, ◌||◌, cond, List, [], ◌∷◌, ◌++◌, length, get_or, set, filter, IsTrue, is_some, slice_get, unwrap_or, Result, Ok, Err, OnOk, OnErr, refl, ap, sym, subst, ◌∙◌, arith, if◌then◌else◌}
use Rattle.std.specs.List.{list_any}
use Rattle.std.proofs.lemmas.Bool.{cases_lt, lt-ltb}
use Rattle.std.proofs.lemmas.List.{get_or_past, length-set}
use Rattle.std.proofs.lemmas.List.Folds.{list_any-append}
use Rattle.std.proofs.lemmas.Map.Views.{any-filter_same}
use Rattle.lr_names.specs.Channel.{ChannelOf}
use Rattle.lr_limits.specs.Limits.{connection_limit}
use Rattle.lr_model.specs.Board.{Board, Connection, closed_connection, has_channel, has_room, is_open, same_channel, with_connection}
use Rattle.lr_model.specs.Table.{put}
use Rattle.lr_model.proofs.Tables.{one_table}
use Rattle.lr_pubsub.specs.declared.connection_set.ConnectionSet.{ConnectionSet}
use Rattle.lr_pubsub.specs.BoardParts.{BoardParts, IsBoard}
use Rattle.lr_pubsub.specs.BoardValue.{BoardValue, board_of}
use Rattle.lr_pubsub.specs.Connection.{is_shut, is_usable}
use Rattle.lr_pubsub.specs.ConnectionSet.{has_number}
use Rattle.lr_pubsub.specs.ConnectionSlot.{ConnectionSlotValue, HasSpare, closed_slot, connection_at, connections_of, slot_at}
use Rattle.lr_pubsub.specs.Subscribers.{listeners}
use Rattle.lr_model.proofs.SameChannel.{same_is, same_self}
use Rattle.lr_pubsub.proofs.Slots.{board-set, board-shown, either_number, put-same, shown, slot_at-read, slot_at-set}

-- what a board shows is what its slots have
pub stands : (slots : List ConnectionSlotValue) (ready : Bool) (value : BoardValue)
    → record { connections = connections_of slots; ready = ready } ≡ value → board_of value
    ≡ connection_at slots
stands slots ready value view = sym (ap board_of view) ∙ board-shown slots

pub board-changed : (slots : List ConnectionSlotValue) (conn : ℕ) (slot : ConnectionSlotValue)
    (board : Board)
    → board ≡ connection_at slots → conn < length slots → (connection : Connection)
    → slot.connection ≡ connection
    → shown (set slots conn slot) ≡ with_connection board conn connection
board-changed slots conn slot board stand within connection is =
    board-set slots conn slot within ∙ ap (with_connection (connection_at slots) conn) is
    ∙ ap (λ b. with_connection b conn connection) (sym stand)

module _ {parts : BoardParts} (board : IsBoard parts) (conn : ℕ) (slot : ConnectionSlotValue)
    (below : conn < connection_limit) where
  written : (k : ℕ) → slot_at (set parts.slots conn slot) k
      ≡ cond (conn == k) slot (slot_at parts.slots k)
  written k = slot_at-set parts.slots conn slot (omega (arith, board.numbered)) k

  pub IsBoard-set : {free touched : ConnectionSet} {rows : List (ChannelOf × ConnectionSet)}
      {spare_rows : ℕ}
      → {dropping : List ℕ} {dropping_room : ℕ} → dropping ≡ []
      → has_number free ≡ put ◌==◌ (has_number parts.free) conn (not (is_open slot.connection))
      → ((channel : ChannelOf) → listeners channel rows
      ≡ put ◌==◌ (listeners channel parts.rows) conn (has_channel channel slot.connection))
      → ((channel : ChannelOf) → IsTrue (has_channel channel slot.connection)
      → IsTrue (is_usable slot.connection))
      → ((k : ℕ) → has_number touched k ≡ false
      → HasSpare (cond (conn == k) slot (slot_at parts.slots k)))
      → IsBoard (record {
        slots = set parts.slots conn slot;
        free = free;
        touched = touched;
        rows = rows;
        spare_rows = spare_rows;
        dropping = dropping;
        dropping_room = dropping_room;
        ready = false;
      })
  IsBoard-set none freed listed usable spare = record {
    numbered = length-set parts.slots conn slot ∙ board.numbered;
    free = freed ∙ one_table _ _ (λ k.
        either_number conn k
        (λ t. cond t (not (is_open slot.connection)) (has_number parts.free k)
        ≡ (nat_lt k connection_limit && not
        (is_open (cond t slot (slot_at parts.slots k)).connection)))
        (λ e. ap (λ b. b && not (is_open slot.connection))
        (sym (lt-ltb k connection_limit (omega arith))))
        (λ e. ap (λ (p : ℕ → Bool). p k) board.free)
        ∙ ap (λ s. nat_lt k connection_limit && not (is_open s.connection)) (sym (written k)));
    listed = λ channel. listed channel ∙ one_table _ _ (λ k.
        either_number conn k
        (λ t. cond t (has_channel channel slot.connection) (listeners channel parts.rows k)
        ≡ has_channel channel (cond t slot (slot_at parts.slots k)).connection)
        (λ e. refl)
        (λ e. ap (λ (p : ℕ → Bool). p k) (board.listed channel))
        ∙ ap (λ s. has_channel channel s.connection) (sym (written k)));
    usable = λ k channel.
        subst (λ s. IsTrue (has_channel channel s.connection) → IsTrue (is_usable s.connection))
        (sym (written k))
        (either_number conn k
        (λ t. IsTrue (has_channel channel (cond t slot (slot_at parts.slots k)).connection)
        → IsTrue (is_usable (cond t slot (slot_at parts.slots k)).connection))
        (λ e. usable channel)
        (λ e. board.usable k channel));
    spare = λ k untouched. subst HasSpare (sym (written k)) (spare k untouched);
    sent = none;
    prepared = λ ready. absurd (cc ready);
  }

  -- whoever is touched needs no spare places
  pub spare-touched : (touched : ConnectionSet) → has_number touched
      ≡ put ◌==◌ (has_number parts.touched) conn true
      → (k : ℕ) → has_number touched k ≡ false
      → HasSpare (cond (conn == k) slot (slot_at parts.slots k))
  spare-touched touched is k untouched =
      either_number conn k
      (λ t. cond t true (has_number parts.touched k) ≡ false
      → HasSpare (cond t slot (slot_at parts.slots k)))
      (λ e no. absurd (cc no))
      (λ e. board.spare k)
      (sym (ap (λ (p : ℕ → Bool). p k) is) ∙ untouched)

  -- nor does one that can't be used
  pub spare-unusable : is_usable slot.connection ≡ false
      → (k : ℕ) → has_number parts.touched k ≡ false
      → HasSpare (cond (conn == k) slot (slot_at parts.slots k))
  spare-unusable unusable k untouched =
      either_number conn k (λ t. HasSpare (cond t slot (slot_at parts.slots k)))
      (λ e. record {
        item = λ usable. absurd (cc (usable, unusable));
        channel =
            λ usable. absurd (cc (usable, unusable));
      })
      (λ e. board.spare k untouched)

  -- it stays open, or closed
  pub free-same : is_open slot.connection ≡ is_open (connection_at parts.slots conn)
      → has_number parts.free
      ≡ put ◌==◌ (has_number parts.free) conn (not (is_open slot.connection))
  free-same same =
      put-same (has_number parts.free) conn (not (is_open slot.connection))
      (ap not same
      ∙ sym (ap (λ (p : ℕ → Bool). p conn) board.free
      ∙ ap (λ b. b && not (is_open (connection_at parts.slots conn)))
      (lt-ltb conn connection_limit below)))

  -- it keeps its channels
  pub listed-same : ((channel : ChannelOf) → has_channel channel slot.connection
      ≡ has_channel channel (connection_at parts.slots conn))
      → (channel : ChannelOf) → listeners channel parts.rows
      ≡ put ◌==◌ (listeners channel parts.rows) conn (has_channel channel slot.connection)
  listed-same same channel =
      put-same (listeners channel parts.rows) conn (has_channel channel slot.connection)
      (same channel ∙ sym (ap (λ (p : ℕ → Bool). p conn) (board.listed channel)))

  -- it gains a channel
  pub listed-gained : (rows : List (ChannelOf × ConnectionSet)) (channel : ChannelOf)
      → ((q : ChannelOf) → listeners q rows
      ≡ (if same_channel q channel then put ◌==◌
      (listeners q parts.rows) conn true else listeners q parts.rows))
      → slot.connection.channels ≡ (connection_at parts.slots conn).channels ++ channel ∷ []
      → (q : ChannelOf) → listeners q rows
      ≡ put ◌==◌ (listeners q parts.rows) conn (has_channel q slot.connection)
  listed-gained rows channel listed channels q = listed q ∙ by (same_channel q channel) refl
    where
      has : has_channel q slot.connection
          ≡ (has_channel q (connection_at parts.slots conn) || (same_channel q channel || false))
      has = ap (list_any (same_channel q)) channels
          ∙ list_any-append (same_channel q) (connection_at parts.slots conn).channels
          (channel ∷ [])

      or_true : (b : Bool) → true ≡ (b || true)
      or_true true = refl
      or_true false = refl

      or_false : (b : Bool) → (b || false) ≡ b
      or_false true = refl
      or_false false = refl

      by : (t : Bool) → same_channel q channel ≡ t
          → cond t (put ◌==◌ (listeners q parts.rows) conn true) (listeners q parts.rows)
          ≡ put ◌==◌ (listeners q parts.rows) conn (has_channel q slot.connection)
      by true e =
          ap (put ◌==◌ (listeners q parts.rows) conn)
          (or_true (has_channel q (connection_at parts.slots conn))
          ∙ sym (has ∙ ap (λ b. has_channel q (connection_at parts.slots conn) || (b || false))
          e))
      by false e =
          put-same (listeners q parts.rows) conn (has_channel q slot.connection)
          (has ∙ ap (λ b. has_channel q (connection_at parts.slots conn) || (b || false)) e
          ∙ or_false (has_channel q (connection_at parts.slots conn))
          ∙ sym (ap (λ (p : ℕ → Bool). p conn) (board.listed q)))

  -- it loses a channel, or hasn't had it
  pub listed-lost : (rows : List (ChannelOf × ConnectionSet)) (channel : ChannelOf)
      → ((q : ChannelOf) → listeners q rows
      ≡ (if same_channel q channel then put ◌==◌
      (listeners q parts.rows) conn false else listeners q parts.rows))
      → slot.connection.channels
      ≡ filter (λ other. not (same_channel channel other))
      (connection_at parts.slots conn).channels
      → (q : ChannelOf) → listeners q rows
      ≡ put ◌==◌ (listeners q parts.rows) conn (has_channel q slot.connection)
  listed-lost rows channel listed channels q = listed q ∙ by (same_channel q channel) refl
    where
      passes : (k : ChannelOf) → same_channel q channel ≡ false → same_channel q k ≡ true
          → not (same_channel channel k) ≡ true
      passes k apart same = by_test (same_channel channel k) refl
        where
          by_test : (t : Bool) → same_channel channel k ≡ t → not t ≡ true
          by_test true e =
              absurd (cc (
                same_is channel k e,
                ap (same_channel q)
                    (same_is q k same),
                apart,
                same_self q,
              ))
          by_test false e = refl

      by : (t : Bool) → same_channel q channel ≡ t
          → cond t (put ◌==◌ (listeners q parts.rows) conn false) (listeners q parts.rows)
          ≡ put ◌==◌ (listeners q parts.rows) conn (has_channel q slot.connection)
      by true e =
          ap (put ◌==◌ (listeners q parts.rows) conn)
          (sym (ap (list_any (same_channel q)) channels
          ∙ any-filter_same (same_channel q) (λ other. not (same_channel channel other)) false
          (λ k same. ap not (ap (λ r. same_channel r k) (sym (same_is q channel e)) ∙ same))
          (connection_at parts.slots conn).channels))
      by false e =
          put-same (listeners q parts.rows) conn (has_channel q slot.connection)
          (ap (list_any (same_channel q)) channels
          ∙ any-filter_same (same_channel q) (λ other. not (same_channel channel other)) true
          (λ k same. passes k e same) (connection_at parts.slots conn).channels
          ∙ sym (ap (λ (p : ℕ → Bool). p conn) (board.listed q)))

  -- it loses all its channels
  pub listed-left : (rows : List (ChannelOf × ConnectionSet)) (channels : List ChannelOf)
      → ((q : ChannelOf) → listeners q rows
      ≡ (if list_any (same_channel q) channels then put ◌==◌
      (listeners q parts.rows) conn false else listeners q parts.rows))
      → channels ≡ (connection_at parts.slots conn).channels → slot.connection.channels ≡ []
      → (q : ChannelOf) → listeners q rows
      ≡ put ◌==◌ (listeners q parts.rows) conn (has_channel q slot.connection)
  listed-left rows channels listed are none q = listed q
      ∙ by (list_any (same_channel q) channels) refl
    where
      lacks : has_channel q slot.connection ≡ false
      lacks = ap (list_any (same_channel q)) none

      by : (t : Bool) → list_any (same_channel q) channels ≡ t
          → cond t (put ◌==◌ (listeners q parts.rows) conn false) (listeners q parts.rows)
          ≡ put ◌==◌ (listeners q parts.rows) conn (has_channel q slot.connection)
      by true e = ap (put ◌==◌ (listeners q parts.rows) conn) (sym lacks)
      by false e =
          put-same (listeners q parts.rows) conn (has_channel q slot.connection)
          (lacks ∙ sym e ∙ ap (list_any (same_channel q)) are
          ∙ sym (ap (λ (p : ℕ → Bool). p conn) (board.listed q)))

-- a connection that isn't open has no channel
pub no_channel : {parts : BoardParts} → IsBoard parts → (conn : ℕ)
    → is_open (connection_at parts.slots conn) ≡ false
    → (channel : ChannelOf) → has_channel channel (connection_at parts.slots conn) ≡ false
no_channel {parts} board conn shut channel =
    by (has_channel channel (connection_at parts.slots conn)) refl
  where
    opened : (a b : Bool) → (a && b) ≡ true → a ≡ true
    opened true b e = refl
    opened false b e = absurd (cc e)

    by : (t : Bool) → has_channel channel (connection_at parts.slots conn) ≡ t → t ≡ false
    by true e =
        let there = opened (is_open (connection_at parts.slots conn))
        (not (connection_at parts.slots conn).dropped) (board.usable conn channel e) in
        absurd (cc (there, shut))
    by false e = refl

pub by_result : {T E A B C : Type 0} (r : Result T E) → OnOk r A → OnErr r B → (A → C) → (B → C) → C
by_result (Ok x) ok err then_ok then_err = then_ok ok
by_result (Err e) ok err then_ok then_err = then_err err

-- a change of the outbox alone
pub IsBoard-outbox : {parts : BoardParts} (board : IsBoard parts) (conn : ℕ)
    (slot : ConnectionSlotValue)
    → conn < connection_limit
    → slot.connection.opener ≡ (connection_at parts.slots conn).opener
    → slot.connection.channels ≡ (connection_at parts.slots conn).channels
    → slot.connection.dropped ≡ (connection_at parts.slots conn).dropped
    → {touched : ConnectionSet} → has_number touched ≡ put ◌==◌ (has_number parts.touched) conn true
    → {spare_rows : ℕ} {dropping : List ℕ} {dropping_room : ℕ} → dropping ≡ []
    → IsBoard (record {
      slots = set parts.slots conn slot;
      free = parts.free;
      touched = touched;
      rows = parts.rows;
      spare_rows = spare_rows;
      dropping = dropping;
      dropping_room = dropping_room;
      ready = false;
    })
IsBoard-outbox {parts} board conn slot below opener channels dropped {touched = touched} touch
    none =
    IsBoard-set board conn slot below none (free-same board conn slot below (ap is_some opener))
    (listed-same board conn slot below (λ channel. ap (list_any (same_channel channel)) channels))
    (λ channel has.
    let usable =
    board.usable conn channel (sym (ap (list_any (same_channel channel)) channels) ∙ has) in
    ap (λ o. is_some o && not slot.connection.dropped) opener
    ∙ ap (λ d. is_open (connection_at parts.slots conn) && not d) dropped ∙ usable)
    (spare-touched board conn slot below touched touch)

-- a slot that was read, of an open connection
pub record IsSlot (slots : List ConnectionSlotValue) (board : Board) (conn : ℕ)
    (slot : ConnectionSlotValue) : Type 0 where
  pub within : conn < length slots
  pub below : conn < connection_limit
  pub is : slot ≡ slot_at slots conn
  pub stands : slot.connection ≡ board conn
  pub open_ : IsTrue (is_open slot.connection)

-- an open connection has a slot
pub is_open-within : {parts : BoardParts} → IsBoard parts → (conn : ℕ)
    → IsTrue (is_open (connection_at parts.slots conn))
    → conn < connection_limit
is_open-within {parts} board conn there = by (cases_lt conn connection_limit)
  where
    by : (conn < connection_limit) ⊎ (connection_limit ≤ conn) → conn < connection_limit
    by (inl below) = below
    by (inr past) =
        absurd (cc (
          ap (λ s. is_open s.connection)
              (get_or_past parts.slots conn closed_slot (omega (arith, board.numbered))),
          there,
        ))

pub IsSlot-read : {parts : BoardParts} → IsBoard parts → (board : Board) → board
    ≡ connection_at parts.slots
    → (conn : ℕ) → IsTrue (is_open (board conn)) → (slot : ConnectionSlotValue) → slot
    ≡ get_or parts.slots conn slot
    → IsSlot parts.slots board conn slot
IsSlot-read {parts} kept board stand conn there slot read =
    let below = is_open-within kept conn
    (subst (λ (b : Board). IsTrue (is_open (b conn))) stand there) in
    let within : conn < length parts.slots = omega (arith, kept.numbered) in
    let is = slot_at-read parts.slots conn slot within read in
    let has = ap (λ s. s.connection) is ∙ ap (λ (b : Board). b conn) (sym stand) in
    record {
      within = within;
      below = below;
      is = is;
      stands = has;
      open_ = subst (λ x. IsTrue (is_open x)) (sym has) there;
    }

-- a connection that takes acknowledgements can be used, and its outbox has room
pub not_shut : (connection : Connection) → is_shut connection ≡ false → IsTrue (is_open connection)
    → IsTrue (is_usable connection) × IsTrue (has_room connection)
not_shut connection takes there = by connection.dropped (has_room connection) takes
  where
    by : (dropped room : Bool) → (dropped || not room) ≡ false
        → IsTrue (is_open connection && not dropped) × IsTrue room
    by true room e = absurd (cc e)
    by false true e = (ap (λ b. b && true) there, refl)
    by false false e = absurd (cc e)

-- and where all is ready it has its spare places
pub spare-ready : {parts : BoardParts} → IsBoard parts → IsTrue parts.ready → (conn : ℕ)
    → HasSpare (slot_at parts.slots conn)
spare-ready board ready conn = board.spare conn ((board.prepared ready).untouched conn)

pub record HasBoth (slot : ConnectionSlotValue) : Type 0 where
  pub item : 0 < slot.room
  pub channel : 0 < slot.channel_room

pub spare-both : {parts : BoardParts} → IsBoard parts → IsTrue parts.ready
    → (board : Board) (conn : ℕ) (slot : ConnectionSlotValue)
    → IsSlot parts.slots board conn slot → is_shut (board conn) ≡ false → HasBoth slot
spare-both kept ready board conn slot at takes =
    let spare = subst HasSpare (sym at.is) (spare-ready kept ready conn) in
    let can = not_shut slot.connection (ap is_shut at.stands ∙ takes) at.open_ in
    record { item = spare.item can.0 can.1; channel = spare.channel can.0 }

-- a board is what its connections are
pub board-like : (now before : BoardValue) → now.connections ≡ before.connections → board_of now
    ≡ board_of before
board-like now before same =
    one_table _ _ (λ k. ap (λ cs. unwrap_or (slice_get cs k) closed_connection) same)
