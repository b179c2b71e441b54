-- Lists of slots.
use Rattle.std.proofs.Common.{◌≡◌, ◌≢◌, ◌==◌, ℕ, zero, suc, ◌<◌, Bool, true, false, cond, List, [], ◌∷◌, length, get_or, set, slice_get, unwrap_or, refl, ap, sym, ◌∙◌, if◌then◌else◌}
use Rattle.std.proofs.lemmas.Bool.{eqb-true, eqb-false}
use Rattle.std.proofs.lemmas.List.{get_or-set_same, get_or-set_other, get_or_read}
use Rattle.std.proofs.Math.Seq.{map-set_same}
use Rattle.lr_model.specs.Board.{Board, closed_connection, with_connection}
use Rattle.lr_model.specs.Table.{put}
use Rattle.lr_model.proofs.Tables.{one_table}
use Rattle.lr_pubsub.specs.ConnectionSlot.{ConnectionSlotValue, closed_slot, connection_at, connections_of, slot_at}

-- a choice by whether two numbers are one
pub either_number : (a b : ℕ) (P : Bool → Type 0) → (a ≡ b → P true) → (a ≢ b → P false)
    → P (a == b)
either_number a b P same other = by (a == b) refl
  where
    by : (t : Bool) → (a == b) ≡ t → P t
    by true e = same (eqb-true a b e)
    by false e = other (eqb-false a b e)

-- a table in which what stands at a number is put there again
pub put-same : {V : Type 0} (table : ℕ → V) (conn : ℕ) (v : V) → v ≡ table conn → table
    ≡ put ◌==◌ table conn v
put-same table conn v is = one_table _ _ (λ k.
    either_number conn k (λ t. table k ≡ cond t v (table k)) (λ e. ap table (sym e) ∙ sym is)
    (λ e. refl))

-- the slots after one is written
pub slot_at-set : (slots : List ConnectionSlotValue) (conn : ℕ) (slot : ConnectionSlotValue)
    → conn < length slots
    → (k : ℕ) → slot_at (set slots conn slot) k ≡ (if conn == k then slot else slot_at slots k)
slot_at-set slots conn slot within k =
    either_number conn k (λ t. slot_at (set slots conn slot) k ≡ cond t slot (slot_at slots k))
    (λ e. ap (slot_at (set slots conn slot)) (sym e)
    ∙ get_or-set_same slots conn slot closed_slot within)
    (λ e. get_or-set_other slots conn k slot closed_slot (λ o. e (sym o)))

-- a slot that was read
pub slot_at-read : (slots : List ConnectionSlotValue) (conn : ℕ) (slot : ConnectionSlotValue)
    → conn < length slots
    → slot ≡ get_or slots conn slot → slot ≡ slot_at slots conn
slot_at-read slots conn slot within read = get_or_read slots conn slot within read closed_slot

-- what the list of the connections shows
pub connection-shown : (slots : List ConnectionSlotValue) (k : ℕ)
    → unwrap_or (slice_get (connections_of slots) k) closed_connection ≡ connection_at slots k
connection-shown [] k = refl
connection-shown (slot ∷ slots) zero = refl
connection-shown (slot ∷ slots) (suc k) = connection-shown slots k

abbrev pub shown : List ConnectionSlotValue → Board
shown slots = λ k. unwrap_or (slice_get (connections_of slots) k) closed_connection

pub board-shown : (slots : List ConnectionSlotValue) → shown slots ≡ connection_at slots
board-shown slots = one_table _ _ (connection-shown slots)

pub board-set : (slots : List ConnectionSlotValue) (conn : ℕ) (slot : ConnectionSlotValue)
    → conn < length slots
    → shown (set slots conn slot) ≡ with_connection (connection_at slots) conn slot.connection
board-set slots conn slot within =
    board-shown (set slots conn slot)
    ∙ one_table _ _
    (λ k. ap (λ s. s.connection) (slot_at-set slots conn slot within k) ∙ choice (conn == k) k)
  where
    choice : (b : Bool) (k : ℕ) → (cond b slot (slot_at slots k)).connection
        ≡ cond b slot.connection (connection_at slots k)
    choice true k = refl
    choice false k = refl

-- slots that show the same connections
pub connection_at-like : (before now : List ConnectionSlotValue) → connections_of now
    ≡ connections_of before
    → (k : ℕ) → connection_at now k ≡ connection_at before k
connection_at-like before now same k =
    sym (connection-shown now k) ∙ ap (λ cs. unwrap_or (slice_get cs k) closed_connection) same
    ∙ connection-shown before k

pub connections_of-like : (slots : List ConnectionSlotValue) (conn : ℕ)
    (old new : ConnectionSlotValue)
    → old ≡ get_or slots conn old → new.connection ≡ old.connection
    → connections_of (set slots conn new) ≡ connections_of slots
connections_of-like slots conn old new read like =
    map-set_same (λ slot. slot.connection) slots conn new old
    (like ∙ ap (λ slot. slot.connection) read)
