-- Spare places that are taken one slot after another, and the board afterwards.
use Rattle.std.proofs.Common.{◌≡◌, ◌==◌, ℕ, nat_lt, ◌<◌, ◌≤◌, Bool, true, false, not, ◌&&◌, cond, List, [], length, set, IsTrue, ap, sym, subst, ◌∙◌, arith}
use Rattle.std.proofs.lemmas.List.{length-map}
use Rattle.lr_names.specs.Channel.{ChannelOf}
use Rattle.lr_limits.specs.Limits.{connection_limit}
use Rattle.lr_model.specs.Board.{has_channel, is_open}
use Rattle.lr_model.specs.Table.{put}
use Rattle.lr_model.proofs.Tables.{one_table}
use Rattle.lr_pubsub.specs.declared.connection_set.ConnectionSet.{ConnectionSet}
use Rattle.lr_pubsub.specs.BoardParts.{BoardParts, IsBoard}
use Rattle.lr_pubsub.specs.Connection.{is_usable}
use Rattle.lr_pubsub.specs.ConnectionSet.{has_number}
use Rattle.lr_pubsub.specs.ConnectionSlot.{ConnectionSlotValue, HasSpare, connection_at, connections_of, slot_at}
use Rattle.lr_pubsub.specs.Subscribers.{listeners}
use Rattle.lr_pubsub.proofs.Slots.{connection_at-like, either_number, slot_at-set}

module _ (slots : List ConnectionSlotValue) (conn : ℕ) (slot : ConnectionSlotValue)
    (within : conn < length slots)
    (lacking : ℕ → Bool) (others : (k : ℕ) → lacking k ≡ false → HasSpare (slot_at slots k)) where
  -- one connection less lacks them
  pub spare-taken : (left : ℕ → Bool) → left ≡ put ◌==◌ lacking conn false → HasSpare slot
      → (k : ℕ) → left k ≡ false → HasSpare (slot_at (set slots conn slot) k)
  spare-taken left is here k none =
      subst HasSpare (sym (slot_at-set slots conn slot within k))
      (either_number conn k
      (λ t. cond t false (lacking k) ≡ false → HasSpare (cond t slot (slot_at slots k)))
      (λ e no. here)
      (λ e. others k)
      (sym (ap (λ (p : ℕ → Bool). p k) is) ∙ none))

  -- one that lacks them may go on lacking them
  pub spare-failed : lacking conn ≡ true → (k : ℕ) → lacking k ≡ false
      → HasSpare (slot_at (set slots conn slot) k)
  spare-failed lacks k none =
      subst HasSpare (sym (slot_at-set slots conn slot within k))
      (either_number conn k (λ t. HasSpare (cond t slot (slot_at slots k)))
      (λ e. absurd (cc (lacks, none, e)))
      (λ e. others k none))

-- a board on which spare places were taken
pub IsBoard-reserved : {parts : BoardParts} → IsBoard parts
    → {slots : List ConnectionSlotValue} {touched : ConnectionSet}
    → {rows : List (ChannelOf × ConnectionSet)} {spare_rows : ℕ} {dropping : List ℕ}
    {dropping_room : ℕ} {ready : Bool}
    → connections_of slots ≡ connections_of parts.slots
    → ((k : ℕ) → has_number touched k ≡ false → HasSpare (slot_at slots k))
    → rows ≡ parts.rows → dropping ≡ []
    → (IsTrue ready → ((k : ℕ) → has_number touched k ≡ false) × (0 < spare_rows)
    × (connection_limit ≤ dropping_room))
    → IsBoard (record {
      slots = slots;
      free = parts.free;
      touched = touched;
      rows = rows;
      spare_rows = spare_rows;
      dropping = dropping;
      dropping_room = dropping_room;
      ready = ready;
    })
IsBoard-reserved {parts} board {slots = slots} same spare rows_same none prepared = record {
  numbered =
      let many = ap length same in
      omega (
        arith,
        many,
        length-map slots (λ s. s.connection),
        length-map parts.slots
            (λ s. s.connection),
        board.numbered,
      );
  free = board.free
      ∙ one_table _ _ (λ k. ap (λ x. nat_lt k connection_limit && not (is_open x)) (like k));
  listed = λ channel.
      ap (listeners channel) rows_same ∙ board.listed channel
      ∙ one_table _ _ (λ k. ap (has_channel channel) (like k));
  usable = λ k channel. subst (λ x. IsTrue (has_channel channel x) → IsTrue (is_usable x)) (like k)
      (board.usable k channel);
  spare = spare;
  sent = none;
  prepared = λ ready. let all = prepared ready in
      record { untouched = all.0; row = all.1; dropping = all.2 };
}
  where
    like : (k : ℕ) → connection_at parts.slots k ≡ connection_at slots k
    like k = sym (connection_at-like parts.slots slots same k)
