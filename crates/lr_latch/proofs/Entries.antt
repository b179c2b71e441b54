-- The entries of a table of latches.
use Rattle.std.proofs.Common.{◌≡◌, ◌≢◌, ℕ, zero, suc, ◌+◌, ◌<◌, ◌≤◌, ◌==◌, Bool, true, false, cond, List, [], ◌∷◌, length, get_or, slice_get, position, sum_by, Option, Some, None, if◌then◌else◌, refl, ap, sym, subst, ◌∙◌, arith}
use Rattle.std.specs.List.{swap_remove}
use Rattle.std.specs.Map.{lookup, keys_of, values_of}
use Rattle.std.proofs.lemmas.List.Sums.{sum_by-cons, sum_by-swap_remove}
use Rattle.indexmap.proofs.MapLemmas.{Found-position, Missing-position}
use Rattle.indexmap.specs.IndexMap.{insert_entry, swap_remove_entry}
use Rattle.lr_names.specs.Channel.{ChannelOf}
use Rattle.lr_names.specs.contracts.channel.ChannelPartialEq.TheImpl.{ghosts}
use Rattle.lr_waiting.specs.declared.latch.LatchEntry.{LatchEntry}
use Rattle.lr_model.specs.Board.{same_channel}
use Rattle.lr_waiting.specs.Latch.{no_entry}
use Rattle.lr_model.specs.Table.{put}
use Rattle.lr_model.proofs.SameChannel.{derived_same}
use Rattle.lr_model.proofs.Tables.{one_table}
use Rattle.lr_latch.specs.Value.{AreEntries, IsEntry, entry_in, orders_due, waiting}

-- what a look-up found
abbrev pub found : Option LatchEntry → LatchEntry
found (Some entry) = entry
found None = no_entry

pub entry_get : (rows : List (ChannelOf × LatchEntry)) (channel : ChannelOf)
    → entry_in rows channel ≡ found (lookup (ghosts.eq channel) rows)
entry_get [] channel = refl
entry_get (row ∷ rows) channel =
    ap (λ b. if b then row.1 else entry_in rows channel) (sym (derived_same channel row.0))
    ∙ by (ghosts.eq channel row.0) (entry_get rows channel)
  where
    by : (b : Bool) → entry_in rows channel ≡ found (lookup (ghosts.eq channel) rows)
        → (if b then row.1 else entry_in rows channel)
        ≡ found (cond b (Some row.1) (lookup (ghosts.eq channel) rows))
    by true rest = refl
    by false rest = rest

-- the entries after a change at one channel
pub entry_set : (key : ChannelOf) (value : Option LatchEntry)
    (old new : List (ChannelOf × LatchEntry))
    → ((q : ChannelOf) → lookup (ghosts.eq q) new
    ≡ cond (ghosts.eq key q) value (lookup (ghosts.eq q) old))
    → entry_in new ≡ put same_channel (entry_in old) key (found value)
entry_set key value old new sets = one_table _ _ (λ q.
    entry_get new q ∙ ap found (sets q) ∙ by q (ghosts.eq key q)
    ∙ ap (λ b. if b then found value else entry_in old q) (derived_same key q))
  where
    by : (q : ChannelOf) (b : Bool) → found (cond b value (lookup (ghosts.eq q) old))
        ≡ (if b then found value else entry_in old q)
    by q true = refl
    by q false = sym (entry_get old q)

-- how many channels threads wait on, after an entry was put at one
pub waiting_insert : (rows : List (ChannelOf × LatchEntry)) (key : ChannelOf) (entry : LatchEntry)
    → waiting (insert_entry ghosts.eq rows key entry) + orders_due (entry_in rows key)
    ≡ waiting rows + orders_due entry
waiting_insert [] key entry = omega arith
waiting_insert (row ∷ rows) key entry =
    by (ghosts.eq key row.0) (derived_same key row.0) (waiting_insert rows key entry)
  where
    by : (b : Bool) → b ≡ same_channel key row.0
        → waiting (insert_entry ghosts.eq rows key entry) + orders_due (entry_in rows key)
        ≡ waiting rows + orders_due entry
        → waiting (if b then (row.0, entry) ∷ rows
        else row ∷ insert_entry ghosts.eq rows key entry)
        + orders_due (entry_in (row ∷ rows) key)
        ≡ waiting (row ∷ rows) + orders_due entry
    by true is rest = rw (sym is) (omega arith)
    by false is rest = rw (sym is) (omega (arith, rest))

-- no more of them than there are channels
pub waiting-few : (rows : List (ChannelOf × LatchEntry)) → waiting rows ≤ length rows
waiting-few [] = omega arith
waiting-few (row ∷ rows) = by (row.1.registered == 0) (waiting-few rows)
  where
    by : (b : Bool) → waiting rows ≤ length rows
        → (if b then 0 else 1) + waiting rows ≤ suc (length rows)
    by true rest = omega (arith, rest)
    by false rest = omega (arith, rest)

-- the orders that are due for a row
abbrev due : ChannelOf × LatchEntry → ℕ
due row = orders_due row.1

waiting-sum : (rows : List (ChannelOf × LatchEntry)) → waiting rows ≡ sum_by due rows
waiting-sum [] = refl
waiting-sum (row ∷ rows) = ap (λ n. due row + n) (waiting-sum rows) ∙ sym (sum_by-cons due row rows)

value_at : (rows : List (ChannelOf × LatchEntry)) (i : ℕ) (row : ChannelOf × LatchEntry)
    → i < length rows → slice_get (values_of rows) i ≡ Some (get_or rows i row).1
value_at [] i row within = absurd (omega (arith, within))
value_at (first ∷ rows) zero row within = refl
value_at (first ∷ rows) (suc i) row within = value_at rows i row (omega (arith, within))

-- and after the entry of one was taken away
pub waiting_remove : (rows : List (ChannelOf × LatchEntry)) (key : ChannelOf)
    → waiting (swap_remove_entry (ghosts.eq key) rows) + orders_due (entry_in rows key)
    ≡ waiting rows
waiting_remove [] key = refl
waiting_remove (row ∷ rows) key = by (position (ghosts.eq key) (keys_of (row ∷ rows))) refl
  where
    all : List (ChannelOf × LatchEntry)
    all = row ∷ rows

    by : (place : Option ℕ) → position (ghosts.eq key) (keys_of all) ≡ place
        → waiting (swap_remove_entry (ghosts.eq key) all) + orders_due (entry_in all key)
        ≡ waiting all
    by None none =
        let missing = Missing-position (ghosts.eq key) all none in
        let is : entry_in all key ≡ no_entry = entry_get all key ∙ ap found missing.value in
        let same : swap_remove_entry (ghosts.eq key) all ≡ all = rw none refl in
        rw is (rw same (omega arith))
    by (Some i) some =
        let at = Found-position (ghosts.eq key) all i some in
        let is : entry_in all key ≡ (get_or all i row).1 =
        entry_get all key ∙ ap found (at.value ∙ value_at all i row at.within) in
        let left : swap_remove_entry (ghosts.eq key) all ≡ swap_remove all i row = rw some refl in
        ap (λ l. waiting l + orders_due (entry_in all key)) left
        ∙ ap (λ n. n + orders_due (entry_in all key)) (waiting-sum (swap_remove all i row))
        ∙ ap (λ entry. sum_by due (swap_remove all i row) + orders_due entry) is
        ∙ sum_by-swap_remove due all i row at.within
        ∙ sym (waiting-sum all)

-- where an entry is put at a channel, those of all channels are such
pub valid-put : (key : ChannelOf) (entry : LatchEntry) (old new : List (ChannelOf × LatchEntry))
    → entry_in new ≡ put same_channel (entry_in old) key entry
    → IsEntry entry → AreEntries old → AreEntries new
valid-put key entry old new is valid before = record {
  at = λ q.
      subst (λ (table : ChannelOf → LatchEntry). IsEntry (table q)) (sym is)
      (by q (same_channel key q));
}
  where
    by : (q : ChannelOf) (b : Bool) → IsEntry (if b then entry else entry_in old q)
    by q true = valid
    by q false = before.at q

-- a channel with an entry is found
pub stored : (rows : List (ChannelOf × LatchEntry)) (key : ChannelOf)
    → entry_in rows key ≢ no_entry → lookup (ghosts.eq key) rows ≢ None
stored rows key kept none = kept (entry_get rows key ∙ ap found none)
