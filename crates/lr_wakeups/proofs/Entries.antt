-- Entries after a change.
use Rattle.std.proofs.Common.{◌≡◌, ◌==◌, nat_lt, Bool, true, false, not, refl, sym, if◌then◌else◌}
use Rattle.std.proofs.lemmas.Bool.{eqb-true, eqb-false, or_parts, false≢true}
use Rattle.lr_names.specs.declared.kind.Wakes.{Wakes}
use Rattle.lr_waiting.specs.declared.latch.LatchEntry.{LatchEntry}
use Rattle.lr_waiting.specs.Latch.{no_entry, is_kept, if_kept, next_count, acknowledge_in, deliver_to, deliver_in}

-- what is so of an entry, and of none where it would be forgotten, is so of what is kept
pub kept_or_none : (P : LatchEntry → Type 0) (entry : LatchEntry) → P entry
    → (nat_lt 0 entry.registered ≡ false → entry.acknowledged ≡ entry.sent → P no_entry)
    → P (if_kept entry)
kept_or_none P entry here gone = by (is_kept entry) refl
  where
    by : (kept : Bool) → is_kept entry ≡ kept → P (if kept then entry else no_entry)
    by true e = here
    by false e =
        let parts = or_parts (nat_lt 0 entry.registered) (not (entry.acknowledged == entry.sent)) e
        in gone parts.0 (equal (entry.acknowledged == entry.sent) refl parts.1)
      where
        equal : (same : Bool) → (entry.acknowledged == entry.sent) ≡ same → not same ≡ false
            → entry.acknowledged ≡ entry.sent
        equal true f g = eqb-true entry.acknowledged entry.sent f
        equal false f g = absurd (false≢true (sym g))

-- an entry with one more acknowledgement
abbrev pub with_acknowledged : LatchEntry → LatchEntry
with_acknowledged entry = record entry { acknowledged = next_count entry.acknowledged }

-- an acknowledgement that comes: the entry stays where none was outstanding
pub acknowledged_by : (P : LatchEntry → Type 0) (entry : LatchEntry)
    → (entry.acknowledged ≡ entry.sent → P entry)
    → P (with_acknowledged entry)
    → (nat_lt 0 entry.registered ≡ false → next_count entry.acknowledged ≡ entry.sent → P no_entry)
    → P (acknowledge_in entry)
acknowledged_by P entry old here gone = by (is_kept entry) refl
  where
    equal : (same : Bool) → (entry.acknowledged == entry.sent) ≡ same → not same ≡ false
        → entry.acknowledged ≡ entry.sent
    equal true f g = eqb-true entry.acknowledged entry.sent f
    equal false f g = absurd (false≢true (sym g))

    by : (kept : Bool) → is_kept entry ≡ kept
        → P (if kept then if_kept (with_acknowledged entry) else entry)
    by true e = kept_or_none P (with_acknowledged entry) here gone
    by false e =
        let parts = or_parts (nat_lt 0 entry.registered) (not (entry.acknowledged == entry.sent)) e
        in old (equal (entry.acknowledged == entry.sent) refl parts.1)

-- a message where threads wait, and where none does
pub delivered_by : (P : LatchEntry → Type 0) (wakes : Wakes) (entry : LatchEntry)
    → (entry.registered ≡ 0 → P entry)
    → ((entry.registered ≡ 0 → ⊥) → P (deliver_to wakes entry))
    → P (deliver_in wakes entry)
delivered_by P wakes entry none some = by (entry.registered == 0) refl
  where
    by : (empty : Bool) → (entry.registered == 0) ≡ empty
        → P (if empty then entry else deliver_to wakes entry)
    by true e = none (eqb-true entry.registered 0 e)
    by false e = some (eqb-false entry.registered 0 e)
