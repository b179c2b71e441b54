-- The slots of the watched holds, by their keys.
use Rattle.std.proofs.Common.{◌≡◌, ◌≢◌, Bool, true, false, cond, List, [], ◌∷◌, Option, Some, None, if◌then◌else◌, refl, ap, sym, subst, ◌∙◌}
use Rattle.std.specs.Map.{lookup}
use Rattle.lr_model.specs.Table.{put}
use Rattle.lr_model.proofs.Tables.{one_table}
use Rattle.lr_waiting.specs.declared.watch.WatchKey.{WatchKey}
use Rattle.lr_waiting.specs.contracts.watch.WatchKeyPartialEq.TheImpl.{ghosts}
use Rattle.lr_waiting.specs.Watchdog.{same_watch}
use Rattle.lr_watchdog.specs.declared.slot.Slot.{Slot}
use Rattle.lr_watchdog.specs.Value.{AreSlots, IsSlot, is_kept, no_slot, slot_in}
use Rattle.lr_watchdog.proofs.SameWatch.{derived_same, same_is}

-- what a look-up found
abbrev pub found : Option Slot → Slot
found (Some slot) = slot
found None = no_slot

pub slot_get : (rows : List (WatchKey × Slot)) (key : WatchKey)
    → slot_in rows key ≡ found (lookup (ghosts.eq key) rows)
slot_get [] key = refl
slot_get (row ∷ rows) key =
    ap (λ b. if b then row.1 else slot_in rows key) (sym (derived_same key row.0))
    ∙ by (ghosts.eq key row.0) (slot_get rows key)
  where
    by : (b : Bool) → slot_in rows key ≡ found (lookup (ghosts.eq key) rows)
        → (if b then row.1 else slot_in rows key)
        ≡ found (cond b (Some row.1) (lookup (ghosts.eq key) rows))
    by true rest = refl
    by false rest = rest

-- the slots after a change at one hold
pub slot_set : (key : WatchKey) (value : Option Slot) (old new : List (WatchKey × Slot))
    → ((q : WatchKey) → lookup (ghosts.eq q) new
    ≡ cond (ghosts.eq key q) value (lookup (ghosts.eq q) old))
    → slot_in new ≡ put same_watch (slot_in old) key (found value)
slot_set key value old new sets = one_table _ _ (λ q.
    slot_get new q ∙ ap found (sets q) ∙ by q (ghosts.eq key q)
    ∙ ap (λ b. if b then found value else slot_in old q) (derived_same key q))
  where
    by : (q : WatchKey) (b : Bool) → found (cond b value (lookup (ghosts.eq q) old))
        ≡ (if b then found value else slot_in old q)
    by q true = refl
    by q false = sym (slot_get old q)

-- what a table has at a key may be put there
pub put_own : {V : Type 0} (table : WatchKey → V) (key : WatchKey)
    → put same_watch table key (table key) ≡ table
put_own {V} table key = one_table _ _ (λ q. by q (same_watch key q) refl)
  where
    by : (q : WatchKey) (b : Bool) → same_watch key q ≡ b
        → (if b then table key else table q) ≡ table q
    by q true e = ap table (same_is key q e)
    by q false e = refl

-- a part of each value of a table after one was put
pub part_put : {V W : Type 0} (part : V → W) (table : WatchKey → V) (key : WatchKey) (value : V)
    → (λ (q : WatchKey). part (put same_watch table key value q))
    ≡ put same_watch (λ q. part (table q)) key (part value)
part_put {V} {W} part table key value = one_table _ _ (λ q. by q (same_watch key q))
  where
    by : (q : WatchKey) (b : Bool) → part (if b then value else table q)
        ≡ (if b then part value else part (table q))
    by q true = refl
    by q false = refl

-- a hold with a slot is found
pub stored : (rows : List (WatchKey × Slot)) (key : WatchKey)
    → slot_in rows key ≢ no_slot → lookup (ghosts.eq key) rows ≢ None
stored rows key kept none = kept (slot_get rows key ∙ ap found none)

-- a slot of which nothing is to be kept
pub not_kept : (slot : Slot) → is_kept slot ≡ false → no_slot ≡ slot
not_kept slot e = by slot.watch slot.renewal e
  where
    by : (watch : _) (renewal : _) → is_kept (record { watch = watch; renewal = renewal }) ≡ false
        → no_slot ≡ record { watch = watch; renewal = renewal }
    by None None e = refl
    by None (Some renewal) e = absurd (cc e)
    by (Some watch) renewal e = absurd (cc e)

-- where a slot is put at a hold, those of all holds are such
pub valid-put : (key : WatchKey) (slot : Slot) (old new : List (WatchKey × Slot))
    → slot_in new ≡ put same_watch (slot_in old) key slot
    → IsSlot slot → AreSlots old → AreSlots new
valid-put key slot old new is valid before = record {
  at = λ q.
      subst (λ (table : WatchKey → Slot). IsSlot (table q)) (sym is) (by q (same_watch key q));
}
  where
    by : (q : WatchKey) (b : Bool) → IsSlot (if b then slot else slot_in old q)
    by q true = valid
    by q false = before.at q
