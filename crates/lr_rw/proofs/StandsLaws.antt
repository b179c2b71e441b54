-- For which read-write locks keys stand: laws for the crates above.
use Rattle.std.proofs.Common.{◌≡◌, ℕ, Bool, true, false, List, Option, None, if◌then◌else◌, refl, ap, subst, ◌∙◌, arith}
use Rattle.std.specs.Str.{bytes_eq}
use Rattle.lr_names.specs.Key.{key_text}
use Rattle.lr_names.specs.Name.{IsName}
use Rattle.lr_names.specs.declared.part.Part.TheVariants.{Rw, RwDeadlines}
use Rattle.lr_names.proofs.KeyLaws.{keys_differ}
use Rattle.lr_keys.specs.KeySpace.{KeyEntry, Keys, entry_at, live_entry}
use Rattle.lr_keys.proofs.TableLaws.{same_bytes}
use Rattle.lr_model.specs.Answer.{Objects, no_objects}
use Rattle.lr_model.specs.ReadWrite.{ReadWriteLock}
use Rattle.lr_model.specs.Table.{put}
use Rattle.lr_rw.specs.Holds.{IsLockAt}
use Rattle.lr_rw.specs.Stands.{ReadWriteLocksStand}
use Rattle.lr_rw.proofs.RunLemmas.{at-later}

-- where there is no key no lock is held
pub no_keys_stand : (keys : Keys) → entry_at keys ≡ (λ _. None)
    → ReadWriteLocksStand keys no_objects
no_keys_stand keys none = record {
  locks = λ name named. record {
    has = record {
      counts_are = ap (λ (f : List ℕ → Option KeyEntry). f (key_text Rw name)) none;
      deadlines_are = ap (λ (f : List ℕ → Option KeyEntry). f (key_text RwDeadlines name)) none;
    };
    is = record { apart = tt; few = omega arith; each = tt };
  };
}

-- what is left of the keys later stands for the same locks
pub read_write_locks_stand_later : (old new : Keys) (objects : Objects)
    → ReadWriteLocksStand old objects
    → ((name : List ℕ) → IsName name
    → entry_at new (key_text Rw name) ≡ live_entry new.moment (entry_at old (key_text Rw name)))
    → ((name : List ℕ) → IsName name
    → entry_at new (key_text RwDeadlines name)
    ≡ live_entry new.moment (entry_at old (key_text RwDeadlines name)))
    → ReadWriteLocksStand new objects
read_write_locks_stand_later old new objects stand counts deadlines = record {
  locks = λ name named.
      at-later old new new.moment (key_text Rw name) (key_text RwDeadlines name)
      (objects.read_write_locks name) (counts name named) (deadlines name named)
      (stand.locks name named);
}

-- memory that is given up changes nothing
pub read_write_locks_stand_settled : (old new : Keys) (objects : Objects)
    → ReadWriteLocksStand old objects → entry_at new ≡ entry_at old
    → ReadWriteLocksStand new objects
read_write_locks_stand_settled old new objects stand same = record {
  locks = λ name named.
      let at = stand.locks name named in
      record {
        has = record {
          counts_are =
              ap (λ (f : List ℕ → Option KeyEntry). f (key_text Rw name)) same ∙ at.has.counts_are;
          deadlines_are =
              ap (λ (f : List ℕ → Option KeyEntry). f (key_text RwDeadlines name)) same
              ∙ at.has.deadlines_are;
        };
        is = at.is;
      };
}

-- a step on the keys of one lock
pub read_write_locks_stand_with : (old new : Keys) (moment : ℕ) (objects : Objects)
    → ReadWriteLocksStand old objects → (name : List ℕ) (lock : ReadWriteLock)
    → IsLockAt new (key_text Rw name) (key_text RwDeadlines name) lock
    → ((key : List ℕ) → bytes_eq (key_text Rw name) key ≡ false
    → bytes_eq (key_text RwDeadlines name) key ≡ false
    → entry_at new key ≡ live_entry moment (entry_at old key))
    → ReadWriteLocksStand new
    (record objects { read_write_locks = put bytes_eq objects.read_write_locks name lock })
read_write_locks_stand_with old new moment objects stand name lock at others = record {
  locks = λ q named. by q named (bytes_eq name q) refl;
}
  where
    by : (q : List ℕ) → IsName q → (here : Bool) → bytes_eq name q ≡ here
        → IsLockAt new (key_text Rw q) (key_text RwDeadlines q)
        (if here then lock else objects.read_write_locks q)
    by q named true same =
        subst (λ n. IsLockAt new (key_text Rw n) (key_text RwDeadlines n) lock)
        (same_bytes name q same) at
    by q named false other =
        at-later old new moment (key_text Rw q) (key_text RwDeadlines q)
        (objects.read_write_locks q)
        (others (key_text Rw q) (keys_differ Rw Rw name q (λ e. other))
        (keys_differ RwDeadlines Rw name q (λ e. absurd (cc e))))
        (others (key_text RwDeadlines q) (keys_differ Rw RwDeadlines name q (λ e. absurd (cc e)))
        (keys_differ RwDeadlines RwDeadlines name q (λ e. other)))
        (stand.locks q named)
