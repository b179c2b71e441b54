-- The keys of a fenced lock, and what stands under them.
use Rattle.std.proofs.Common.{◌≡◌, ◌≤◌, ◌==◌, ℕ, Bool, true, false, List, Option, Some, None, if◌then◌else◌, refl, ap, sym, subst, ◌∙◌, arith}
use Rattle.std.specs.Option.{unwrap_or}
use Rattle.std.specs.Str.{bytes_eq}
use Rattle.std.proofs.lemmas.Bool.Decides.{nat_tests}
use Rattle.lr_limits.specs.Limits.{last_moment, token_limit}
use Rattle.lr_names.specs.Key.{key_text}
use Rattle.lr_names.specs.Name.{IsName}
use Rattle.lr_names.specs.declared.part.Part.TheVariants.{Fenced, Token}
use Rattle.lr_keys.specs.KeySpace.{KeyEntry, Keys, entry_at, live_entry, live_entries}
use Rattle.lr_keys.proofs.TableLaws.{same_bytes}
use Rattle.lr_model.specs.Answer.{Objects}
use Rattle.lr_model.specs.Fenced.{FencedLock}
use Rattle.lr_model.specs.Table.{put}
use Rattle.lr_model.proofs.Tables.{one_table}
use Rattle.lr_counter.specs.Numbers.{some_unless_zero}
use Rattle.lr_counter.proofs.NumbersLaws.{number_at}
use Rattle.lr_hold.specs.Step.{IsHeld}
use Rattle.lr_hold.proofs.HoldsLaws.{held_at}
use Rattle.lr_fenced.specs.Stands.{FencedLocksStand, holds_of, tokens_of}
use Rattle.lr_fenced.specs.Step.{IsLockAt, IsTokenAt, live_lock}

-- the number of a token's counter
pub unwrap_or-some_unless_zero : (token : ℕ) → unwrap_or (some_unless_zero token) 0 ≡ token
unwrap_or-some_unless_zero token = by (token == 0) refl
  where
    by : (b : Bool) → (token == 0) ≡ b → unwrap_or (if b then None else Some token) 0 ≡ token
    by true zero = grind (arith, nat_tests)
    by false more = refl

-- one side of what is put into a table
pub side_of_put : {X Y : Type 0} (side : X → Y) (table : List ℕ → X) (name : List ℕ) (x : X)
    → put bytes_eq (λ q. side (table q)) name (side x) ≡ (λ q. side (put bytes_eq table name x q))
side_of_put {X} {Y} side table name x =
    one_table (put bytes_eq (λ q. side (table q)) name (side x))
    (λ q. side (put bytes_eq table name x q)) (λ q. by q (bytes_eq name q))
  where
    by : (q : List ℕ) (b : Bool)
        → (if b then side x else side (table q)) ≡ side (if b then x else table q)
    by q true = refl
    by q false = refl

-- what stands in the table already
pub put-own : {X : Type 0} (table : List ℕ → X) (name : List ℕ)
    → put bytes_eq table name (table name) ≡ table
put-own {X} table name =
    one_table (put bytes_eq table name (table name)) table (λ q. by q (bytes_eq name q) refl)
  where
    by : (q : List ℕ) (b : Bool) → bytes_eq name q ≡ b
        → (if b then table name else table q) ≡ table q
    by q true same = ap table (same_bytes name q same)
    by q false other = refl

-- what the keys have of a lock at a moment
pub lock_at : (old : Keys) (objects : Objects) → FencedLocksStand old objects
    → (middle : Keys) (moment : ℕ) → middle.moment ≡ moment
    → entry_at middle ≡ live_entries moment (entry_at old)
    → old.moment ≤ moment → moment ≤ last_moment → (name : List ℕ) → IsName name
    → IsLockAt middle (key_text Fenced name) (key_text Token name)
    (live_lock moment (objects.fenced_locks name))
lock_at old objects stand middle moment passed left later early name named = record {
  held =
      subst (λ m. IsHeld m (entry_at middle (key_text Fenced name)) lock.held) (sym passed)
      (subst (λ e. IsHeld moment e lock.held) (entry (key_text Fenced name))
      (held_at Fenced old (holds_of objects) stand.held moment later early name named));
  token =
      subst (λ e. IsTokenAt e lock.token) (entry (key_text Token name))
      (number_at Token token_limit old (tokens_of objects) stand.tokens moment name named);
}
  where
    lock : FencedLock
    lock = live_lock moment (objects.fenced_locks name)

    entry : (key : List ℕ) → live_entry moment (entry_at old key) ≡ entry_at middle key
    entry key = sym (ap (λ (f : List ℕ → Option KeyEntry). f key) left)

-- a counter never goes
pub counter_stays : (old : Keys) (objects : Objects) → FencedLocksStand old objects
    → (middle : Keys) (moment : ℕ) → entry_at middle ≡ live_entries moment (entry_at old)
    → (name : List ℕ) → IsName name
    → entry_at middle (key_text Token name) ≡ entry_at old (key_text Token name)
counter_stays old objects stand middle moment left name named =
    ap (λ (f : List ℕ → Option KeyEntry). f (key_text Token name)) left
    ∙ (number_at Token token_limit old (tokens_of objects) stand.tokens moment name named).stands
    ∙ sym (stand.tokens.at_keys name named)
