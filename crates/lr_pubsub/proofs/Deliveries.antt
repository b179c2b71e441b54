-- The outboxes while a message is delivered.
use Rattle.std.proofs.Common.{◌≡◌, ℕ, suc, ◌<◌, ◌≤◌, ◌==◌, Bool, true, false, not, ◌&&◌, cond, List, [], ◌∷◌, length, filter, get_or, set, slice_get, Some, refl, ap, sym, ◌∙◌, arith}
use Rattle.std.proofs.lemmas.List.{length-set}
use Rattle.lr_names.specs.declared.post.Post.{Post}
use Rattle.lr_limits.specs.Limits.{connection_limit}
use Rattle.lr_model.specs.Board.{numbers_below}
use Rattle.lr_model.specs.Table.{put}
use Rattle.lr_pubsub.specs.ConnectionSlot.{ConnectionSlotValue, connection_at, slot_at}
use Rattle.lr_pubsub.specs.Delivery.{board_with_message, with_message}
use Rattle.lr_model.proofs.Numbers.{IsPopped, below_popped}
use Rattle.lr_pubsub.proofs.Slots.{either_number, slot_at-read, slot_at-set}

-- of all that are to be told, the rest remain
abbrev pub is_told : (ℕ → Bool) → (ℕ → Bool) → ℕ → Bool
is_told all rest conn = all conn && not (rest conn)

-- the slots when a message was put into the outboxes of all but the rest
pub record IsTold (post : Post) (all rest : ℕ → Bool)
    (before now : List ConnectionSlotValue) : Type 0 where
  pub many : length now ≡ length before
  pub among : (conn : ℕ) → rest conn ≡ true → all conn ≡ true
  pub told : (conn : ℕ) → connection_at now conn
      ≡ board_with_message post (is_told all rest) (connection_at before) conn
  pub others : (conn : ℕ) → is_told all rest conn ≡ false → slot_at now conn ≡ slot_at before conn

none_told : (b : Bool) → (b && not b) ≡ false
none_told true = refl
none_told false = refl

pub IsTold-begun : (post : Post) (all : ℕ → Bool) (before : List ConnectionSlotValue)
    → IsTold post all all before before
IsTold-begun post all before = record {
  many = refl;
  among = λ conn there. there;
  told = λ conn.
      ap (λ b. cond b (with_message post (connection_at before conn)) (connection_at before conn))
      (sym (none_told (all conn)));
  others = λ conn none. refl;
}

module _ {post : Post} {all rest : ℕ → Bool} {before now : List ConnectionSlotValue}
    (so_far : IsTold post all rest before now)
    (conn : ℕ) (here : rest conn ≡ true) where
  -- the next one is as it was
  pub IsTold-next : slot_at now conn ≡ slot_at before conn
  IsTold-next = so_far.others conn (ap (λ b. all conn && not b) here ∙ and_false (all conn))
    where
      and_false : (b : Bool) → (b && false) ≡ false
      and_false true = refl
      and_false false = refl

  -- one connection more is told
  pub IsTold-more : (slot : ConnectionSlotValue) (rest_after : ℕ → Bool) → conn < length now
      → slot.connection ≡ with_message post (connection_at now conn)
      → rest_after ≡ put ◌==◌ rest conn false
      → IsTold post all rest_after before (set now conn slot)
  IsTold-more slot rest_after within told taken = record {
    many = length-set now conn slot ∙ so_far.many;
    among = λ k there. either_number conn k (λ t. cond t false (rest k) ≡ true → all k ≡ true)
        (λ e none. absurd (cc none)) (λ e. so_far.among k)
        (sym (ap (λ (p : ℕ → Bool). p k) taken) ∙ there);
    told = λ k.
        ap (λ s. s.connection) (slot_at-set now conn slot within k)
        ∙ either_number conn k
        (λ t. (cond t slot (slot_at now k)).connection
        ≡ cond (all k && not (cond t false (rest k)))
        (with_message post (connection_at before k)) (connection_at before k))
        (λ e. told ∙ ap (λ s. with_message post s.connection) IsTold-next
        ∙ ap (λ n. with_message post (connection_at before n)) e
        ∙ ap (λ b. cond (b && true) (with_message post (connection_at before k))
        (connection_at before k)) (sym (ap all (sym e) ∙ so_far.among conn here)))
        (λ e. so_far.told k)
        ∙ ap (λ b. cond (all k && not b) (with_message post (connection_at before k))
        (connection_at before k)) (sym (ap (λ (p : ℕ → Bool). p k) taken));
    others = λ k none.
        slot_at-set now conn slot within k
        ∙ either_number conn k
        (λ t. (all k && not (cond t false (rest k))) ≡ false → cond t slot (slot_at now k)
        ≡ slot_at before k)
        (λ e no. absurd (cc (no, ap (λ b. b && true) (ap all (sym e) ∙ so_far.among conn here))))
        (λ e. so_far.others k)
        (sym (ap (λ (p : ℕ → Bool). all k && not (p k)) taken) ∙ none);
  }

-- all are told
pub IsTold-whole : {post : Post} {all rest : ℕ → Bool} {before now : List ConnectionSlotValue}
    → IsTold post all rest before now
    → rest ≡ (λ _. false) → (conn : ℕ) → is_told all rest conn ≡ all conn
IsTold-whole {all = all} told none conn = ap (λ (p : ℕ → Bool). all conn && not (p conn)) none
    ∙ by (all conn)
  where
    by : (b : Bool) → (b && true) ≡ b
    by true = refl
    by false = refl

-- the one that is told next: the first of the rest, whose slot was read
pub record IsNext (rest after : ℕ → Bool) (before now : List ConnectionSlotValue) (conn : ℕ)
    (slot : ConnectionSlotValue) : Type 0 where
  pub popped : IsPopped connection_limit rest after conn
  pub within : conn < length now
  pub is : slot ≡ slot_at now conn
  pub was : slot ≡ slot_at before conn

pub IsNext-read : {post : Post} {all rest after : ℕ → Bool} {before now : List ConnectionSlotValue}
    → IsTold post all rest before now → connection_limit ≤ length before
    → (conn : ℕ) → Some conn ≡ slice_get (numbers_below connection_limit rest) 0
    → after ≡ put ◌==◌ rest conn false
    → (slot : ConnectionSlotValue) → slot ≡ get_or now conn slot
    → IsNext rest after before now conn slot
IsNext-read {rest = rest} {after = after} {now = now} so_far enough conn first taken slot read =
    let popped = below_popped connection_limit rest after conn first taken in
    let within : conn < length now = omega (arith, popped.below, so_far.many) in
    let is = slot_at-read now conn slot within read in
    record {
      popped = popped;
      within = within;
      is = is;
      was = is ∙ IsTold-next so_far conn popped.passes;
    }

-- a filter at the first of a list
module _ (p : ℕ → Bool) (k : ℕ) (xs ys : List ℕ) (first : xs ≡ k ∷ ys) where
  pub filter-first_passes : p k ≡ true → filter p xs ≡ k ∷ filter p ys
  filter-first_passes passes = ap (filter p) first
      ∙ ap (λ b. cond b (k ∷ filter p ys) (filter p ys)) passes

  pub filter-first_fails : p k ≡ false → filter p xs ≡ filter p ys
  filter-first_fails fails = ap (filter p) first
      ∙ ap (λ b. cond b (k ∷ filter p ys) (filter p ys)) fails

-- a filter lengthens nothing
pub length-filter-le : (p : ℕ → Bool) (xs : List ℕ) → length (filter p xs) ≤ length xs
length-filter-le p [] = omega arith
length-filter-le p (x ∷ xs) = by (p x) (length-filter-le p xs)
  where
    by : (t : Bool) → length (filter p xs) ≤ length xs
        → length (cond t (x ∷ filter p xs) (filter p xs)) ≤ suc (length xs)
    by true few = omega arith
    by false few = omega arith
