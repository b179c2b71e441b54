-- Tables by numbers from 1, whose first place is that of number 1.
use Rattle.std.proofs.Common.{◌≡◌, ◌≢◌, ◌==◌, ◌≤◌, ◌<◌, ◌-◌, ◌+◌, ℕ, zero, suc, nat_lt, Bool, true, false, List, [], ◌∷◌, ◌++◌, length, get_or, set, slice_get, slice_index_or, slice_set, Option, Some, None, replicate, if◌then◌else◌, refl, sym, ap, ◌∙◌, arith, ◌⊎◌, inl, inr}
use Rattle.std.proofs.lemmas.Bool.{cases_eq, eq-eqb, ne_eqb, eqb-true, ltb-true, ltb-false}
use Rattle.std.proofs.lemmas.List.{get_or_default, get_or_past, get_or-replicate, get_or-set_other, get_or_append_left, get_or-append-add, length-append, length-replicate, length-set}
use Rattle.std.proofs.lemmas.Grind.{get_or-set_at}
use Rattle.std.proofs.lemmas.Option.{get_or_from_slice_get, slice_get-get_or, slice_get_past, slice_get_within}
use Rattle.lr_objects.specs.declared.reply.Reply.{Reply}
use Rattle.lr_model.specs.Table.{put}
use Rattle.lr_model.proofs.Tables.{one_table}
use Rattle.lr_waiting.specs.Client.{Client}
use Rattle.lr_machine.specs.World.{clients_after, first_client}
use Rattle.lr_clients.specs.Client.{ClientValue, client_of, client_or, clients_of, replies_of, room_at, room_with}
use Rattle.lr_clients.specs.Rows.{row_or}

-- a table in which what stands at a number is put there again
pub put-kept : {V : Type 0} (table : ℕ → V) (n : ℕ) (v : V) → v ≡ table n
    → put ◌==◌ table n v ≡ table
put-kept {V} table n v is = one_table _ _ (λ k. by k (n == k) refl)
  where
    by : (k : ℕ) (b : Bool) → (n == k) ≡ b → (if b then v else table k) ≡ table k
    by k true same = is ∙ ap table (eqb-true n k same)
    by k false other = refl

-- a list after one place is written
slice-set : {X : Type 0} (xs : List X) (i k : ℕ) (x : X) → i < length xs
    → slice_get (set xs i x) k ≡ (if i == k then Some x else slice_get xs k)
slice-set {X} xs i k x within = by (cases_eq i k)
  where
    long : length (set xs i x) ≡ length xs
    long = length-set xs i x

    apart : i ≢ k → (b : Bool) → nat_lt k (length xs) ≡ b
        → slice_get (set xs i x) k ≡ slice_get xs k
    apart other true below =
        let inside : k < length xs = ltb-true k (length xs) below in
        slice_get-get_or (set xs i x) k x (omega (arith, inside, long))
        ∙ ap Some (get_or-set_other xs i k x x (λ e. other (sym e)))
        ∙ sym (slice_get-get_or xs k x inside)
    apart other false above =
        let past : length xs ≤ k = ltb-false k (length xs) above in
        slice_get_past (set xs i x) k (omega (arith, past, long))
        ∙ sym (slice_get_past xs k past)

    by : (i ≡ k) ⊎ (i ≢ k)
        → slice_get (set xs i x) k ≡ (if i == k then Some x else slice_get xs k)
    by (inl e) =
        slice_get-get_or (set xs i x) k x (omega (arith, within, long, e))
        ∙ ap Some (get_or-set_at xs i k x x (sym e) within)
        ∙ sym (ap (λ b. if b then Some x else slice_get xs k) (eq-eqb i k e))
    by (inr other) =
        apart other (nat_lt k (length xs)) refl
        ∙ sym (ap (λ b. if b then Some x else slice_get xs k) (ne_eqb i k other))

place : (k : ℕ) → suc k - 1 ≡ k
place k = omega arith

next-same : (i k : ℕ) → (suc i == suc k) ≡ (i == k)
next-same i k = by (cases_eq i k)
  where
    by : (i ≡ k) ⊎ (i ≢ k) → (suc i == suc k) ≡ (i == k)
    by (inl same) = eq-eqb (suc i) (suc k) (ap suc same) ∙ sym (eq-eqb i k same)
    by (inr apart) =
        ne_eqb (suc i) (suc k) (λ same. apart (omega (arith, same))) ∙ sym (ne_eqb i k apart)

-- The replies.

-- a place that was read
pub reply-read : (places : List (Option Reply)) (thread : ℕ) (reply : Option Reply) → 1 ≤ thread
    → thread ≤ length places → reply ≡ slice_index_or places (thread - 1) reply
    → reply ≡ replies_of places thread
reply-read places zero reply one within is = absurd (omega (arith, one))
reply-read places (suc k) reply one within is =
    is ∙ ap (λ n. get_or places n reply) (place k)
    ∙ get_or_default places k reply None (omega (arith, within))

-- no reply waits where every place is empty
pub replies-none : (places : List (Option Reply)) (n : ℕ) → places ≡ replicate n None
    → replies_of places ≡ (λ thread. None)
replies-none places n is =
    ap replies_of is ∙ one_table (replies_of (replicate n None)) (λ thread. None) each
  where
    empty : List (Option Reply)
    empty = replicate n None

    long : length empty ≡ n
    long = length-replicate n None

    at : (k : ℕ) (b : Bool) → nat_lt k n ≡ b → get_or empty k None ≡ None
    at k true below = get_or-replicate n k None None (ltb-true k n below)
    at k false above =
        let past : n ≤ k = ltb-false k n above in
        get_or_past empty k None (omega (arith, long, past))

    each : (thread : ℕ) → replies_of (replicate n None) thread ≡ None
    each zero = refl
    each (suc k) = at k (nat_lt k n) refl

-- The clients.

-- a place that was read
pub client-read : (rows : List ClientValue) (client : ℕ) (row : ClientValue) → 1 ≤ client
    → client ≤ length rows → row ≡ slice_index_or rows (client - 1) row
    → client_of row ≡ clients_of rows client
client-read rows zero row one within is = absurd (omega (arith, one))
client-read rows (suc k) row one within is =
    ap (client_or (first_client (suc k)))
    (ap Some (is ∙ ap (λ n. get_or rows n row) (place k))
    ∙ sym (slice_get-get_or rows k row (omega (arith, within))))

pub room-read : (rows : List ClientValue) (client : ℕ) (row : ClientValue) → 1 ≤ client
    → client ≤ length rows → row ≡ slice_index_or rows (client - 1) row
    → row.session.room ≡ room_at rows client
room-read rows zero row one within is = absurd (omega (arith, one))
room-read rows (suc k) row one within is =
    ap room_with
    (ap Some (is ∙ ap (λ n. get_or rows n row) (place k))
    ∙ sym (slice_get-get_or rows k row (omega (arith, within))))

-- the clients after one place is written
pub clients-set : (rows : List ClientValue) (client : ℕ) (row : ClientValue) → 1 ≤ client
    → client ≤ length rows
    → clients_of (slice_set rows (client - 1) row)
    ≡ put ◌==◌ (clients_of rows) client (client_of row)
clients-set rows zero row one within = absurd (omega (arith, one))
clients-set rows (suc i) row one within =
    ap (λ n. clients_of (set rows n row)) (place i) ∙ one_table _ _ each
  where
    each : (c : ℕ) → clients_of (set rows i row) c
        ≡ (if suc i == c then client_of row else clients_of rows c)
    each zero =
        sym (ap (λ b. if b then client_of row else clients_of rows 0)
        (ne_eqb (suc i) 0 (omega arith)))
    each (suc k) =
        ap (client_or (first_client (suc k))) (slice-set rows i k row (omega (arith, within)))
        ∙ by (i == k)
        ∙ sym (ap (λ b. if b then client_of row else clients_of rows (suc k)) (next-same i k))
      where
        by : (b : Bool)
            → client_or (first_client (suc k)) (if b then Some row else slice_get rows k)
            ≡ (if b then client_of row else client_or (first_client (suc k)) (slice_get rows k))
        by true = refl
        by false = refl

-- a client that wasn't changed is put where it was
pub clients-kept : (rows : List ClientValue) (client : ℕ) (old new : ClientValue) → 1 ≤ client
    → client ≤ length rows → old ≡ slice_index_or rows (client - 1) old
    → client_of new ≡ client_of old
    → clients_of (slice_set rows (client - 1) new) ≡ clients_of rows
clients-kept rows client old new one within read same =
    clients-set rows client new one within
    ∙ put-kept (clients_of rows) client (client_of new)
    (same ∙ client-read rows client old one within read)

-- the clients after a row of one of them
pub clients-stepped : (rows : List ClientValue) (client : ℕ) (old new : ClientValue)
    (row : Option Client) → 1 ≤ client → client ≤ length rows
    → old ≡ slice_index_or rows (client - 1) old → client_of new ≡ row_or (client_of old) row
    → clients_of (slice_set rows (client - 1) new) ≡ clients_after (clients_of rows) client row
clients-stepped rows client old new None one within read is =
    clients-kept rows client old new one within read is
clients-stepped rows client old new (Some next) one within read is =
    clients-set rows client new one within ∙ ap (put ◌==◌ (clients_of rows) client) is

-- so many clients were made, and each is as it was at first
pub record AreFirst (n : ℕ) (rows : List ClientValue) : Type 0 where
  pub many : length rows ≡ n
  pub at : (k : ℕ) → k < n → (row : ClientValue) → client_of (get_or rows k row)
      ≡ first_client (suc k)

pub first-none : AreFirst 0 []
first-none = record { many = refl; at = λ k below row. absurd (omega (arith, below)) }

-- one more is made
pub first-more : (n : ℕ) (rows : List ClientValue) (row : ClientValue) → AreFirst n rows
    → client_of row ≡ first_client (n + 1) → AreFirst (n + 1) (rows ++ row ∷ [])
first-more n rows row before is = record {
  many = length-append rows (row ∷ []) ∙ ap (λ m. m + 1) before.many;
  at = λ k below other. by k other (cases_eq k n) below;
}
  where
    next : n + 1 ≡ suc n
    next = omega arith

    by : (k : ℕ) (other : ClientValue) → (k ≡ n) ⊎ (k ≢ n) → k < n + 1
        → client_of (get_or (rows ++ row ∷ []) k other) ≡ first_client (suc k)
    by k other (inl here) below =
        let last : k ≡ length rows = here ∙ sym before.many in
        let end : length rows ≡ length rows + 0 = omega arith in
        ap (λ i. client_of (get_or (rows ++ row ∷ []) i other)) (last ∙ end)
        ∙ ap client_of (get_or-append-add rows (row ∷ []) 0 other)
        ∙ is ∙ ap first_client (next ∙ ap suc (sym here))
    by k other (inr apart) below =
        let few = before.many in
        ap client_of
        (get_or_append_left rows (row ∷ []) other k (omega (arith, below, apart, few)))
        ∙ before.at k (omega (arith, below, apart)) other

-- clients of which each is as it was at first
pub all-first : (n : ℕ) (rows : List ClientValue) → AreFirst n rows
    → clients_of rows ≡ first_client
all-first n rows first = one_table _ _ each
  where
    each : (c : ℕ) → clients_of rows c ≡ first_client c
    each zero = refl
    each (suc k) = by (slice_get rows k) refl
      where
        by : (found : Option ClientValue) → slice_get rows k ≡ found
            → client_or (first_client (suc k)) (slice_get rows k) ≡ first_client (suc k)
        by None is = ap (client_or (first_client (suc k))) is
        by (Some row) is =
            let many = first.many in
            let below = slice_get_within rows k row is in
            ap (client_or (first_client (suc k))) is
            ∙ ap client_of (sym (get_or_from_slice_get rows k row row is))
            ∙ first.at k (omega (arith, below, many)) row
