-- A board after some connections were dropped.
use Rattle.std.proofs.Common.{◌≡◌, ◌==◌, ℕ, Bool, true, false, ◌||◌, cond, List, [], ◌∷◌, ◌++◌, IsTrue, refl, ap, sym, ◌∙◌}
use Rattle.std.proofs.lemmas.List.Folds.{list_any-append}
use Rattle.lr_model.specs.Board.{Board, Connection, dropped_connection, is_open, with_connection}
use Rattle.lr_model.proofs.Tables.{one_table}
use Rattle.lr_pubsub.specs.Delivery.{board_after_drops, is_listed}
use Rattle.lr_pubsub.proofs.Slots.{either_number}

-- one connection more was dropped
pub drops-more : (seen : List ℕ) (x : ℕ) (board : Board)
    → with_connection (board_after_drops seen board) x
    (dropped_connection (board_after_drops seen board x))
    ≡ board_after_drops (seen ++ x ∷ []) board
drops-more seen x board = one_table _ _ (λ q.
    either_number x q
    (λ t. cond t (dropped_connection (board_after_drops seen board x))
    (board_after_drops seen board q)
    ≡ cond (is_listed seen q || (t || false)) (dropped_connection (board q)) (board q))
    (λ e. twice (is_listed seen x) (board x) ∙ ap (λ n. dropped_connection (board n)) e
    ∙ or_true (is_listed seen q) (dropped_connection (board q)) (board q))
    (λ e. ap (λ b. cond b (dropped_connection (board q)) (board q))
    (sym (or_false (is_listed seen q))))
    ∙ ap (λ b. cond b (dropped_connection (board q)) (board q))
    (sym (list_any-append (λ other. other == q) seen (x ∷ []))))
  where
    twice : (s : Bool) (c : Connection) → dropped_connection (cond s (dropped_connection c) c)
        ≡ dropped_connection c
    twice true c = refl
    twice false c = refl

    or_true : (s : Bool) (c d : Connection) → c ≡ cond (s || true) c d
    or_true true c d = refl
    or_true false c d = refl

    or_false : (b : Bool) → (b || false) ≡ b
    or_false true = refl
    or_false false = refl

-- the others stay open
pub drops-open : (numbers : List ℕ) (board : Board) (conn : ℕ) → IsTrue (is_open (board conn))
    → IsTrue (is_open (board_after_drops numbers board conn))
drops-open numbers board conn there = by (is_listed numbers conn)
  where
    by : (t : Bool) → IsTrue (is_open (cond t (dropped_connection (board conn)) (board conn)))
    by true = there
    by false = there
