-- A message that was delivered.
use Rattle.std.proofs.Common.{◌≡◌, ◌⊎◌, inl, inr, ℕ, ◌<◌, ◌≤◌, ◌==◌, Bool, true, false, not, ◌&&◌, cond, List, length, filter, All, IsTrue, refl, ap, sym, subst, ◌∙◌, arith}
use Rattle.std.proofs.lemmas.Bool.{cases_lt, eqb-true}
use Rattle.std.proofs.lemmas.List.{get_or_past}
use Rattle.std.proofs.lemmas.List.Elements.{All-filter, All-weaker}
use Rattle.std.proofs.lemmas.Map.Views.{any-filter_same}
use Rattle.lr_names.specs.declared.post.Post.{Post}
use Rattle.lr_names.specs.declared.post.Push.TheVariants.{Message}
use Rattle.lr_limits.specs.Limits.{connection_limit}
use Rattle.lr_model.specs.Board.{Board, Connection, connection_after_post, dropped_by, dropped_connection, has_channel, has_room, is_open, numbers_below, reached_by, with_item}
use Rattle.lr_model.proofs.Tables.{one_table}
use Rattle.lr_pubsub.specs.BoardParts.{BoardParts, IsBoard}
use Rattle.lr_pubsub.specs.ConnectionSlot.{ConnectionSlotValue, closed_slot, connection_at}
use Rattle.lr_pubsub.specs.Delivery.{board_after_drops, board_with_message, is_listed, with_message}
use Rattle.lr_model.proofs.Numbers.{below_all, below_and, below_has, below_lacks}
use Rattle.lr_pubsub.proofs.Slots.{connection-shown, shown}

module _ {parts : BoardParts} (board : IsBoard parts) (post : Post) (takes_part : ℕ → Bool)
    (are : takes_part ≡ (λ conn. has_channel post.channel (connection_at parts.slots conn))) where
  abbrev before : Board
  before = connection_at parts.slots

  abbrev is_slow : ℕ → Bool
  is_slow conn = not (has_room (before conn))

  abbrev numbers : List ℕ
  numbers = numbers_below connection_limit takes_part

  is_listed-has : (q : ℕ) → is_listed numbers q ≡ takes_part q
  is_listed-has q = by (cases_lt q connection_limit)
    where
      by : (q < connection_limit) ⊎ (connection_limit ≤ q) → is_listed numbers q ≡ takes_part q
      by (inl below) = below_has connection_limit takes_part q below
      by (inr past) =
          below_lacks connection_limit takes_part q past
          ∙ sym (ap (λ (p : ℕ → Bool). p q) are
          ∙ ap (λ s. has_channel post.channel s.connection)
          (get_or_past parts.slots q closed_slot (omega (arith, board.numbered))))

  -- the message was put into outboxes, and those with full ones were dropped
  pub posted-board : (now : Board) (dropped : List ℕ)
      → ((q : ℕ) → now q ≡ board_with_message post takes_part before q)
      → dropped ≡ filter is_slow numbers → board_after_drops dropped now
      ≡ (λ q. connection_after_post post (before q))
  posted-board now dropped told slow = one_table _ _ (λ q.
      ap (λ n. cond (is_listed dropped q) (dropped_connection n) n) (told q)
      ∙ ap (λ b. cond b (dropped_connection (board_with_message post takes_part before q))
      (board_with_message post takes_part before q)) (slows q)
      ∙ ap (λ h. cond (is_slow q && h)
      (dropped_connection (cond h (with_message post (before q)) (before q)))
      (cond h (with_message post (before q)) (before q))) (ap (λ (p : ℕ → Bool). p q) are)
      ∙ by (has_channel post.channel (before q)) (has_room (before q)) (before q))
    where
      slows : (q : ℕ) → is_listed dropped q ≡ (is_slow q && takes_part q)
      slows q =
          ap (λ ns. is_listed ns q) slow
          ∙ any-filter_same (λ other. other == q) is_slow (is_slow q)
          (λ k e. ap is_slow (eqb-true k q e)) numbers
          ∙ ap (λ b. is_slow q && b) (is_listed-has q)

      by : (h r : Bool) (c : Connection)
          → cond (not r && h)
          (dropped_connection
          (cond h (cond r (with_item (Message post.channel post.wakes) c) c) c))
          (cond h (cond r (with_item (Message post.channel post.wakes) c) c) c)
          ≡ cond h (cond r (with_item (Message post.channel post.wakes) c) (dropped_connection c)) c
      by true true c = refl
      by true false c = refl
      by false true c = refl
      by false false c = refl

  pub posted-reached : length (filter (λ conn. has_room (before conn)) numbers)
      ≡ reached_by post before
  posted-reached =
      ap (λ p. length (filter (λ conn. has_room (before conn)) (numbers_below connection_limit p)))
      are
      ∙ ap length (sym
      (below_and connection_limit (λ k. has_channel post.channel (before k))
      (λ conn. has_room (before conn))))

  pub posted-dropped : filter is_slow numbers ≡ dropped_by post before
  posted-dropped =
      ap (λ p. filter is_slow (numbers_below connection_limit p)) are
      ∙ sym (below_and connection_limit (λ k. has_channel post.channel (before k)) is_slow)

  -- those that are to be dropped are open
  pub posted-open : (slots : List ConnectionSlotValue)
      → ((q : ℕ) → connection_at slots q ≡ board_with_message post takes_part before q)
      → All (λ q. IsTrue (is_open (shown slots q))) (filter is_slow numbers)
  posted-open slots told =
      All-filter is_slow (λ q. IsTrue (is_open (shown slots q))) numbers
      (All-weaker (λ q. (q < connection_limit) × (takes_part q ≡ true))
      (λ q. IsTrue (is_open (shown slots q)))
      (λ q h. subst (λ x. IsTrue (is_open x)) (sym (connection-shown slots q ∙ told q))
      (still q (opened q (sym (ap (λ (p : ℕ → Bool). p q) are) ∙ h.1))))
      numbers (below_all connection_limit takes_part))
    where
      first : (a b : Bool) → (a && b) ≡ true → a ≡ true
      first true b e = refl
      first false b e = absurd (cc e)

      opened : (q : ℕ) → has_channel post.channel (before q) ≡ true → IsTrue (is_open (before q))
      opened q has =
          first (is_open (before q)) (not (before q).dropped) (board.usable q post.channel has)

      still : (q : ℕ) → IsTrue (is_open (before q))
          → IsTrue (is_open (board_with_message post takes_part before q))
      still q there = by (takes_part q) (has_room (before q))
        where
          by : (s r : Bool)
              → IsTrue (is_open
              (cond s (cond r (with_item (Message post.channel post.wakes) (before q)) (before q))
              (before q)))
          by true true = there
          by true false = there
          by false r = there
