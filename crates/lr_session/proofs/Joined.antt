-- The threads of a client that wait until it hears a channel, told one after the other.
use Rattle.std.proofs.Common.{◌≡◌, ◌==◌, nat_lt, ℕ, suc, ◌+◌, ◌%◌, ◌^◌, ◌<◌, ◌≤◌, List, [], ◌∷◌, ◌++◌, length, map, Bool, true, false, Option, Some, None, if◌then◌else◌, refl, sym, ap, subst, ◌∙◌, arith, ◌⊎◌, inl, inr}
use Rattle.std.proofs.lemmas.Bool.{eq-eqb, ne_eqb, cases_eq, ltb-true, ltb-false}
use Rattle.std.proofs.lemmas.List.{append-nil, length-append, map-append}
use Rattle.std.proofs.Math.Nat.{mod-add-mod}
use Rattle.lr_limits.specs.Limits.{thread_limit}
use Rattle.lr_names.specs.Channel.{ChannelOf}
use Rattle.lr_model.specs.Board.{numbers_below}
use Rattle.lr_model.specs.Table.{put}
use Rattle.lr_model.proofs.Tables.{one_table}
use Rattle.lr_waiting.specs.declared.waiter.Ask.{Ask}
use Rattle.lr_waiting.specs.declared.waiter.Stage.TheVariants.{Ready}
use Rattle.lr_waiting.specs.declared.waiter.Waiter.{Waiter}
use Rattle.lr_waiting.specs.Latch.{count_on, next_count}
use Rattle.lr_waiting.specs.Session.{Session, at_stage, is_joining, joins, joined_waiter, joining_ticket, with_joined}
use Rattle.lr_waiting.specs.Told.{next_ticket}
use Rattle.lr_session.specs.Stages.{ready_if}

-- the numbers below the next one
pub below-next : (n : ℕ) (p : ℕ → Bool)
    → numbers_below (n + 1) p ≡ numbers_below n p ++ (if p n then n ∷ [] else [])
unfolding numbers_below
below-next n p = let e : n + 1 ≡ suc n = omega arith in rw e refl

-- none is below 1 where 0 isn't one
pub below-first : (p : ℕ → Bool) → p 0 ≡ false → numbers_below 1 p ≡ []
unfolding numbers_below
below-first p none = ap (λ b. [] ++ (if b then 0 ∷ [] else [])) none

-- two counts that follow each other are one
count-next : (turn n : ℕ) → next_count (count_on turn n) ≡ count_on turn (n + 1)
count-next turn n =
    mod-add-mod (turn + n) (2 ^ 64) 1 ∙ ap (λ m. m % (2 ^ 64)) (sum turn n)
  where
    sum : (a b : ℕ) → a + b + 1 ≡ a + (b + 1)
    sum a b = omega arith

module _ (channel : ChannelOf) (before : Session) where
  -- those that wait so
  abbrev pub waits : ℕ → Bool
  waits thread = is_joining channel before thread

  abbrev pub ticket : ℕ → Ask
  ticket thread = record { thread = thread; turn = joining_ticket channel before thread }

  -- the threads below n were told, and no other
  pub record AreTold (n : ℕ) (now : Session) (asks : List Ask) : Type 0 where
    pub told : (t : ℕ) → t < n
        → now.waiters t ≡ joined_waiter channel before t (before.waiters t)
    pub others : (t : ℕ) → n ≤ t → now.waiters t ≡ before.waiters t
    pub counted : now.turn ≡ count_on before.turn (length (numbers_below n waits))
    pub rest : now ≡ record before { waiters = now.waiters; turn = now.turn }
    pub given : asks ≡ map ticket (numbers_below n waits)

  joined-none : (t : ℕ) → before.waiters t ≡ None
      → before.waiters t ≡ joined_waiter channel before t (before.waiters t)
  joined-none t none = none ∙ sym (ap (joined_waiter channel before t) none)

  -- before the first is told
  pub told-none : before.waiters 0 ≡ None → before.turn < 2 ^ 64 → AreTold 1 before []
  told-none none fits =
      let nobody : numbers_below 1 waits ≡ [] = below-first waits (ap (joins channel before 0) none) in
      let same : before.turn ≡ count_on before.turn 0 = omega (arith, fits) in
      record {
        told = λ t below. let zero : 0 ≡ t = omega arith in
            joined-none t (subst (λ (k : ℕ). before.waiters k ≡ None) zero none);
        others = λ t above. refl;
        counted = same ∙ ap (λ (l : List ℕ). count_on before.turn (length l)) (sym nobody);
        rest = refl;
        given = ap (map ticket) (sym nobody);
      }

  -- whether a thread is one looks at its request and at the client
  same-joins : (waiters : ℕ → Option Waiter) (turn n : ℕ) (waiter : Option Waiter)
      → joins channel (record before { waiters = waiters; turn = turn }) n waiter
      ≡ joins channel before n waiter
  same-joins waiters turn n None = refl
  same-joins waiters turn n (Some waiter) = refl

  pub same-waits : {n : ℕ} {now : Session} {asks : List Ask} → AreTold n now asks
      → is_joining channel now n ≡ waits n
  same-waits {n} {now} {asks} so =
      ap (λ (s : Session). joins channel s n (now.waiters n)) so.rest
      ∙ same-joins now.waiters now.turn n (now.waiters n)
      ∙ ap (joins channel before n) (so.others n (omega arith))

  -- the request of the thread that is told next
  ready-joined : (n turn : ℕ) (waiter : Option Waiter) (b : Bool) → b ≡ waits n
      → (b ≡ true → turn ≡ joining_ticket channel before n)
      → ready_if b turn waiter ≡ joined_waiter channel before n waiter
  ready-joined n turn None b is next = refl
  ready-joined n turn (Some waiter) true is next =
      ap (λ t. Some (at_stage (Ready t) waiter)) (next refl)
      ∙ ap (λ b. if b then Some (at_stage (Ready (joining_ticket channel before n)) waiter) else Some waiter) is
  ready-joined n turn (Some waiter) false is next =
      ap (λ b. if b then Some (at_stage (Ready (joining_ticket channel before n)) waiter) else Some waiter) is

  -- the numbers below the next one, where the next is one, or isn't
  next-passes : (n : ℕ) → true ≡ waits n → numbers_below (n + 1) waits ≡ numbers_below n waits ++ n ∷ []
  next-passes n is = below-next n waits
      ∙ ap (λ b. numbers_below n waits ++ (if b then n ∷ [] else [])) (sym is)

  next-fails : (n : ℕ) → false ≡ waits n → numbers_below (n + 1) waits ≡ numbers_below n waits
  next-fails n is = below-next n waits
      ∙ ap (λ b. numbers_below n waits ++ (if b then n ∷ [] else [])) (sym is)
      ∙ append-nil (numbers_below n waits)

  -- the ticket of the next one
  next-turn : {n : ℕ} {now : Session} {asks : List Ask} → AreTold n now asks → true ≡ waits n
      → next_count now.turn ≡ joining_ticket channel before n
  next-turn {n} {now} {asks} so is =
      let many : length (numbers_below (n + 1) waits) ≡ length (numbers_below n waits) + 1 =
      ap length (next-passes n is) ∙ length-append (numbers_below n waits) (n ∷ []) in
      ap next_count so.counted ∙ count-next before.turn (length (numbers_below n waits))
      ∙ ap (count_on before.turn) (sym many)

  -- what is told of a thread, where it is one that joins
  abbrev pub if_told : Bool → Ask → List Ask → List Ask
  if_told b ask asks = if b then asks ++ ask ∷ [] else asks

  -- one more is told
  pub told-more : {n : ℕ} {now : Session} {asks : List Ask} (next : Session) (b : Bool)
      → AreTold n now asks → b ≡ is_joining channel now n
      → next ≡ record now {
        waiters = put ◌==◌ now.waiters n (ready_if b (next_count now.turn) (now.waiters n));
        turn = if b then next_count now.turn else now.turn;
      }
      → AreTold (n + 1) next (if_told b (next_ticket n now) asks)
  told-more {n} {now} {asks} next b so joining is = record {
    told = λ t below. ap (λ (s : Session). s.waiters t) is ∙ by_thread t below (cases_eq n t);
    others = λ t above. ap (λ (s : Session). s.waiters t) is
        ∙ ap (λ c. if c then ready_if b (next_count now.turn) (now.waiters n) else now.waiters t)
        (ne_eqb n t (omega arith))
        ∙ so.others t (omega arith);
    counted = ap (λ (s : Session). s.turn) is ∙ by_turn b one;
    rest = is ∙ ap (λ (s : Session). record s { waiters = table; turn = last }) so.rest
        ∙ ap (λ (s : Session). record before { waiters = s.waiters; turn = s.turn }) (sym is);
    given = by_given b one;
  }
    where
      table : ℕ → Option Waiter
      table = put ◌==◌ now.waiters n (ready_if b (next_count now.turn) (now.waiters n))

      last : ℕ
      last = if b then next_count now.turn else now.turn

      one : b ≡ waits n
      one = joining ∙ same-waits so

      by_thread : (t : ℕ) → t < n + 1 → (n ≡ t) ⊎ (n ≡ t → ⊥)
          → put ◌==◌ now.waiters n (ready_if b (next_count now.turn) (now.waiters n)) t
          ≡ joined_waiter channel before t (before.waiters t)
      by_thread t below (inl same) =
          ap (λ c. if c then ready_if b (next_count now.turn) (now.waiters n) else now.waiters t)
          (eq-eqb n t same)
          ∙ ap (ready_if b (next_count now.turn)) (so.others n (omega arith))
          ∙ ready-joined n (next_count now.turn) (before.waiters n) b one
          (λ passes. next-turn so (sym passes ∙ one))
          ∙ ap (λ k. joined_waiter channel before k (before.waiters k)) same
      by_thread t below (inr apart) =
          ap (λ c. if c then ready_if b (next_count now.turn) (now.waiters n) else now.waiters t)
          (ne_eqb n t apart)
          ∙ so.told t (omega (arith, below, apart))

      by_turn : (c : Bool) → c ≡ waits n → (if c then next_count now.turn else now.turn)
          ≡ count_on before.turn (length (numbers_below (n + 1) waits))
      by_turn true is = next-turn so is
      by_turn false is = so.counted
          ∙ ap (λ (l : List ℕ). count_on before.turn (length l)) (sym (next-fails n is))

      by_given : (c : Bool) → c ≡ waits n → if_told c (next_ticket n now) asks
          ≡ map ticket (numbers_below (n + 1) waits)
      by_given true is =
          let same : next_ticket n now ≡ ticket n =
          λ i. record { thread = n; turn = next-turn so is i } in
          ap (λ a. asks ++ a ∷ []) same
          ∙ ap (λ l. l ++ ticket n ∷ []) so.given
          ∙ sym (map-append ticket (numbers_below n waits) (n ∷ []))
          ∙ ap (map ticket) (sym (next-passes n is))
      by_given false is = so.given ∙ ap (map ticket) (sym (next-fails n is))

  -- the tickets with one more, where there is one
  abbrev pub with_ask : Option Ask → List Ask → List Ask
  with_ask None asks = asks
  with_ask (Some ask) asks = asks ++ ask ∷ []

  -- the next thread was told, where it is one that joins
  pub told-next : {n : ℕ} {now : Session} {asks : List Ask} (next : Session) (ask : Option Ask)
      → AreTold n now asks
      → next ≡ record now {
        waiters = put ◌==◌ now.waiters n
            (ready_if (is_joining channel now n) (next_count now.turn) (now.waiters n));
        turn = if is_joining channel now n then next_count now.turn else now.turn;
      }
      → ask ≡ (if is_joining channel now n then Some (next_ticket n now) else None)
      → AreTold (n + 1) next (with_ask ask asks)
  told-next {n} {now} {asks} next ask so is given =
      subst (AreTold (n + 1) next)
      (by (is_joining channel now n) ∙ sym (ap (λ a. with_ask a asks) given))
      (told-more next (is_joining channel now n) so refl is)
    where
      by : (b : Bool) → if_told b (next_ticket n now) asks
          ≡ with_ask (if b then Some (next_ticket n now) else None) asks
      by true = refl
      by false = refl

  -- all were told
  pub told-all : {now : Session} {asks : List Ask}
      → ((t : ℕ) → thread_limit < t → before.waiters t ≡ None)
      → AreTold (thread_limit + 1) now asks → now ≡ with_joined channel before
  told-all {now} {asks} none so =
      so.rest
      ∙ (λ i. record before { waiters = one_table now.waiters _ each i; turn = so.counted i })
    where
      each : (t : ℕ) → now.waiters t ≡ joined_waiter channel before t (before.waiters t)
      each t = by (nat_lt t (thread_limit + 1)) refl
        where
          by : (b : Bool) → nat_lt t (thread_limit + 1) ≡ b
              → now.waiters t ≡ joined_waiter channel before t (before.waiters t)
          by true is = so.told t (ltb-true t (thread_limit + 1) is)
          by false is =
              let above : thread_limit + 1 ≤ t = ltb-false t (thread_limit + 1) is in
              so.others t above ∙ joined-none t (none t (omega (arith, above)))
