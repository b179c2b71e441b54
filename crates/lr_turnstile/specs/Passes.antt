-- What contracts say of a pass and of its gate.
use Rattle.std.specs.Prelude.{◌≡◌, ◌≢◌, ◌⊎◌, ℕ, ◌+◌, ◌*◌, ◌%◌, ◌≤◌, List, [], ◌∷◌, length, true, false}
use Rattle.lr_model.specs.declared.entry.Entry.{Entry}
use Rattle.lr_turnstile.specs.declared.view.View.{View}
use Rattle.lr_turnstile.specs.declared.pass.Pass.{Pass}
use Rattle.lr_turnstile.specs.declared.gate.Gate.{Gate}
use Rattle.lr_turnstile.specs.Views.{Grew, HasOwn, IsSame, looked, took}
use Rattle.lr_turnstile.specs.Rule.{vacant}
use Rattle.lr_turnstile.specs.Steps.{HasLooked}

module _ {V : Type 0} where
  -- what a pass knows
  abbrev pub view : Pass V → View
  view pass = pass.seat.me.0

  -- a pass is one of this gate's
  abbrev pub IsOf : Gate V → Pass V → Type 0
  IsOf gate pass = pass.seat.table_id ≡ gate.table.shared.table_id

  -- it doesn't have the turn
  pub record HasNoTurn (pass : Pass V) : Type 0 where
    pub turn : (view pass).has_turn ≡ false
    pub slots : pass.seat.me.1 ≡ []

  -- it has the turn, and the value was taken out
  pub record HasTurn (pass : Pass V) : Type 0 where
    pub turn : (view pass).has_turn ≡ true
    pub slots : pass.seat.me.1 ≡ (0, vacant) ∷ []

  -- it is the same pass of the same gate
  pub record IsSamePass (before now : Pass V) : Type 0 where
    pub gate : now.seat.table_id ≡ before.seat.table_id
    pub seat : now.seat.id ≡ before.seat.id

  -- it is a gate's first pass, and doesn't have the turn
  pub record IsFirst (gate : Gate V) (pass : Pass V) : Type 0 where
    pub of : IsOf gate pass
    pub free : HasNoTurn pass
    pub first : (view pass).is_first ≡ true

  -- it is another pass of a gate, and doesn't have the turn
  pub record IsOther (gate : Gate V) (pass : Pass V) : Type 0 where
    pub of : IsOf gate pass
    pub free : HasNoTurn pass
    pub other : (view pass).is_first ≡ false

-- Why the gate wasn't entered.

-- another pass has the turn: the one look gave an odd word
pub record SawItTaken (before : View) (word : ℕ) (now : View) : Type 0 where
  pub look : HasLooked before word now
  pub odd : word % 2 ≡ 1

-- another pass was first: a look gave an even word, and the exchange another one
pub record CameSecond (before : View) (word : ℕ) (now : View) : Type 0 where
  pub expected : ℕ
  pub even : expected % 2 ≡ 0
  pub other : word ≢ expected
  pub view : now ≡ looked (looked before now.seen expected) now.seen word
  pub grew : Grew before now.seen
  pub own : HasOwn now

abbrev pub WasBusy : View → ℕ → View → Type 0
WasBusy before word now = SawItTaken before word now ⊎ CameSecond before word now

-- How it was entered.

-- by a look and an exchange, which gave the same word: the pass has seen all, and the value stands
-- for it
pub record HasEntered {V : Type 0} (stands : V → ℕ → List Entry → Type 0)
    (before : View) (value : V) (now : View) : Type 0 where
  pub word : ℕ
  pub even : word ≡ 2 * length now.seen
  pub view : now ≡ took (looked before now.seen word) now.seen word
  pub grew : Grew before now.seen
  pub it_stands : stands value 0 now.seen
  pub own : HasOwn now

-- the same after any number of looks
pub record HasWaited {V : Type 0} (stands : V → ℕ → List Entry → Type 0)
    (before : View) (value : V) (now : View) : Type 0 where
  pub same : IsSame before now
  pub mine : now.mine ≡ before.mine
  pub turn : now.has_turn ≡ true
  pub looks : before.looks + 2 ≤ now.looks
  pub last : now.last_word ≡ 2 * length now.seen
  pub before_last : now.word_before ≡ 2 * length now.seen
  pub grew : Grew before now.seen
  pub it_stands : stands value 0 now.seen
  pub own : HasOwn now
