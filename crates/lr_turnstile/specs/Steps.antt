-- What each kind of step tells the pass that makes it: the word that it found, and its view and
-- its slots afterwards.
use Rattle.std.specs.Prelude.{◌≡◌, ◌≢◌, ℕ, ◌*◌, ◌/◌, ◌%◌, List, ◌∷◌, length, false}
use Rattle.atomic_table.specs.Table.{Me, Step, rest}
use Rattle.lr_model.specs.declared.entry.Entry.{Entry}
use Rattle.lr_turnstile.specs.declared.home.Home.{Home}
use Rattle.lr_turnstile.specs.declared.view.View.{View}
use Rattle.lr_turnstile.specs.Views.{Grew, HasOwn, IsAlone, looked, took, left_with, left_same}
use Rattle.lr_turnstile.specs.Rule.{occupied}

-- A look at this word: the history so far was seen, and the word is twice its length or one more.
pub record HasLooked (before : View) (word : ℕ) (now : View) : Type 0 where
  pub view : now ≡ looked before now.seen word
  pub grew : Grew before now.seen
  pub half : length now.seen ≡ word / 2
  pub own : HasOwn now

-- The exchange of this word for the next took the turn, and a value that stands for the history.
pub record HasTaken {V : Type 0} (stands : V → ℕ → List Entry → Type 0)
    (before : View) (slots : List (ℕ × Home V)) (word : ℕ)
    (now : View) (slots_now : List (ℕ × Home V)) : Type 0 where
  pub value : V
  pub slot : slots_now ≡ (0, occupied value) ∷ slots
  pub view : now ≡ took before now.seen word
  pub grew : Grew before now.seen
  pub even : word ≡ 2 * length now.seen
  pub it_stands : stands value 0 now.seen
  pub own : HasOwn now

module _ {V : Type 0} where
  -- a load: a pass that is alone finds its gate free
  pub record LookTells (step : Step (Home V)) (before : Me (Home V) View) (word : ℕ)
      (now : Me (Home V) View) : Type 0 where
    pub slots : now.1 ≡ before.1
    pub looked : HasLooked before.0 word now.0
    pub alone : IsAlone before.0 → before.0.has_turn ≡ false → word % 2 ≡ 0

  -- an exchange of the word that was expected, or of none: a pass that is alone finds the word
  -- that it can expect
  pub record TakeTells (stands : V → ℕ → List Entry → Type 0) (step : Step (Home V))
      (before : Me (Home V) View) (word : ℕ) (now : Me (Home V) View) : Type 0 where
    pub taken : word ≡ step.first → HasTaken stands before.0 before.1 word now.0 now.1
    pub missed : word ≢ step.first → (now.1 ≡ before.1) × HasLooked before.0 word now.0
    pub alone : IsAlone before.0 → before.0.has_turn ≡ false → word ≡ 2 * length before.0.seen

  -- the turn was given up with an entry: the slot went home
  pub record LeaveWithTells (entry : Entry) (step : Step (Home V)) (before : Me (Home V) View)
      (word : ℕ) (now : Me (Home V) View) : Type 0 where
    pub slots : now.1 ≡ rest before.1
    pub view : now.0 ≡ left_with entry before.0
    pub own : HasOwn now.0

  -- the same with none
  pub record LeaveSameTells (step : Step (Home V)) (before : Me (Home V) View)
      (word : ℕ) (now : Me (Home V) View) : Type 0 where
    pub slots : now.1 ≡ rest before.1
    pub view : now.0 ≡ left_same before.0
