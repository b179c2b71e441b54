-- The rule of a gate: what is true of its word, the place behind it and all views of passes,
-- between any two steps.
use Rattle.std.specs.Prelude.{◌≡◌, ◌≢◌, ◌⊎◌, ℕ, ◌+◌, ◌*◌, ◌<◌, List, [], ◌∷◌, ◌++◌, length, All, true, false, Some, None, if◌then◌else◌}
use mathlib.Core.Option as maybe
use mathlib.Core.Option.{some, none}
use lib.ListN.{get_elem?}
use Rattle.atomic_table.specs.Table.{State}
use Rattle.lr_model.specs.declared.entry.Entry.{Entry}
use Rattle.lr_turnstile.specs.declared.home.Home.{Home}
use Rattle.lr_turnstile.specs.declared.view.View.{View}
use Rattle.lr_turnstile.specs.Views.{entries_by}

-- The views of passes.

-- a pass has seen a beginning of the history, with all its own entries
pub record Fits (history : List Entry) (view : View) : Type 0 where
  pub later : List Entry
  pub begins : history ≡ view.seen ++ later
  pub own : entries_by view.caller view.seen ≡ view.mine
  pub none_later : entries_by view.caller later ≡ []

-- 1 for a pass that is out
abbrev pub outside : View → ℕ
outside view = if view.is_first then 0 else if view.is_spent then 0 else 1

-- a number of each view, added up
abbrev pub total : (View → ℕ) → List View → ℕ
total number [] = 0
total number (view ∷ views) = number view + total number views

module _ (history : List Entry) (made out : ℕ) (joined : List (ℕ × List Entry)) where
  -- what one seat's view says is so
  pub record Knows (seat : ℕ) (view : View) : Type 0 where
    pub fits : view.is_spent ≡ false → Fits history view
    pub number : view.is_spent ≡ false → view.caller < made
    pub first : view.is_first ≡ true → (seat ≡ 0) × (view.made ≡ made) × (view.out ≡ out)
        × (view.joined ≡ joined) × (view.is_spent ≡ false)
    pub not_joined : view.is_spent ≡ false → All (λ pass. view.caller ≢ pass.0) joined

  -- Each view says what is so; numbers differ; each entry's caller was made; what joined passes
  -- made stays; somebody has seen all; as many passes are out as the first one says.
  pub record Roster (views : List View) : Type 0 where
    pub each : (seat : ℕ) (view : View) → get_elem? views seat ≡ some view → Knows seat view
    pub apart : (one other : ℕ) (u v : View)
        → get_elem? views one ≡ some u → get_elem? views other ≡ some v
        → u.is_spent ≡ false → v.is_spent ≡ false → u.caller ≡ v.caller → one ≡ other
    pub known : All (λ entry. entry.caller < made) history
    pub ended : All (λ pass. (entries_by pass.0 history ≡ pass.1) × (pass.0 < made)) joined
    pub counted : made ≡ out + length joined + 1
    pub front : (seat : ℕ) × (view : View) × (get_elem? views seat ≡ some view)
        × (view.is_spent ≡ false) × (view.seen ≡ history)
    pub outs : total outside views ≡ out

-- The word, the value and the turn.

-- the place behind the gate with a value, and without one
abbrev pub occupied : {V : Type 0} → V → Home V
occupied value = record { value = Some value }

abbrev pub vacant : {V : Type 0} → Home V
vacant = record { value = None }

module _ {V : Type 0} (stands : V → ℕ → List Entry → Type 0) (history : List Entry) where
  -- nobody has the turn: the word is even, and the value is at home and stands for the history
  pub record IsFreeGate (words : List ℕ) (homes : List (maybe.Option (Home V)))
      (views : List View) : Type 0 where
    pub word : words ≡ 2 * length history ∷ []
    pub value : V
    pub home : homes ≡ some (occupied value) ∷ []
    pub it_stands : stands value 0 history
    pub nobody : (seat : ℕ) (view : View) → get_elem? views seat ≡ some view
        → view.has_turn ≡ false

  -- exactly one pass has the turn, and has seen all: the word is odd, and the place is the pass's
  pub record IsTakenGate (words : List ℕ) (homes : List (maybe.Option (Home V)))
      (views : List View) : Type 0 where
    pub word : words ≡ (2 * length history + 1) ∷ []
    pub home : homes ≡ none ∷ []
    pub holder : ℕ
    pub its_view : View
    pub sits : get_elem? views holder ≡ some its_view
    pub has_it : its_view.has_turn ≡ true
    pub alive : its_view.is_spent ≡ false
    pub saw_all : its_view.seen ≡ history
    pub alone : (seat : ℕ) (view : View) → get_elem? views seat ≡ some view
        → view.has_turn ≡ true → seat ≡ holder

-- the rule: there is a history, of which all this is true
pub record IsGate {V : Type 0} (stands : V → ℕ → List Entry → Type 0)
    (state : State (Home V) View) : Type 0 where
  pub history : List Entry
  pub made : ℕ
  pub out : ℕ
  pub joined : List (ℕ × List Entry)
  pub roster : Roster history made out joined state.views
  pub turn : IsFreeGate stands history state.words state.homes state.views
      ⊎ IsTakenGate stands history state.words state.homes state.views
