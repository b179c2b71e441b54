-- What a pass knows, and how that changes: this project's own.
use Rattle.std.specs.Prelude.{◌≡◌, ℕ, ◌+◌, ◌-◌, ◌==◌, nat_lt, List, [], ◌∷◌, ◌++◌, length, filter, true, false, if◌then◌else◌}
use Rattle.lr_model.specs.declared.entry.Entry.{Entry}
use Rattle.lr_turnstile.specs.declared.view.View.{View}

-- the entries of one caller, in order
abbrev pub entries_by : ℕ → List Entry → List Entry
entries_by caller entries = filter (λ entry. entry.caller == caller) entries

-- the view of the first pass, when its gate is new
abbrev pub first_view : View
first_view = record {
  caller = 0;
  seen = [];
  mine = [];
  looks = 0;
  last_word = 0;
  word_before = 0;
  has_turn = false;
  is_first = true;
  is_spent = false;
  made = 1;
  out = 0;
  joined = [];
}

-- What a pass has seen.

-- what it has seen now begins with what it had seen, and goes on with none of its own
pub record Grew (before : View) (seen : List Entry) : Type 0 where
  pub later : List Entry
  pub begins : seen ≡ before.seen ++ later
  pub none_own : entries_by before.caller later ≡ []

-- it has seen all its own entries, and knows which they are
abbrev pub HasOwn : View → Type 0
HasOwn view = entries_by view.caller view.seen ≡ view.mine

-- it is the first pass, and no other is out
pub record IsAlone (view : View) : Type 0 where
  pub first : view.is_first ≡ true
  pub none_out : view.out ≡ 0

-- a pass with the same number, which knows the same of the other passes
pub record IsSame (before now : View) : Type 0 where
  pub caller : now.caller ≡ before.caller
  pub first : now.is_first ≡ before.is_first
  pub spent : now.is_spent ≡ before.is_spent
  pub made : now.made ≡ before.made
  pub out : now.out ≡ before.out
  pub joined : now.joined ≡ before.joined

-- The view after a step.

-- after a look that gave this word, when this was the history
abbrev pub looked : View → List Entry → ℕ → View
looked view history word = record view {
  seen = history;
  looks = view.looks + 1;
  word_before = view.last_word;
  last_word = word;
}

-- the same, where the look was an exchange that took the turn
abbrev pub took : View → List Entry → ℕ → View
took view history word = record view {
  seen = history;
  looks = view.looks + 1;
  word_before = view.last_word;
  last_word = word;
  has_turn = true;
}

-- after the turn was given up with an entry
abbrev pub left_with : Entry → View → View
left_with entry view = record view {
  seen = view.seen ++ entry ∷ [];
  mine = view.mine ++ entry ∷ [];
  has_turn = false;
}

-- after it was given up with none
abbrev pub left_same : View → View
left_same view = record view { has_turn = false }

-- the view of the first pass, once another was split off
abbrev pub after_split : View → View
after_split view = record view { made = view.made + 1; out = view.out + 1 }

-- the view of the other, which has the next number and has seen as much
abbrev pub split_off : View → View
split_off view = record {
  caller = view.made;
  seen = view.seen;
  mine = [];
  looks = 0;
  last_word = 0;
  word_before = 0;
  has_turn = false;
  is_first = false;
  is_spent = false;
  made = 0;
  out = 0;
  joined = [];
}

-- the longer of two beginnings of one history
abbrev pub longer : List Entry → List Entry → List Entry
longer one other = if nat_lt (length one) (length other) then other else one

-- the view of the first pass, once another was joined
abbrev pub after_join : View → View → View
after_join view other = record view {
  seen = longer view.seen other.seen;
  out = view.out - 1;
  joined = view.joined ++ (other.caller, other.mine) ∷ [];
}

-- the view that is left of the other
abbrev pub spent_view : View
spent_view = record {
  caller = 0;
  seen = [];
  mine = [];
  looks = 0;
  last_word = 0;
  word_before = 0;
  has_turn = false;
  is_first = false;
  is_spent = true;
  made = 0;
  out = 0;
  joined = [];
}
