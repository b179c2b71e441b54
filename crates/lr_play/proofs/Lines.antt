-- How each turn of the reader of lines, and what was written then, carries a run on or ends it.
use Rattle.std.proofs.Common.{◌≡◌, inl, inr, ℕ, ◌+◌, ◌<◌, List, [], ◌∷◌, ◌++◌, length, Option, Some, None, refl, sym, ap, ◌∙◌, subst}
use Rattle.std.specs.Io.KnownBytes.{Appends}
use Rattle.std.proofs.KnownBytes.{Appends-nil}
use Rattle.lr_outside.specs.Lines.{lines_of, ahead, WhereKnown, IsTurn, IsUndecided}
use Rattle.lr_outside.specs.Turns.{AppendsFront}
use Rattle.lr_limits.specs.Limits.{line_limit}
use Rattle.lr_outside.specs.declared.line_reader.LineTurn.TheVariants.{Line, End, TooLong, Fault}
use Rattle.lr_outside.specs.declared.status.Status.{Status}
use Rattle.lr_outside.specs.declared.status.Status.TheVariants as statuses
use Rattle.lr_machine.specs.declared.event.Event.{Event}
use Rattle.lr_machine.specs.declared.schedule_line.ScheduleLine.{ScheduleLine}
use Rattle.lr_machine.specs.declared.schedule_line.ScheduleLine.TheVariants as kinds
use Rattle.lr_machine.specs.Transcript.{IsLine, bad_line, too_many_line}
use Rattle.lr_machine.specs.World.{World}
use Rattle.lr_play.specs.Progress.{Progress, IsAt, Ends, text_of, world_after_line, Told}
use Rattle.lr_play.proofs.Progress.{Shows, stopped, in_part, ran_through, broke_off, goes_on, was_read}

some_is : {A : Type 0} (x y : A) → Some x ≡ Some y → x ≡ y
some_is x y e = cc

none_is : {A : Type 0} (x : A) → None ≡ Some x → ⊥
none_is x e = cc

-- what is known before is known after
record KnownAfter (R : List ℕ → List ℕ → Type 0) (x : List ℕ) (b : Option (List ℕ)) : Type 0 where
  now : List ℕ
  is : b ≡ Some now
  holds : R x now

known_after : (R : List ℕ → List ℕ → Type 0) (a b : Option (List ℕ)) (x : List ℕ) → a ≡ Some x → WhereKnown R a b → KnownAfter R x b
known_after R (Some w) (Some y) x e h = record { now = y; is = refl; holds = subst (λ z. R z y) (some_is w x e) h }
known_after R (Some w) None x e h = absurd h
known_after R None b x e h = absurd (none_is x e)

appended : (a b : Option (List ℕ)) (x t : List ℕ) → a ≡ Some x → Appends a b t → KnownAfter (λ old new. new ≡ old ++ t) x b
appended (Some w) (Some y) x t e h = record { now = y; is = refl; holds = h ∙ ap (λ (l : List ℕ). l ++ t) (some_is w x e) }
appended (Some w) None x t e h = absurd h
appended None b x t e h = absurd (none_is x e)

-- what the source has left behind what the reader keeps
record Split (kept : List ℕ) (left : Option (List ℕ)) (bytes : List ℕ) : Type 0 where
  rest : List ℕ
  is : left ≡ Some rest
  whole : bytes ≡ kept ++ rest

split : (kept : List ℕ) (left : Option (List ℕ)) (bytes : List ℕ) → ahead kept left ≡ Some bytes → Split kept left bytes
split kept (Some rest) bytes e = record { rest = rest; is = refl; whole = sym (some_is (kept ++ rest) bytes e) }
split kept None bytes e = absurd (none_is bytes e)

module _ (kept kept' all before : List ℕ) (left left' held held' : Option (List ℕ)) (number : ℕ) (world : World) (at : IsAt kept left held all before number world) where
  -- an event was shown
  pub on : (line : List ℕ) (kind : ScheduleLine) → WhereKnown (λ b a. IsTurn b a (Line line)) (ahead kept left) (ahead kept' left') → IsLine number line kind → Told world number kind held held' None
      → IsAt kept' left' held' all before (number + 1) (world_after_line world kind)
  on line kind turn is told =
      let event : Event = told.0.0 in
      let same : kind ≡ kinds.Event event = told.0.1 in
      let bytes = known_after (λ b a. IsTurn b a (Line line)) (ahead kept left) (ahead kept' left') at.bytes at.bytes_are turn in
      let text = appended held held' at.text (text_of world number kind) at.text_is told.1 in
      record {
        bytes = bytes.now;
        bytes_are = bytes.is;
        text = text.now;
        text_is = text.is;
        progress = subst (λ k. Progress all before bytes.now text.now (number + 1) (world_after_line world k)) (sym same)
            (goes_on all before at.bytes at.text number world at.progress bytes.now line event text.now bytes.holds (subst (IsLine number line) same is)
            (text.holds ∙ ap (λ k. at.text ++ text_of world number k) same));
      }

  -- all was read
  pub at_end : WhereKnown (λ b a. IsTurn b a End) (ahead kept left) (ahead kept' left') → held' ≡ held → Ends statuses.Done left' held' all before
  at_end turn same =
      let bytes = known_after (λ b a. IsTurn b a End) (ahead kept left) (ahead kept' left') at.bytes at.bytes_are turn in
      let parts = split kept' left' bytes.now bytes.is in
      record {
        rest = parts.rest;
        rest_is = parts.is;
        text = at.text;
        text_is = same ∙ at.text_is;
        so = ran_through all before at.bytes at.text number world at.progress parts.rest (nil_behind kept' parts.rest (sym parts.whole ∙ bytes.holds.1)) bytes.holds.0;
      }
    where
      nil_behind : (xs ys : List ℕ) → xs ++ ys ≡ [] → ys ≡ []
      nil_behind [] ys e = e
      nil_behind (x ∷ xs) ys e = cc

  -- a read failed
  pub at_fault : WhereKnown (λ b a. IsTurn b a Fault) (ahead kept left) (ahead kept' left') → held' ≡ held → IsUndecided kept' → Ends statuses.ReadFault left' held' all before
  at_fault turn same undecided =
      let bytes = known_after (λ b a. IsTurn b a Fault) (ahead kept left) (ahead kept' left') at.bytes at.bytes_are turn in
      let parts = split kept' left' bytes.now bytes.is in
      record {
        rest = parts.rest;
        rest_is = parts.is;
        text = at.text;
        text_is = same ∙ at.text_is;
        so = broke_off all before at.bytes at.text number world at.progress kept' parts.rest (sym bytes.holds ∙ parts.whole) undecided.whole;
      }

  -- how a line of these bytes ends the run, where the bytes left and the lines later are these
  module _ (line : List ℕ) (later : List (List ℕ)) (rest : List ℕ) (rest_is : left' ≡ Some rest) (first : lines_of at.bytes ≡ line ∷ later) where
    partly : (kind : ScheduleLine) → IsLine number line kind → Shows all before at.bytes at.text number world at.progress line kind rest → (status : Status)
        → ((now : List ℕ) → (front back : List ℕ) → text_of world number kind ≡ front ++ back → now ≡ at.text ++ front → Ends status left' (Some now) all before)
        → AppendsFront held held' (text_of world number kind) → Ends status left' held' all before
    partly kind is taken status f told =
        let text = appended held held' at.text told.0 at.text_is told.3 in
        subst (λ h. Ends status left' h all before) (sym text.is) (f text.now told.0 told.1 told.2 text.holds)

    pub line_ends : (kind : ScheduleLine) → IsLine number line kind → Shows all before at.bytes at.text number world at.progress line kind rest → (status : Status)
        → Told world number kind held held' (Some status) → Ends status left' held' all before
    line_ends kind is taken (statuses.BadLine n) told =
        let text = appended held held' at.text (text_of world number kind) at.text_is told.2 in
        record {
          rest = rest;
          rest_is = rest_is;
          text = text.now;
          text_is = text.is;
          so = stopped all before at.bytes at.text number world at.progress line later kinds.Bad n (bad_line n) text.now first (subst (IsLine number line) told.0 is) told.1
              (text.holds ∙ ap (λ k. at.text ++ text_of world number k) told.0 ∙ ap (λ m. at.text ++ bad_line m) (sym told.1));
        }
    line_ends kind is taken (statuses.TooMany n) told =
        let text = appended held held' at.text (text_of world number kind) at.text_is told.2 in
        record {
          rest = rest;
          rest_is = rest_is;
          text = text.now;
          text_is = text.is;
          so = stopped all before at.bytes at.text number world at.progress line later kinds.TooMany n (too_many_line n) text.now first (subst (IsLine number line) told.0 is) told.1
              (text.holds ∙ ap (λ k. at.text ++ text_of world number k) told.0 ∙ ap (λ m. at.text ++ too_many_line m) (sym told.1));
        }
    line_ends kind is taken statuses.WriteFault told =
        partly kind is taken statuses.WriteFault (λ now front back cut wrote. record {
          rest = rest;
          rest_is = rest_is;
          text = now;
          text_is = refl;
          so = in_part all before at.bytes at.text number world at.progress line later kind rest now front back first is taken cut wrote;
        }) told
    line_ends kind is taken statuses.NoMemory told =
        partly kind is taken statuses.NoMemory (λ now front back cut wrote. record {
          rest = rest;
          rest_is = rest_is;
          text = now;
          text_is = refl;
          so = in_part all before at.bytes at.text number world at.progress line later kind rest now front back first is taken cut wrote;
        }) told
    line_ends kind is taken _ told = absurd told

  -- a line ends the run
  pub at_line : (line : List ℕ) (kind : ScheduleLine) (status : Status) → WhereKnown (λ b a. IsTurn b a (Line line)) (ahead kept left) (ahead kept' left') → IsLine number line kind
      → Told world number kind held held' (Some status) → Ends status left' held' all before
  at_line line kind status turn is told =
      let bytes = known_after (λ b a. IsTurn b a (Line line)) (ahead kept left) (ahead kept' left') at.bytes at.bytes_are turn in
      let parts = split kept' left' bytes.now bytes.is in
      line_ends line (lines_of bytes.now) parts.rest parts.is bytes.holds.lines kind is
      (inl (was_read all before at.bytes at.text number world at.progress bytes.now line kept' parts.rest bytes.holds parts.whole)) status told

  -- a line that is too long ends it
  pub at_long : (status : Status) → WhereKnown (λ b a. IsTurn b a TooLong) (ahead kept left) (ahead kept' left') → ((line : List ℕ) → line_limit < length line → IsLine number line kinds.Bad)
      → Told world number kinds.Bad held held' (Some status) → Ends status left' held' all before
  at_long status turn bad told =
      let bytes = known_after (λ b a. IsTurn b a TooLong) (ahead kept left) (ahead kept' left') at.bytes at.bytes_are turn in
      let parts = split kept' left' bytes.now bytes.is in
      let long = bytes.holds.0 in
      let is : IsLine number long.line kinds.Bad = bad long.line long.long in
      line_ends long.line long.others parts.rest parts.is long.lines kinds.Bad is
      (inr (inl refl)) status told

-- nothing was written yet
pub nothing_told : (held : Option (List ℕ)) (text : List ℕ) → AppendsFront held held text
nothing_told held text = ([], text, refl, Appends-nil held)
