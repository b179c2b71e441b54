-- From what the kept bytes tell to a turn of the reader.
use Rattle.std.proofs.Common.{◌≡◌, Bool, true, false, ℕ, List, [], ◌∷◌, ◌++◌, length, sym, ap, ◌∙◌, subst, inl, inr, arith, append-nil, append_assoc, length-append}
use Rattle.std.specs.Prelude.{Option, Some, None}
use Rattle.std.specs.Bool.{OnFalse}
use Rattle.std.specs.Io.KnownBytes.{Keeps, IsAtEnd}
use Rattle.std.proofs.Math.Seq.{take-append-le}
use Rattle.lr_outside.specs.declared.line_reader.LineTurn.{LineTurn}
use Rattle.lr_outside.specs.declared.line_reader.LineTurn.TheVariants.{Line, End, TooLong, Fault}
use Rattle.lr_outside.specs.Reading.{Reading}
use Rattle.lr_outside.specs.Lines.{lines_of, HasNoLineEnd, IsFirstLine, BeginsTooLong, IsTurn, ahead, WhereKnown, IsUndecided}
use Rattle.lr_outside.specs.KeptTurns.{IsKeptLine, IsKeptTooLong, IsKeptTurn, IsLastTurn}
use Rattle.lr_outside.specs.Window.{Grows}
use Rattle.lr_outside.proofs.Lines.{lines_of-line, lines_of-last, begins_too_long}

pub OnFalse-from : {P : Type 0} (b : Bool) → P → OnFalse b P
OnFalse-from true p = tt
OnFalse-from false p = p

-- a turn, where the bytes ahead were the same before
pub WhereKnown-after : (R : List ℕ → List ℕ → Type 0) (a b c : Option (List ℕ)) → Keeps a b
    → WhereKnown R b c → WhereKnown R a c
WhereKnown-after R None b c same turn = tt
WhereKnown-after R (Some x) None c same turn = absurd same
WhereKnown-after R (Some x) (Some y) None same turn = absurd turn
WhereKnown-after R (Some x) (Some y) (Some z) same turn = subst (λ l. R l z) same turn

kept_line : (old new : Reading) (line left : List ℕ) → IsKeptLine old new line
    → IsFirstLine (old.kept ++ left) (new.kept ++ left) line
kept_line old new line left h =
    let bytes : old.kept ++ left ≡ line ++ 10 ∷ (new.kept ++ left) = ap (λ l. l ++ left) h.bytes ∙ append_assoc line (10 ∷ new.kept) left in
    record {
      lines = ap lines_of bytes ∙ lines_of-line line (new.kept ++ left) h.whole;
      bytes = inl bytes;
      whole = h.whole;
      fits = h.fits;
    }

kept_too_long : (old new : Reading) (left : List ℕ) → IsKeptTooLong old new
    → BeginsTooLong (old.kept ++ left)
kept_too_long old new left h =
    let within = h.within in
    let P : List ℕ → Type 0 = λ l. HasNoLineEnd l in
    begins_too_long (old.kept ++ left) h.count h.long (omega (arith, length-append old.kept left)) (subst P (sym (take-append-le h.count old.kept left within)) h.whole)

-- the answer that the kept bytes tell
pub kept_turn : (old new : Reading) (left : Option (List ℕ)) (turn : LineTurn)
    → IsKeptTurn old new (Some turn)
    → WhereKnown (λ before after. IsTurn before after turn) (ahead old.kept left) (ahead new.kept left)
kept_turn old new None turn h = tt
kept_turn old new (Some left) (Line line) h = kept_line old new line left h
kept_turn old new (Some left) TooLong h = (kept_too_long old new left h, ap (λ l. l ++ left) h.kept)
kept_turn old new (Some left) End h = absurd h
kept_turn old new (Some left) Fault h = absurd h

-- the answer at the end of the source
pub last_turn : (old new : Reading) (left after : Option (List ℕ)) (turn : LineTurn)
    → IsUndecided old.kept → Keeps left after → IsAtEnd left → IsLastTurn old new turn
    → WhereKnown (λ before after. IsTurn before after turn) (ahead old.kept left) (ahead new.kept after)
last_turn old new None after turn undecided kept end h = tt
last_turn old new (Some left) None turn undecided kept end h = absurd kept
last_turn old new (Some left) (Some after) (Line line) undecided kept end h =
    let before_is : old.kept ++ left ≡ line = ap (λ l. old.kept ++ l) end ∙ append-nil old.kept ∙ sym h.0 in
    let after_is : new.kept ++ after ≡ [] = ap (λ l. l ++ after) h.2 ∙ kept ∙ end in
    let P : List ℕ → Type 0 = λ l. HasNoLineEnd l in
    let whole : HasNoLineEnd line = subst P (sym h.0) undecided.whole in
    let fits = undecided.fits in
    record {
      lines = ap lines_of before_is
          ∙ lines_of-last line whole h.1
          ∙ ap (λ (l : List ℕ). line ∷ lines_of l) (sym after_is);
      bytes = inr (before_is, after_is, h.1);
      whole = whole;
      fits = omega (arith, ap length h.0);
    }
last_turn old new (Some left) (Some after) End undecided kept end h =
    let before_is : old.kept ++ left ≡ [] = ap (λ l. l ++ left) h.0 ∙ end in
    (before_is, ap (λ (r : Reading). r.kept ++ after) h.1 ∙ ap (λ l. old.kept ++ l) kept ∙ before_is)
last_turn old new (Some left) (Some after) TooLong undecided kept end h = absurd h
last_turn old new (Some left) (Some after) Fault undecided kept end h = absurd h

-- a read that gave nothing leaves what is ahead
pub ahead-kept : (kept : List ℕ) (left after : Option (List ℕ)) → Keeps left after
    → Keeps (ahead kept left) (ahead kept after)
ahead-kept kept None after same = tt
ahead-kept kept (Some left) None same = absurd same
ahead-kept kept (Some left) (Some after) same = ap (λ l. kept ++ l) same

-- nor does one that gave some, which are now kept
pub ahead-grown : (old new : List ℕ) (left after : Option (List ℕ)) → Grows old new left after
    → Keeps (ahead old left) (ahead new after)
ahead-grown old new None after more = tt
ahead-grown old new (Some left) None more = absurd more.taken
ahead-grown old new (Some left) (Some after) more =
    ap (λ l. l ++ after) more.kept
    ∙ append_assoc old more.bytes after
    ∙ ap (λ l. old ++ l) (sym more.taken)
