-- A text that is written front by front.
use Rattle.std.proofs.Common.{◌≡◌, ◌-◌, length, List, ℕ, [], ◌++◌, take, drop, refl, sym, ap, ◌∙◌, append_assoc, append-nil, take-append-drop, subst}
use Rattle.std.proofs.lemmas.List.{take_rest}
use Rattle.std.specs.Prelude.{Option}
use Rattle.std.specs.Io.KnownBytes.{Appends, Keeps}
use Rattle.std.proofs.KnownBytes.{Appends-nil, Appends-trans, Appends-kept}
use Rattle.lr_outside.specs.Turns.{AppendsFront}

-- a front of the text is written, and the rest is not
pub record IsPartlyWritten (old new : Option (List ℕ)) (text rest : List ℕ) : Type 0 where
  pub front : List ℕ
  pub split : text ≡ front ++ rest
  pub appended : Appends old new front

-- nothing is
pub IsPartlyWritten-none : (old : Option (List ℕ)) (text : List ℕ)
    → IsPartlyWritten old old text text
IsPartlyWritten-none old text = record { front = []; split = refl; appended = Appends-nil old }

-- the first n bytes of the rest are written too
pub IsPartlyWritten-more : (old mid new : Option (List ℕ)) (text rest : List ℕ) (n : ℕ)
    → IsPartlyWritten old mid text rest → Appends mid new (take n rest)
    → IsPartlyWritten old new text (take (length rest - n) (drop n rest))
IsPartlyWritten-more old mid new text rest n part more = record {
  front = part.front ++ take n rest;
  split = part.split
      ∙ ap (λ l. part.front ++ l) (sym (take-append-drop n rest) ∙ ap (λ l. take n rest ++ l) (sym (take_rest rest n)))
      ∙ sym (append_assoc part.front (take n rest) _);
  appended = Appends-trans old mid new part.front (take n rest) part.appended more;
}

-- all is
pub IsPartlyWritten-all : (old new : Option (List ℕ)) (text rest : List ℕ)
    → IsPartlyWritten old new text rest → rest ≡ [] → Appends old new text
IsPartlyWritten-all old new text rest part none =
    subst (Appends old new) (sym (part.split ∙ ap (λ l. part.front ++ l) none ∙ append-nil part.front)) part.appended

-- the next write fails
pub IsPartlyWritten-failed : (old mid new : Option (List ℕ)) (text rest : List ℕ)
    → IsPartlyWritten old mid text rest → Keeps mid new → AppendsFront old new text
IsPartlyWritten-failed old mid new text rest part kept =
    (part.front, rest, part.split, Appends-kept old mid new part.front part.appended kept)
