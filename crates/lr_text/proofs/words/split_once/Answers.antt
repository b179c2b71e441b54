use Rattle.std.proofs.Common.{◌≡◌, ℕ, ◌+◌, ◌-◌, List, ◌∷◌, ◌++◌, length, take, drop, sym, ap, ◌∙◌, length-drop}
use Rattle.std.proofs.Math.Seq.{take-length}
use Rattle.lr_text.proofs.WordLaws.{position-first, position-none}
use Rattle.lr_text.proofs.words.split_once.Goals as goal

-- the slice from a place on is what is left behind it
take-drop : (at : ℕ) (text : List ℕ) → take (length text - at) (drop at text) ≡ drop at text
take-drop at text = ap (λ n. take n (drop at text)) (sym (length-drop at text)) ∙ take-length (drop at text)

pub returns-in_err-at-clause-none : goal.returns-in_err-at-clause-none
returns-in_err-at-clause-none c = λ _. position-none c.args.byte c.args.text.now (sym c.in_err-at.ensures)

pub returns-clause-some : goal.returns-clause-some
returns-clause-some c =
    let text = c.args.text.now in
    let rest = ap (λ (l : List ℕ). take c.in_ok-at.at text ++ c.args.byte ∷ l) (sym (take-drop (c.in_ok-at.at + 1) text)) in
    (position-first c.args.byte text c.in_ok-at.at (sym c.in_ok-at.ensures)).0 ∙ rest

pub returns-clause-first : goal.returns-clause-first
returns-clause-first c = (position-first c.args.byte c.args.text.now c.in_ok-at.at (sym c.in_ok-at.ensures)).1
