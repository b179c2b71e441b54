use Rattle.std.proofs.Common.{ℕ, List, [], ◌++◌, get_or, drop, refl, sym, ap, subst, ◌∙◌}
use Rattle.lr_objects.specs.declared.want.Mode.{Mode}
use Rattle.lr_objects.specs.Want.{want_words}
use Rattle.lr_waiting.specs.Begin.{CanBegin}
use Rattle.lr_schedule.proofs.ArgumentLaws.{is_mode_fitting, mode_word-injective}
use Rattle.lr_schedule.proofs.SpelledLaws.{begins_with}
use Rattle.lr_schedule.proofs.read.read_begin.Goals as goal

pub returns-in_err-mode-clause-none : goal.returns-in_err-mode-clause-none
returns-in_err-mode-clause-none c = λ _ s rest h.
    let b = begins_with c.args.reader.now s rest h in
    let behind : List (List ℕ) → List (List ℕ) = λ words. drop 2 words in
    let left = ap behind (sym c.in_ok-who.ensures.some ∙ b.text) in
    let is_mode = is_mode_fitting b.mode b.want.function b.begins.wait in
    c.in_err-mode.ensures.none refl b.mode (want_words b.want ++ rest) is_mode left

-- the mode that was read is that of the words
pub returns-in_err-want-clause-none : goal.returns-in_err-want-clause-none
returns-in_err-want-clause-none c = λ _ s rest h.
    let b = begins_with c.args.reader.now s rest h in
    let first : List (List ℕ) → List ℕ = λ words. get_or words 0 [] in
    let behind : ℕ → List (List ℕ) → List (List ℕ) = λ n words. drop n words in
    let left = sym c.in_ok-mode.ensures.some
    ∙ ap (behind 2) (sym c.in_ok-who.ensures.some ∙ b.text) in
    let is_mode = is_mode_fitting b.mode b.want.function b.begins.wait in
    let same = mode_word-injective b.mode c.in_ok-mode.mode is_mode c.in_ok-mode.ensures.mode
    (sym (ap first left)) in
    let begins = subst (λ (m : Mode). CanBegin m b.want) same b.begins in
    c.in_err-want.ensures.none refl b.want rest begins b.spelled (ap (behind 1) left)
