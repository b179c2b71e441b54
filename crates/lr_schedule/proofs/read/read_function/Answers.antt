use Rattle.std.proofs.Common.{ℕ, List, [], get_or, sym, ap, ◌∙◌, true≢false}
use Rattle.lr_objects.specs.Function.{begins}
use Rattle.lr_objects.proofs.FunctionLaws.{function_word-injective}
use Rattle.lr_schedule.proofs.read.read_function.Goals as goal

-- by the law of words, and not by a look at every two functions
pub returns-in_default-clause-none : goal.returns-in_default-clause-none
returns-in_default-clause-none c = λ _ function rest begun is.
    let read = sym c.in_ok-word.ensures.some ∙ is in
    let first : List (List ℕ) → List ℕ = λ words. get_or words 0 [] in
    let word = sym c.in-Some.ensures.some ∙ ap first read in
    let same = function_word-injective c.in-Some.function function word in
    true≢false (sym begun ∙ ap begins (sym same) ∙ sym c.begins.ensures ∙ c.if-begins.false)
