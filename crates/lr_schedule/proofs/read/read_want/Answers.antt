use Rattle.std.proofs.Common.{ℕ, List, [], ◌++◌, get_or, drop, sym, ap, subst, ◌∙◌}
use Rattle.lr_objects.specs.declared.form.Arguments.{Arguments}
use Rattle.lr_objects.specs.Function.{arguments_of}
use Rattle.lr_objects.specs.Want.{argument_words}
use Rattle.lr_objects.proofs.FunctionLaws.{function_word-injective}
use Rattle.lr_schedule.specs.Spelled.{IsGiven}
use Rattle.lr_schedule.proofs.read.read_want.Goals as goal

-- by the law of words, and not by a look at every two functions
pub returns-clause-none : goal.returns-clause-none
returns-clause-none c = λ failed want rest can spelled is.
    let first : List (List ℕ) → List ℕ = λ words. get_or words 0 [] in
    let behind : List (List ℕ) → List (List ℕ) = λ words. drop 1 words in
    let read = sym c.in_ok-function.ensures.some ∙ is in
    let same = function_word-injective c.in_ok-function.function want.function (ap first read) in
    let args = c.arguments.ensures ∙ ap arguments_of same in
    let left = ap behind (sym c.in_ok-name.ensures.some ∙ ap behind read) in
    let given : IsGiven (arguments_of want.function) want =
    record {
      lease = spelled.lease;
      number = spelled.number;
      id = spelled.id;
      amount = can.amount;
      watched = can.lease;
    } in
    c.read_arguments.ensures.none failed want rest
    (subst (λ (a : Arguments). IsGiven a want) (sym args) given)
    (left ∙ ap (λ (a : Arguments). argument_words a want ++ rest) (sym args))
