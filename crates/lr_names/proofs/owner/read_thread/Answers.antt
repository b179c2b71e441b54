use Rattle.std.proofs.Common.{arith, sym, ◌∙◌, true≢false}
use Rattle.std.proofs.lemmas.Fmt.{decimal_injective}
use Rattle.lr_names.proofs.owner.read_thread.Goals as goal

pub returns-then-not-is_thread-clause-none : goal.returns-then-not-is_thread-clause-none
returns-then-not-is_thread-clause-none c = λ _ thread range is.
    let same = decimal_injective c.in_ok-thread.thread thread (omega arith) (omega (arith, range.1)) (sym c.in_ok-thread.ensures.some ∙ is) in
    true≢false (sym (c.is_thread.ensures.1 (rw same range)) ∙ c.if-not-is_thread.true)
