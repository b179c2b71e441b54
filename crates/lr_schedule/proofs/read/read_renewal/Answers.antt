use Rattle.std.proofs.Common.{ℕ, List, drop, refl, sym, ap, ◌∙◌}
use Rattle.lr_schedule.proofs.SpelledLaws.{renews_with}
use Rattle.lr_schedule.proofs.read.read_renewal.Goals as goal

pub returns-in_err-who-clause-none : goal.returns-in_err-who-clause-none
returns-in_err-who-clause-none c = λ _ s rest h.
    let r = renews_with c.args.verb c.args.reader.now s rest h in
    c.in_err-who.ensures.none refl r.who.client r.who.thread _ r.numbers r.text

pub returns-in_err-kind-clause-none : goal.returns-in_err-kind-clause-none
returns-in_err-kind-clause-none c = λ _ s rest h.
    let r = renews_with c.args.verb c.args.reader.now s rest h in
    let behind : List (List ℕ) → List (List ℕ) = λ words. drop 2 words in
    let left = ap behind (sym c.in_ok-who.ensures.some ∙ r.text) in
    c.in_err-kind.ensures.none refl r.kind _ left

pub returns-in_err-name-clause-none : goal.returns-in_err-name-clause-none
returns-in_err-name-clause-none c = λ _ s rest h.
    let r = renews_with c.args.verb c.args.reader.now s rest h in
    let behind : ℕ → List (List ℕ) → List (List ℕ) = λ n words. drop n words in
    let left = sym c.in_ok-kind.ensures.some
    ∙ ap (behind 2) (sym c.in_ok-who.ensures.some ∙ r.text) in
    c.in_err-name.ensures.none refl r.name rest r.named (ap (behind 1) left)
