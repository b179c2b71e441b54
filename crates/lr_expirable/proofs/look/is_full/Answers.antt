use Rattle.std.proofs.Common.{◌≡◌, ℕ, max, nat_le, nat_lt, true, false, ◌&&◌, length, sym, ap, ◌∙◌, arith}
use Rattle.std.proofs.lemmas.Bool.Decides.{nat_tests}
use Rattle.lr_model.specs.Permits.{least_deadline}
use Rattle.lr_expirable.proofs.WaitLemmas.{full}
use Rattle.lr_expirable.proofs.look.is_full.Goals as goal

pub returns-then-len-number : goal.returns-then-len-number
returns-then-len-number c = λ leases at some enough.
    let number = c.args.number in
    let m : ℕ = max c.args.keys.now.moment c.args.moment in
    let all = c.len.ensures leases at in
    let least = c.least_deadline-first.ensures leases at in
    let late : c.max.result ≡ m =
    c.max.ensures ∙ ap (λ n. max n c.args.moment) c.moment.ensures.moment in
    let there : nat_le number (length leases) ≡ true =
    grind (arith, all, c.if-len-number.true, nat_tests) in
    (λ i. nat_lt (late i) (least i))
    ∙ ap (λ b. b && nat_lt m (least_deadline leases)) (sym there)
    ∙ full m leases number some enough

pub returns-else-len-number : goal.returns-else-len-number
returns-else-len-number c = λ leases at some enough.
    let number = c.args.number in
    let m : ℕ = max c.args.keys.now.moment c.args.moment in
    let all = c.len.ensures leases at in
    let few : nat_le number (length leases) ≡ false =
    grind (arith, all, c.if-len-number.false, nat_tests) in
    ap (nat_le number) all ∙ few
    ∙ ap (λ b. b && nat_lt m (least_deadline leases)) (sym few)
    ∙ full m leases number some enough
