use Rattle.std.proofs.Common.{◌≡◌, ℕ, max, refl, sym, ap, ◌∙◌, arith}
use Rattle.lr_limits.specs.Limits.{watchdog_lease}
use Rattle.lr_objects.specs.declared.kinds.Function.TheVariants.{Permits}
use Rattle.lr_objects.specs.declared.permits.PermitFunction.{PermitFunction}
use Rattle.lr_objects.specs.declared.permits.PermitFunction.TheVariants as functions
use Rattle.lr_server.specs.Looks.{would_wait}
use Rattle.lr_server.proofs.calls.permits.would_wait.Goals as goal

pub returns-in-Try : goal.returns-in-Try
returns-in-Try c = λ objects owner stand.
    let want = c.args.want.now in
    let m : ℕ = max c.args.keys.now.moment c.args.moment in
    let same : m ≡ c.args.moment = omega (arith, c.requires) in
    c.would_wait.ensures objects watchdog_lease stand refl
    ∙ ap (λ n. would_wait (Permits functions.Try) objects n want owner) same
    ∙ ap (λ (f : PermitFunction). would_wait (Permits f) objects c.args.moment want owner)
    (sym c.in-Try.is)
