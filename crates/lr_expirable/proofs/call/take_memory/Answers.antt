use Rattle.std.proofs.Common.{ℕ, max, sym, ◌∙◌, subst}
use Rattle.lr_model.specs.Permits.{live_permits}
use Rattle.lr_objects.specs.declared.permits.PermitCall.TheVariants.{Try}
use Rattle.lr_expirable.specs.Run.{IsReadyFor}
use Rattle.lr_expirable.proofs.RunLemmas.{not_lacking}
use Rattle.lr_expirable.proofs.call.take_memory.Goals as goal

pub returns-then-is_taken_at-clause-ready : goal.returns-then-is_taken_at-clause-ready
returns-then-is_taken_at-clause-ready c = λ object at.
    let keys = c.args.keys.now in
    let m : ℕ = max keys.moment c.args.moment in
    let number = c.args.permits.now.number in
    let leases = c.args.permits.now.leases in
    let ready : IsReadyFor (Try c.in-Try.id c.in-Try.lease) keys number leases (live_permits m object) =
    λ none. absurd (not_lacking keys number leases object at c.in-Try.id c.id_brief-member.ensures.id m
    c.id_brief-member.result c.id_brief-member.ensures.text
    (sym c.is_taken_at.ensures ∙ c.if-is_taken_at.true) none) in
    subst (λ call. IsReadyFor call keys number leases (live_permits m object)) (sym c.in-Try.is) ready
