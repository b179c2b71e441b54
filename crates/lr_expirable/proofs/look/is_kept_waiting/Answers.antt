use Rattle.std.proofs.Common.{◌≤◌, ℕ, max, length, unwrap_or, sym, ap, ◌∙◌, arith}
use Rattle.lr_keys.specs.KeySpace.{entry_at}
use Rattle.lr_expirable.specs.Run.{is_taken}
use Rattle.lr_expirable.proofs.ChangeLemmas.{score_at-lease}
use Rattle.lr_expirable.proofs.RunLemmas.{not_lacking}
use Rattle.lr_expirable.proofs.WaitLemmas.{full_waits, not_taken, own_goes_on}
use Rattle.lr_expirable.proofs.look.is_kept_waiting.Goals as goal

pub returns-then-is_taken_at : goal.returns-then-is_taken_at
returns-then-is_taken_at c = λ object lease at.
    let keys = c.args.keys.now in
    let m : ℕ = max keys.moment c.args.moment in
    let id = c.args.id.now in
    let brief = c.id_brief.ensures in
    let is = sym (c.number_at.ensures.number object.number at.number_at.stands) ∙ c.in-Some.is in
    own_goes_on m id lease object c.in-Some.number is
    (not_lacking keys c.args.permits.now.number c.args.permits.now.leases object at id brief.id m
    c.id_brief.result brief.text (sym c.is_taken_at.ensures ∙ c.if-is_taken_at.true))

pub returns : goal.returns
returns c = λ object lease at.
    let keys = c.args.keys.now in
    let m : ℕ = max keys.moment c.args.moment in
    let id = c.args.id.now in
    let brief = c.id_brief.ensures in
    let leases = object.leases in
    let are = at.leases_at.are in
    let number = c.in-Some.number in
    let is = sym (c.number_at.ensures.number object.number at.number_at.stands) ∙ c.in-Some.is in
    let all = ap (λ now. unwrap_or now 0) is in
    let enough : length leases ≤ number = omega (arith, at.enough, all) in
    let free =
    ap (is_taken m) (sym (score_at-lease (entry_at keys c.args.permits.now.leases) leases at.leases_at
    id brief.id c.id_brief.result brief.text))
    ∙ sym c.is_taken_at.ensures ∙ c.if-is_taken_at.false in
    c.is_full.ensures leases at.leases_at (at.some number is) enough
    ∙ full_waits m id lease object number is
    (not_taken id brief.id m leases are.ids are.distinct free)
