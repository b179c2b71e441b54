use Rattle.std.proofs.Common.{◌≡◌, ◌<◌, ℕ, refl, false, true, Option, Some, None, sym, ap, ◌∙◌, arith}
use Rattle.std.specs.Prelude.{length, is_some}
use Rattle.lr_sorted.specs.Members.{score_of, without_member, is_in_order}
use Rattle.lr_sorted.specs.Sorted.{sorted}
use Rattle.lr_sorted.proofs.MemberLaws.{in_order_to, without_member-absent}
use Rattle.lr_sorted.proofs.SortedLaws.{sorted-scores, sorted-in_order}
use Rattle.lr_sorted.proofs.TournamentLaws.{changed}
use Rattle.lr_sorted.proofs.many.ManyMembers.remove.Goals as goal

not-some : (o : Option ℕ) → false ≡ is_some o → o ≡ None
not-some None e = refl
not-some (Some n) e = absurd (cc)

pub returns-in_default-clause-found : goal.returns-in_default-clause-found
returns-in_default-clause-found c =
    let member = c.args.member.now in
    c.in_default.ensures.found
    ∙ ap is_some (sym (sorted-scores c.self.inside.scores.entries member c.in_default.ensures.distinct)
    ∙ ap (λ t. score_of member t.members) c.self.view_is)

pub returns-in_default-clause-members : goal.returns-in_default-clause-members
returns-in_default-clause-members c =
    let member = c.args.member.now in
    let old = c.self.inside.scores.entries in
    let absent : score_of member (sorted old) ≡ None =
    sorted-scores old member c.in_default.ensures.distinct
    ∙ not-some (score_of member old) c.in_default.ensures.found in
    ap sorted c.in_default.ensures.none
    ∙ sym (without_member-absent member (sorted old) absent)
    ∙ ap (λ t. without_member member t.members) c.self.view_is

pub returns-in_default-clause-order : goal.returns-in_default-clause-order
returns-in_default-clause-order c =
    let old = c.self.inside.scores.entries in
    ap (λ t. is_in_order t.members) (sym c.self.view_is)
    ∙ in_order_to (sorted old) (sorted-in_order old c.in_default.ensures.distinct)

pub mend-requires-clause-right : goal.mend-requires-clause-right
mend-requires-clause-right c =
    let old = c.self.inside.scores.entries in
    let new = c.take_score.new.scores.entries in
    let place = c.in-Some.place in
    let last = c.len-last.result in
    let len = c.in-Some.ensures.len in
    let place_in : place < length c.self.inside.least.items = omega (arith, c.in-Some.ensures.within, c.self.invariant.least_room) in
    let last_in : last < length c.self.inside.least.items = omega (arith, c.len-last.ensures.len, c.self.invariant.least_room) in
    changed false old new c.self.inside.least.items place last c.self.invariant.least place_in last_in
    (λ k apart behind. c.in-Some.ensures.some.others k apart (λ f. behind (f ∙ sym c.len-last.ensures.len)))

pub mend-requires-2-clause-right : goal.mend-requires-2-clause-right
mend-requires-2-clause-right c =
    let old = c.self.inside.scores.entries in
    let new = c.take_score.new.scores.entries in
    let place = c.in-Some.place in
    let last = c.len-last.result in
    let len = c.in-Some.ensures.len in
    let place_in : place < length c.self.inside.greatest.items = omega (arith, c.in-Some.ensures.within, c.self.invariant.greatest_room) in
    let last_in : last < length c.self.inside.greatest.items = omega (arith, c.len-last.ensures.len, c.self.invariant.greatest_room) in
    changed true old new c.self.inside.greatest.items place last c.self.invariant.greatest place_in last_in
    (λ k apart behind. c.in-Some.ensures.some.others k apart (λ f. behind (f ∙ sym c.len-last.ensures.len)))

pub returns-clause-found : goal.returns-clause-found
returns-clause-found c =
    let member = c.args.member.now in
    c.in-Some.ensures.found
    ∙ ap is_some (sym (sorted-scores c.self.inside.scores.entries member c.in-Some.ensures.distinct)
    ∙ ap (λ t. score_of member t.members) c.self.view_is)
