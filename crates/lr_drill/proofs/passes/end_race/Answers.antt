use Rattle.std.proofs.Common.{rules, ◌≡◌, ◌+◌, length, sym, subst}
use Rattle.std.specs.Prelude.{IfSome}
use Rattle.lr_turnstile.specs.Passes.{view}
use Rattle.lr_drill.specs.Passes.{HasMade}
use Rattle.lr_drill.proofs.Racing.{HaveEnded, one_ended, race_of, each_less, the_last}
use Rattle.lr_drill.proofs.passes.end_race.Goals as goal

pub loop-pass-preserved : goal.loop-pass-preserved
loop-pass-preserved c =
    let i = c.loop-pass.invariant in
    let left = c.pop.new.self.items in
    let all = length c.args.passes.items in
    let before = view c.loop-pass.first in
    let last = the_last (λ k p. IfSome p (HasMade c.args.service (k + 1) c.args.calls)) left
    c.loop-pass.passes.items c.in-Some.pass c.in-Some.ensures.items i.each in
    let made = subst (λ p. IfSome p (HasMade c.args.service (length left + 1) c.args.calls))
    c.in_ok-pass.was last in
    let count : length c.loop-pass.passes.items ≡ length left + 1 = search rules in
    let ended = one_ended c.args.calls (length left) all before.joined
    (view c.in_ok-pass.field-0).caller (view c.in_ok-pass.field-0).mine made.caller made.mine
    (subst (λ n. HaveEnded c.args.calls n all before.joined) count i.ended) in
    record {
      first = search rules;
      made = search rules;
      out = search rules;
      each = each_less (λ k p. IfSome p (HasMade c.args.service (k + 1) c.args.calls)) left
          c.loop-pass.passes.items c.in-Some.pass c.in-Some.ensures.items i.each;
      ended = subst (λ (v : _). HaveEnded c.args.calls (length left) all v.joined)
          (sym c.join.ensures.joined) ended;
    }

pub returns-clause-race : goal.returns-clause-race
returns-clause-race c =
    let i = c.loop-pass.invariant in
    let k = c.finish.ensures in
    let none : length c.loop-pass.passes.items ≡ 0 = search rules in
    race_of (length c.args.passes.items) c.args.calls (view c.loop-pass.first) c.finish.result
    k.server k.legal i.made k.made k.own i.first.caller i.first.mine k.joined
    (subst (λ n. HaveEnded c.args.calls n (length c.args.passes.items)
    (view c.loop-pass.first).joined) none i.ended)
