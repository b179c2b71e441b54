use Rattle.std.proofs.Common.{refl}
use Rattle.lr_keys.proofs.NextLemmas.{expiry_at-least, expiry_at-none, expiry_at-some}
use Rattle.lr_keys.proofs.key_space.KeySpace.next_expiry.Goals as goal

pub returns-then-least-clause-none : goal.returns-then-least-clause-none
returns-then-least-clause-none c = (
  λ none key.
      expiry_at-none c.self.inside c.args.self.now c.least-least.result key c.self.view_is
      c.self.invariant c.least-least.ensures.least c.if-least.true,
  λ none. refl,
)

pub returns-clause-some : goal.returns-clause-some
returns-clause-some c =
    let found = c.least-least.ensures.some c.if-least.false in
    expiry_at-some c.self.inside c.args.self.now c.least-least.result found.0 c.self.view_is
    c.self.invariant.expiries c.len-len.ensures.unique found.1 found.2 c.if-least.false

pub returns-clause-least : goal.returns-clause-least
returns-clause-least c = λ key.
    expiry_at-least c.self.inside c.args.self.now c.least-least.result key c.self.view_is
    c.self.invariant.expiries c.least-least.ensures.least

pub returns-clause-none : goal.returns-clause-none
returns-clause-none c = (
  λ none. absurd (cc none),
  λ none.
      let some = returns-clause-some c in
      absurd (cc (none some.0, some.1)),
)
