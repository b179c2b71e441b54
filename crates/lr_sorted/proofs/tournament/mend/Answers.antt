use Rattle.std.proofs.Common.{◌≡◌, ◌/◌, ◌<◌, ◌≤◌, length, ◌∙◌, arith, ℕ, subst}
use Rattle.std.proofs.lemmas.List.{length-set}
use Rattle.lr_sorted.specs.Tournament.{winner, IsRightBut}
use Rattle.lr_sorted.proofs.TournamentLaws.{mended, all_mended, step-is, steps-to, step-low, step-le, steps-fall}
use Rattle.lr_sorted.proofs.tournament.mend.Goals as goal

pub up-smaller : goal.up-smaller
up-smaller c =
    let high : 2 ≤ c.max-highest.result = omega (arith, c.max-highest.ensures, c.max.ensures, c.up-test.true) in
    steps-fall c.up.one c.up.other c.max-highest.result c.step_up-one.result c.step_up-other.result
    c.max-highest.ensures high c.step_up-one.ensures c.step_up-other.ensures

pub up-preserved : goal.up-preserved
up-preserved c =
    let last = c.args.last in
    let entries = c.args.scores.now.entries in
    let nodes = c.up.nodes.items in
    let highest = c.max-highest.result in
    let node = highest / 2 in
    let h = c.up.invariant in
    let high : 2 ≤ highest = omega (arith, c.max-highest.ensures, c.max.ensures, c.up-test.true) in
    let le_one = step-le c.up.one highest c.step_up-one.result c.step_up-one.ensures in
    let le_other = step-le c.up.other highest c.step_up-other.result c.step_up-other.ensures in
    let within : node < length nodes = omega (arith, c.max-highest.ensures, h.len, h.one_high, h.other_high) in
    record {
      len = length-set nodes node c.winner-won.result ∙ h.len;
      one_low = step-low c.up.one highest c.step_up-one.result high h.one_low c.step_up-one.ensures;
      one_high = omega arith;
      other_low = step-low c.up.other highest c.step_up-other.result high h.other_low c.step_up-other.ensures;
      other_high = omega arith;
      right = mended c.up.one c.up.other node c.step_up-one.result c.step_up-other.result c.winner-won.result last entries nodes
          h.right (omega arith) within
          (c.winner-won.ensures ∙ (λ i. winner last entries (c.won_at.ensures i) (c.won_at-in-up.ensures i)))
          (step-is c.up.one highest c.step_up-one.result c.step_up-one.ensures)
          (step-is c.up.other highest c.step_up-other.result c.step_up-other.ensures)
          (steps-to c.up.one c.up.other highest c.step_up-one.result c.step_up-other.result c.max-highest.ensures c.step_up-one.ensures c.step_up-other.ensures);
    }

pub returns-clause-tournament : goal.returns-clause-tournament
returns-clause-tournament c =
    let h = c.up.invariant in
    let one : c.up.one ≡ 1 = omega (arith, c.max.ensures, c.up-test.false) in
    let other : c.up.other ≡ 1 = omega (arith, c.max.ensures, c.up-test.false) in
    let last = c.args.last in
    let entries = c.args.scores.now.entries in
    let nodes = c.up.nodes.items in
    all_mended last entries nodes
    (subst (λ (n : ℕ). IsRightBut n 1 last entries nodes) one
    (subst (λ (n : ℕ). IsRightBut c.up.one n last entries nodes) other h.right))
