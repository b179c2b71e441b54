use Rattle.std.proofs.Common.{◌≡◌, ◌+◌, ◌-◌, ◌∙◌, arith, ℕ, subst}
use Rattle.std.proofs.lemmas.List.{length-set}
use Rattle.lr_sorted.specs.Tournament.{winner, IsRightFrom}
use Rattle.lr_sorted.proofs.TournamentLaws.{built, winner-place}
use Rattle.lr_sorted.proofs.tournament.tournament.Goals as goal

pub overflow_cast-won : goal.overflow_cast-won
overflow_cast-won c =
    let last = c.args.last in
    let entries = c.args.scores.now.entries in
    let nodes = c.down.nodes.items in
    let node = c.down.node - 1 in
    let h = c.down.invariant in
    let long = h.len in
    let place = winner-place c.down.node last entries nodes node c.winner-won.result h.right.seated (omega arith) (omega arith)
    (c.winner-won.ensures ∙ (λ i. winner last entries (c.won_at.ensures i) (c.won_at-in-down.ensures i))) in
    omega arith

pub down-preserved : goal.down-preserved
down-preserved c =
    let last = c.args.last in
    let entries = c.args.scores.now.entries in
    let nodes = c.down.nodes.items in
    let node = c.down.node - 1 in
    let h = c.down.invariant in
    let right : IsRightFrom (node + 1) last entries nodes =
    (let same : c.down.node ≡ node + 1 = omega arith in
    subst (λ (n : ℕ). IsRightFrom n last entries nodes) same h.right) in
    record {
      len = length-set nodes node c.winner-won.result ∙ h.len;
      low = omega arith;
      high = omega arith;
      right = built node c.winner-won.result last entries nodes right (omega arith) (omega arith)
          (c.winner-won.ensures ∙ (λ i. winner last entries (c.won_at.ensures i) (c.won_at-in-down.ensures i)));
    }
