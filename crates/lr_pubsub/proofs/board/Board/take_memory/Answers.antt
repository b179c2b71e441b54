use Rattle.std.proofs.Common.{ℕ, Bool, refl, ap, ◌∙◌, arith}
use Rattle.lr_pubsub.proofs.SparePlaces.{IsBoard-reserved}
use Rattle.lr_pubsub.proofs.board.Board.take_memory.Goals as goal

pub invariant_of-self : goal.invariant_of-self
invariant_of-self c =
    IsBoard-reserved c.self.invariant c.reserve_touched.ensures.same c.reserve_touched.ensures.spare
    refl c.self.invariant.sent
    (λ no. absurd (cc no))

pub invariant_of-self-in_err-reserve : goal.invariant_of-self-in_err-reserve
invariant_of-self-in_err-reserve c =
    IsBoard-reserved c.self.invariant c.reserve_touched.ensures.same c.reserve_touched.ensures.spare
    c.reserve.ensures.same c.self.invariant.sent
    (λ no. absurd (cc no))

pub invariant_of-self-in_err-reserve-2 : goal.invariant_of-self-in_err-reserve-2
invariant_of-self-in_err-reserve-2 c =
    IsBoard-reserved c.self.invariant c.reserve_touched.ensures.same c.reserve_touched.ensures.spare
    c.reserve.ensures.same
    (c.reserve-2.ensures.items ∙ c.self.invariant.sent)
    (λ no. absurd (cc no))

pub invariant_of-self-2 : goal.invariant_of-self-2
invariant_of-self-2 c =
    IsBoard-reserved c.self.invariant c.reserve_touched.ensures.same c.reserve_touched.ensures.spare
    c.reserve.ensures.same
    (c.reserve-2.ensures.items ∙ c.self.invariant.sent)
    (λ ready. (
      λ k. ap (λ (p : ℕ → Bool). p k) c.in_ok-reserve_touched.ensures.done,
      c.in_ok-reserve.ensures.ok,
      omega (arith, c.in_ok-reserve-2.ensures.ok),
    ))
