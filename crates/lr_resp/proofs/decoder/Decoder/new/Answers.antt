use Rattle.std.proofs.Common.{subst, sym, refl}
use Rattle.lr_resp.specs.Scan.{State}
use Rattle.lr_resp.specs.Stream.{IsReached}
use Rattle.lr_resp.proofs.Reached.{reached_start, spelled_start}
use Rattle.lr_resp.proofs.decoder.Decoder.new.Goals as goal

pub invariant_of-result : goal.invariant_of-result
invariant_of-result c =
    subst (λ (s : State). IsReached 0 s) (sym c.new.ensures) reached_start

pub returns : goal.returns
returns c = rw (c.new.ensures, c.new-2.ensures.items, spelled_start) refl
