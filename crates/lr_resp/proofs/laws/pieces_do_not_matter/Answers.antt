use Rattle.lr_resp.proofs.Turns.{pieces_do_not_matter}
use Rattle.lr_resp.proofs.laws.pieces_do_not_matter.Goals as goal

pub returns : goal.returns
returns c = pieces_do_not_matter
