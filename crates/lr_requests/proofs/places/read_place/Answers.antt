use Rattle.lr_requests.proofs.PlaceLaws.{no_place_behind_minus}
use Rattle.lr_requests.proofs.places.read_place.Goals as goal

pub returns-in-Some-clause-none : goal.returns-in-Some-clause-none
returns-in-Some-clause-none c = λ none.
    rw c.in-Some.ensures.some
    (no_place_behind_minus c.in-Some.digits.now (c.read_negative.ensures.none none))
