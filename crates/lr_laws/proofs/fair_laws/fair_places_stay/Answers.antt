use Rattle.lr_laws.proofs.FairPlaces.{place_stays-call}
use Rattle.lr_laws.proofs.fair_laws.fair_places_stay.Goals as goal

pub returns : goal.returns
returns c = λ objects moment op name owner place found lasts others.
    place_stays-call owner place name objects moment op.name op.call others lasts found
