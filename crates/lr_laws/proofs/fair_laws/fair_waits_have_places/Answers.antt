use Rattle.lr_laws.proofs.FairPlaces.{place_left-call}
use Rattle.lr_laws.proofs.fair_laws.fair_waits_have_places.Goals as goal

pub returns : goal.returns
returns c = λ objects moment name owner lease millis busy.
    place_left-call owner name objects moment lease millis busy
