use Rattle.warp_service.proofs.PlaceLemmas.{anew, begun, told, answered, returned, spoke}
use Rattle.warp_service.proofs.laws.places_are_kept.Goals as goal

pub returns-clause-begun : goal.returns-clause-begun
returns-clause-begun c = begun

pub returns-clause-told : goal.returns-clause-told
returns-clause-told c = told

pub returns-clause-answered : goal.returns-clause-answered
returns-clause-answered c = answered

pub returns-clause-returned : goal.returns-clause-returned
returns-clause-returned c = returned

pub returns-clause-spoke : goal.returns-clause-spoke
returns-clause-spoke c = spoke

pub returns-clause-anew : goal.returns-clause-anew
returns-clause-anew c = anew
