use Rattle.cap_bare.proofs.OneRefusal.{one-refusal}
use Rattle.cap_bare.proofs.Places.{place-means}
use Rattle.cap_bare.proofs.verify.bare_laws.Goals as goal

pub returns-clause-one : goal.returns-clause-one
returns-clause-one c = λ code bare f g h k. one-refusal code bare f g h k

pub returns-clause-places : goal.returns-clause-places
returns-clause-places c = λ code place. place-means code place
