use Rattle.cap_gen.proofs.Linking.{packages_link}
use Rattle.cap_gen.proofs.Alone.{worlds_typed}
use Rattle.cap_gen.proofs.generating.packages_link.Goals as goal

pub returns-clause-links : goal.returns-clause-links
returns-clause-links c = packages_link

pub returns-clause-typed : goal.returns-clause-typed
returns-clause-typed c = worlds_typed
