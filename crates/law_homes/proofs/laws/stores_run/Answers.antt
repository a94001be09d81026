use Rattle.law_homes.proofs.Stores.{stores-run}
use Rattle.law_homes.proofs.laws.stores_run.Goals as goal

pub returns : goal.returns
returns c = record { stores = λ w world. stores-run c.args.source.now w (c.premises_hold.ensures w world) }
