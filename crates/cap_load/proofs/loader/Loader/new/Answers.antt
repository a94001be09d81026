use Rattle.cap_load.proofs.Standing.{new_stands}
use Rattle.cap_load.proofs.loader.Loader.new.Goals as goal

pub returns-clause-stands : goal.returns-clause-stands
returns-clause-stands c = new_stands c.args.room _ c.new.result c.in_ok-contents.ensures.items
