use Rattle.law_alike.proofs.Begins.{starts-refuse-alike, methods-are-numbered-alike}
use Rattle.law_alike.proofs.likeness.starts_refuse_alike.Goals as goal

pub returns-clause-refused : goal.returns-clause-refused
returns-clause-refused c = starts-refuse-alike c.args.world.now

pub returns-clause-numbered : goal.returns-clause-numbered
returns-clause-numbered c = methods-are-numbered-alike c.args.world.now
