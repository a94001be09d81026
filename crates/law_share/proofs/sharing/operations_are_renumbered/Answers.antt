use Rattle.law_share.proofs.Numbering.{operations-are-renumbered, renumbered-begin-alike, renumbered-stay-apart}
use Rattle.law_share.proofs.sharing.operations_are_renumbered.Goals as goal

pub returns-clause-same : goal.returns-clause-same
returns-clause-same c = operations-are-renumbered c.args.world.now c.classes.ensures.links

pub returns-clause-apart : goal.returns-clause-apart
returns-clause-apart c = renumbered-stay-apart c.args.world.now c.classes.ensures.links

pub returns-clause-begin : goal.returns-clause-begin
returns-clause-begin c = renumbered-begin-alike c.args.world.now c.classes.ensures.links
