use Rattle.jc_link.proofs.Steps.{names_first, names_answered}
use Rattle.jc_link.proofs.linking.named.Goals as goal

pub returns-clause-first : goal.returns-clause-first
returns-clause-first c = names_first c.args.packages.now c.names.result c.names.ensures.tells

pub returns-clause-known : goal.returns-clause-known
returns-clause-known c = names_answered c.args.packages.now c.args.roles c.names.result c.names.ensures.value c.names.ensures.named
