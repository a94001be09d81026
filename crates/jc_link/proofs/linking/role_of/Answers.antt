use Rattle.std.proofs.Common.{◌<◌, length, subst, sym}
use Rattle.jc_link.proofs.linking.role_of.Goals as goal

pub returns-clause-below : goal.returns-clause-below
returns-clause-below c = subst (λ n. n < length c.args.classes.now.records) (sym c.role.ensures) (c.requires.known c.args.role c.requires.role)
