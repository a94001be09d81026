use Rattle.jc_base.proofs.SameTypes.{same_type-decides}
use Rattle.jc_base.proofs.ty.same_type.Goals as goal

pub returns-clause-is : goal.returns-clause-is
returns-clause-is c = rw c.is_same.ensures (same_type-decides c.args.a c.args.b)
