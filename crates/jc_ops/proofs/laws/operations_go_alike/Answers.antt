use Rattle.jc_ops.proofs.Going.{operations-go-alike}
use Rattle.jc_ops.proofs.laws.operations_go_alike.Goals as goal

pub returns : goal.returns
returns c = operations-go-alike c.args.world.now
