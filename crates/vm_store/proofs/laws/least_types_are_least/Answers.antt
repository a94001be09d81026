use Rattle.vm_store.proofs.CellTypes.{least-is}
use Rattle.vm_store.proofs.laws.least_types_are_least.Goals as goal

pub returns : goal.returns
returns c = λ kinds cell. least-is c.args.classes.now kinds c.records.ensures.chains cell
