use Rattle.vm_store.proofs.CellTypes.{least-falls}
use Rattle.vm_store.proofs.laws.types_fall_with_objects.Goals as goal

pub returns : goal.returns
returns c = λ unset kinds cell. least-falls c.args.classes.now kinds unset cell
