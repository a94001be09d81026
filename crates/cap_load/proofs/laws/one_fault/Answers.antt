use Rattle.cap_load.proofs.Faults.{one_fault}
use Rattle.cap_load.proofs.laws.one_fault.Goals as goal

pub returns : goal.returns
returns c = one_fault
