use Rattle.std.proofs.Common.{rules}
use Rattle.first_fault.specs.LeastFound.{IsFound}
use Rattle.first_fault.proofs.least.least_from.Goals as goal

pub returns : goal.returns
unfolding IsFound
returns g c = search rules
