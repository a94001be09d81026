use Rattle.std.proofs.Common.{◌-◌, length}
use Rattle.xf_allot.specs.Allotting.{IsAllottedTo}
use Rattle.jc_control.specs.Subject.{method, world_of}
use Rattle.xf_allot.proofs.allotting.allot.Given as goal

abbrev pub invariant-variables : goal.invariant-variables
invariant-variables l = record { allotted : IsAllottedTo (world_of l.subject) (method l.subject) l.types l.allotment }

abbrev pub decreases-variables : goal.decreases-variables
decreases-variables l = length l.types - length l.allotment.numbers.items
