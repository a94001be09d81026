use Rattle.std.proofs.Common.{◌≡◌, length}
use Rattle.jc_resolve.specs.Fault.{link_place}
use Rattle.first_fault.specs.Least.{least_of, least_from}
use Rattle.jc_classes.specs.LineConditions.{numbered, cycle_fault}
use Rattle.jc_classes.proofs.Numbered.{numbered_from}
use Rattle.jc_classes.proofs.Settled.{AreSettled}
use Rattle.jc_classes.proofs.checks.least_cycle.Given as goal

abbrev pub invariant-classes : goal.invariant-classes
invariant-classes l = record {
  so_far : least_from link_place l.least (cycle_fault l.classes) (numbered_from l.c l.classes) ≡ least_of link_place (cycle_fault l.classes)
      (numbered l.classes);
  count : length l.settled.items ≡ l.c;
  settled : AreSettled l.classes l.settled.items;
}
