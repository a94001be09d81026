use Rattle.std.proofs.Common.{◌≡◌, take}
use Rattle.jc_classes.proofs.building.copied_interfaces.Given as goal

abbrev pub invariant-interfaces : goal.invariant-interfaces
invariant-interfaces l = l.list.items ≡ take l.interface-index l.interfaces
