use Rattle.std.proofs.Common.{◌≡◌, length}
use Rattle.vm_bound.proofs.Subclassing.{AreSubclassesBelow}
use Rattle.vm_bound.proofs.subclasses.all_subclasses.Given as goal

abbrev pub invariant-classes : goal.invariant-classes
invariant-classes l = record {
  long : length l.rows.items ≡ length l.world.classes.records;
  subclasses : AreSubclassesBelow l.world.classes l.class l.rows.items;
}
