use Rattle.std.proofs.Common.{◌≡◌, length}
use Rattle.vm_bound.proofs.Names.{AreNamingBelow}
use Rattle.vm_bound.proofs.subclasses.all_naming.Given as goal

abbrev pub invariant-positions : goal.invariant-positions
invariant-positions l = record {
  long : length l.rows.items ≡ length l.world.classes.records;
  below : AreNamingBelow l.world.classes l.order l.at l.rows.items;
}
