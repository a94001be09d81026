use Rattle.std.proofs.Common.{◌≡◌, length}
use Rattle.cap_class.specs.ClassPart.{records, classes_left}
use Rattle.cap_bytes.specs.Edit.{patched_all}
use Rattle.cap_renewal.specs.ClassEdits.{classes_edits}
use Rattle.cap_renewal.specs.NewMethods.{to}
use Rattle.cap_renewal.specs.Rooms.{AllRooms}
use Rattle.cap_renewal.proofs.tables.renew_classes.Given as goal

abbrev pub invariant-classes : goal.invariant-classes
invariant-classes l = record {
  room : AllRooms (length l.initial.info) (classes_left l.class-iterator);
  long : length l.info ≡ length l.initial.info;
  so_far : patched_all (classes_edits (to l.news) (classes_left l.class-iterator)) l.info ≡ patched_all (classes_edits (to l.news) (records l.classes))
      l.initial.info;
}
