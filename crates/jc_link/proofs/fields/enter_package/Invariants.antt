use Rattle.std.proofs.Common.{◌≡◌, ◌+◌, ◌≤◌, length}
use Rattle.cap_class.specs.ClassPart.{classes_left}
use Rattle.jc_resolve.specs.Described.{AreDescribedOnce}
use Rattle.jc_link.specs.Sites.{all_entered}
use Rattle.jc_link.specs.Fields.{sites_of_classes, FieldsFitIn}
use Rattle.jc_link.proofs.fields.enter_package.Given as goal

abbrev pub invariant-classes : goal.invariant-classes
invariant-classes l = record {
  entered : all_entered l.sites (sites_of_classes l.names.packages l.classes l.number l.«package» l.c (classes_left l.class-iterator))
      ≡ all_entered l.initial.sites (sites_of_classes l.names.packages l.classes l.number l.«package» l.first l.«package».classes);
  known : l.c + length (classes_left l.class-iterator) ≤ length l.classes.records;
  room : FieldsFitIn l.names.packages l.classes l.number l.«package» l.c (classes_left l.class-iterator);
  described : AreDescribedOnce l.«package».description.items.classes (classes_left l.class-iterator);
}
