use Rattle.std.proofs.Common.{◌≡◌, ◌+◌, ◌++◌, length, map}
use Rattle.cap_class.specs.ClassFormat.{Class, is_interface}
use Rattle.cap_class.specs.ClassPart.{classes_left}
use Rattle.jc_resolve.specs.Numbers.{spot_of_class, with_all}
use Rattle.jc_resolve.proofs.class_index.number_package.Given as goal

abbrev pub invariant-classes : goal.invariant-classes
invariant-classes l =
    (with_all l.numbers (map (spot_of_class l.«package») (classes_left l.class-iterator)) ≡ with_all l.initial.numbers
    (map (spot_of_class l.«package») (classes_left l.fn.classes)))
    × (l.interfaces.items ++ map (λ (c : Class). is_interface c.flags) (classes_left l.class-iterator) ≡ l.initial.interfaces.items ++ map
    (λ (c : Class). is_interface c.flags) (classes_left l.fn.classes))
    × (l.numbers.next + length (classes_left l.class-iterator) ≡ l.initial.numbers.next + length (classes_left l.fn.classes))
