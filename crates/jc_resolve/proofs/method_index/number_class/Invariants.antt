use Rattle.std.proofs.Common.{◌≡◌, ◌+◌, length, map}
use Rattle.cap_desc.specs.MemberLists.{methods_left}
use Rattle.jc_resolve.specs.Numbers.{spot_of_method, with_all}
use Rattle.jc_resolve.proofs.method_index.number_class.Given as goal

abbrev pub invariant-methods : goal.invariant-methods
invariant-methods l =
    (with_all l.numbers (map (spot_of_method l.«package» l.placed) (methods_left l.method-iterator)) ≡ with_all l.initial.numbers
    (map (spot_of_method l.«package» l.placed) (methods_left l.fn.methods)))
    × (l.numbers.next + length (methods_left l.method-iterator) ≡ l.initial.numbers.next + length (methods_left l.fn.methods))
