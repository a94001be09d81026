use Rattle.std.specs.Prelude.{◌≡◌, ◌++◌, map}
use Rattle.cap_method.specs.StaticPart.{arrays_left}
use Rattle.jc_link.specs.Arrays.{array_record}
use Rattle.jc_link.proofs.static_fields.push_arrays.Given as goal

abbrev pub invariant-arrays : goal.invariant-arrays
invariant-arrays l = l.records.items ++ map array_record (arrays_left l.array-iterator) ≡ l.fn.records.items ++ map array_record l.«package».statics.arrays
