use Rattle.std.specs.Prelude.{◌≡◌, ◌+◌, ◌≤◌, map}
use Rattle.cap_method.specs.StaticPart.{statics_seen, arrays_left}
use Rattle.jc_link.specs.Arrays.{array_record, initial_cells}
use Rattle.jc_link.proofs.image.array_cells_of_package.Given as goal

abbrev pub invariant-arrays : goal.invariant-arrays
invariant-arrays l =
    (l.total + initial_cells (map array_record (arrays_left l.array-iterator)) ≡ initial_cells (map array_record (statics_seen l.statics).arrays))
    × (initial_cells (map array_record (statics_seen l.statics).arrays) ≤ 65535)
