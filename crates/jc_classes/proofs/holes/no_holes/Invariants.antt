use Rattle.std.proofs.Common.{◌≡◌, ◌<◌, ℕ, false, length, get_or}
use Rattle.std.specs.Prelude.{flat_map}
use Rattle.std.specs.List.{range_with_len}
use Rattle.jc_resolve.specs.Fault.{link_place}
use Rattle.first_fault.specs.Least.{least_of}
use Rattle.jc_classes.specs.TableConditions.{hole_fault, entries_in}
use Rattle.jc_classes.proofs.holes.no_holes.Given as goal

abbrev pub invariant-classes : goal.invariant-classes
invariant-classes l =
    (l.least ≡ least_of link_place (hole_fault l.lineage l.methods) (flat_map (entries_in l.lineage l.classes) (range_with_len 0 l.c)))
    × (length l.marks ≡ length l.lineage.lines)
    × ((k : ℕ) → k < length l.marks → get_or l.marks k false ≡ false)
