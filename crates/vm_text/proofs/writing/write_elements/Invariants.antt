use Rattle.std.proofs.Common.{take, ◌*◌}
use Rattle.std.specs.List.{flat_map}
use Rattle.cap_text.specs.Ending.{element_text}
use Rattle.cap_text.specs.Room.{Writes, WritesAtMost}
use Rattle.vm_text.specs.Left.{elements_at}
use Rattle.vm_text.proofs.writing.write_elements.Given as goal

abbrev pub invariant-elements : goal.invariant-elements
invariant-elements g l = record {
  writes : Writes l.fn.room l.room (flat_map element_text (take l.element (elements_at (g.L.Leaves.left l.world l.left) l.handle)));
  few : WritesAtMost l.fn.room l.room (12 * l.element);
}
