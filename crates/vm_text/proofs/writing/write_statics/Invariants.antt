use Rattle.std.proofs.Common.{take, ◌*◌}
use Rattle.cap_text.specs.Ending.{static_lines}
use Rattle.cap_text.specs.Room.{Writes, WritesAtMost}
use Rattle.vm_text.proofs.writing.write_statics.Given as goal

abbrev pub invariant-fields : goal.invariant-fields
invariant-fields g l = record {
  writes : Writes l.fn.room l.room (static_lines 0 (take l.n (g.L.Leaves.left l.world l.left).statics));
  few : WritesAtMost l.fn.room l.room (31 * l.n);
}
