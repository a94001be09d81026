use Rattle.std.proofs.Common.{◌≡◌, ◌-◌, ◌≤◌, vec_len}
use Rattle.std.specs.Io.KnownBytes.{Consumes}
use Rattle.cap_files.proofs.transfer.read_part.Given as goal

abbrev pub invariant-chunks : goal.invariant-chunks
invariant-chunks g l = record {
  few : vec_len l.to ≤ 65539;
  bytes : Consumes (g.D.Disk.left l.initial.disk) (g.D.Disk.left l.disk) l.to.items;
  held : g.D.Disk.held l.disk ≡ g.D.Disk.held l.initial.disk;
  read_faults : g.D.Disk.read_faults l.disk ≡ g.D.Disk.read_faults l.initial.disk;
  write_faults : g.D.Disk.write_faults l.disk ≡ g.D.Disk.write_faults l.initial.disk;
}

abbrev pub decreases-chunks : goal.decreases-chunks
decreases-chunks g l = 65539 - vec_len l.to
