use Rattle.std.proofs.Common.{◌≡◌, ℕ, List, ◌++◌, length}
use Rattle.std.specs.Io.KnownBytes.{Appends}
use Rattle.cap_files.proofs.transfer.write_part.Given as goal

abbrev pub invariant-pieces : goal.invariant-pieces
invariant-pieces g l = record {
  bytes : (given : List ℕ) × (l.bytes ≡ given ++ l.left) × Appends (g.D.Disk.written l.initial.disk) (g.D.Disk.written l.disk) given;
  held : g.D.Disk.held l.disk ≡ g.D.Disk.held l.initial.disk;
  write_faults : g.D.Disk.write_faults l.disk ≡ g.D.Disk.write_faults l.initial.disk;
  read_faults : g.D.Disk.read_faults l.disk ≡ g.D.Disk.read_faults l.initial.disk;
}

abbrev pub decreases-pieces : goal.decreases-pieces
decreases-pieces g l = length l.left
