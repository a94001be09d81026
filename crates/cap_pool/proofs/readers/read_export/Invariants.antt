use Rattle.cap_bytes.proofs.Loops.{HasPassed}
use Rattle.cap_pool.specs.ExportFormat.{class_export_info}
use Rattle.cap_pool.proofs.readers.read_export.Given as goal

abbrev pub invariant-classes : goal.invariant-classes
invariant-classes l = HasPassed class_export_info l.left l.initial.items l.counter l.items
