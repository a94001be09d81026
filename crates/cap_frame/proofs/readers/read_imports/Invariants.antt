use Rattle.cap_bytes.proofs.Loops.{HasPassed}
use Rattle.cap_frame.specs.PackageFormat.{package_info}
use Rattle.cap_frame.proofs.readers.read_imports.Given as goal

abbrev pub invariant-packages : goal.invariant-packages
invariant-packages l = HasPassed package_info l.left l.initial.items l.counter l.items
