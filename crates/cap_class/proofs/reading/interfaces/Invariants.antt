use Rattle.cap_bytes.proofs.Loops.{HasPassed}
use Rattle.cap_class.specs.ClassFormat.{interface_info}
use Rattle.cap_class.proofs.reading.interfaces.Given as goal

abbrev pub invariant-interfaces : goal.invariant-interfaces
invariant-interfaces l = HasPassed (interface_info l.extended) l.left l.initial.items l.counter l.items
