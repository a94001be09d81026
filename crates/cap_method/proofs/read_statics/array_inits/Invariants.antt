use Rattle.cap_bytes.proofs.Loops.{HasPassed}
use Rattle.cap_method.specs.StaticFormat.{array_init_info}
use Rattle.cap_method.proofs.read_statics.array_inits.Given as goal

abbrev pub invariant-arrays : goal.invariant-arrays
invariant-arrays l = HasPassed array_init_info l.left l.initial.items l.counter l.items
