use Rattle.vm_offend.specs.Held.{IsRunOf}
use Rattle.vm_tests.proofs.live_tests.most_words.Given as goal

abbrev pub invariant-steps : goal.invariant-steps
invariant-steps l = IsRunOf l.accepted l.machine l.ram l.heap l.statics
