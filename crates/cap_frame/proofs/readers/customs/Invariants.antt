use Rattle.cap_frame.proofs.Customs.{HasNamed}
use Rattle.cap_frame.proofs.readers.customs.Given as goal

abbrev pub invariant-customs : goal.invariant-customs
invariant-customs l = HasNamed l.left l.initial.items l.counter l.items l.named
