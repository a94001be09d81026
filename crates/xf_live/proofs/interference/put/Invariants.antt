use Rattle.xf_live.specs.Interference.{PutsTo}
use Rattle.xf_live.proofs.interference.put.Given as goal

abbrev pub invariant-registers : goal.invariant-registers
invariant-registers l = record { puts : PutsTo l.written l.live l.register l.fn.after.items l.after.items }
