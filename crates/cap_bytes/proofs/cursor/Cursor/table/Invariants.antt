use Rattle.cap_bytes.specs.Grammar.{u2}
use Rattle.cap_bytes.proofs.Loops.{HasPassed}
use Rattle.cap_bytes.proofs.cursor.Cursor.table.Given as goal

abbrev pub invariant-numbers : goal.invariant-numbers
invariant-numbers l = HasPassed u2 l.count l.initial.self l.counter l.self
