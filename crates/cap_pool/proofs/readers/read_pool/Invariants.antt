use Rattle.cap_bytes.proofs.Loops.{HasPassed}
use Rattle.cap_pool.specs.PoolFormat.{entry_info}
use Rattle.cap_pool.proofs.readers.read_pool.Given as goal

abbrev pub invariant-entries : goal.invariant-entries
invariant-entries l = HasPassed entry_info l.left l.initial.items l.counter l.items
