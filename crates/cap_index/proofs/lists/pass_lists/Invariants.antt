use Rattle.cap_bytes.proofs.Loops.{HasPassed}
use Rattle.cap_index.specs.IndexFormat.{list_info}
use Rattle.cap_index.proofs.lists.pass_lists.Given as goal

abbrev pub invariant-methods : goal.invariant-methods
invariant-methods l = HasPassed list_info l.count l.fn.items l.counter l.items
