use Rattle.std.proofs.Common.{take}
use Rattle.vm_bound.specs.Runs.{AreAdded}
use Rattle.vm_bound.proofs.subclasses.add_to_each.Given as goal

abbrev pub invariant-entries : goal.invariant-entries
invariant-entries l = AreAdded l.fn.rows.items (take l.entry-index l.entries) l.at l.rows.items
