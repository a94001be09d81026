use Rattle.std.proofs.Common.{drop}
use Rattle.cap_index.proofs.Entries.{IsSoFar}
use Rattle.cap_index.proofs.index_component.entries.Given as goal

abbrev pub invariant-methods : goal.invariant-methods
invariant-methods l = IsSoFar l.laid (drop l.method-index l.laid) l.entries.items
