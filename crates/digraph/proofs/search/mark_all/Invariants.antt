use Rattle.std.proofs.Common.{take}
use Rattle.digraph.specs.Marks.{Marks}
use Rattle.digraph.proofs.search.mark_all.Given as goal

abbrev pub invariant-row : goal.invariant-row
invariant-row l = Marks (take l.v-index l.row) l.fn.marks.items l.fn.pending.items l.marks.items l.pending.items
