use Rattle.digraph.specs.Marks.{IsSearch, work}
use Rattle.digraph.proofs.search.led_to.Given as goal

abbrev pub invariant-work : goal.invariant-work
invariant-work l = IsSearch l.graph l.from l.marks.items l.pending.items

abbrev pub decreases-work : goal.decreases-work
decreases-work l = work l.pending.items l.marks.items
