use Rattle.std.proofs.Common.{◌≡◌, ◌+◌, drop}
use Rattle.jc_resolve.specs.Fault.{link_place}
use Rattle.first_fault.specs.Least.{least_from}
use Rattle.jc_classes.specs.TableConditions.{hole_fault, entries_from}
use Rattle.jc_classes.proofs.holes.Line.holes_in.Given as goal

abbrev pub invariant-entries : goal.invariant-entries
invariant-entries l =
    (least_from link_place l.least (hole_fault l.self.lineage.now l.methods) (entries_from l.self.class l.token (drop l.entry-index l.list))
    ≡ least_from link_place l.fn.least (hole_fault l.self.lineage.now l.methods) (entries_from l.self.class l.fn.first l.list))
    × (l.token ≡ l.fn.first + l.entry-index)
