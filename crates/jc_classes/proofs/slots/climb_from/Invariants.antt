use Rattle.std.proofs.Common.{◌≡◌, ◌<◌, ◌++◌, length}
use Rattle.std.specs.Prelude.{IfSome}
use Rattle.jc_base.specs.Class.{list_of}
use Rattle.jc_classes.specs.Outline.{chain}
use Rattle.jc_classes.proofs.slots.climb_from.Given as goal

abbrev pub invariant-climb : goal.invariant-climb
invariant-climb l = (l.path.items ++ list_of (chain l.lineage) l.above ≡ chain l.lineage l.fn.c) × IfSome l.above (λ a. a < length l.lineage.lines)

abbrev pub decreases-climb : goal.decreases-climb
decreases-climb l = length (list_of (chain l.lineage) l.above)
