use Rattle.std.proofs.Common.{length, reverse}
use Rattle.std.specs.Prelude.{IfSome}
use Rattle.jc_base.specs.Class.{IsClass, chain, list_of}
use Rattle.jc_base.specs.ByClass.{LeadsDown}
use Rattle.jc_base.proofs.visible_bodies.climb_from.Given as goal

abbrev pub invariant-climb : goal.invariant-climb
invariant-climb l = record {
  leads : LeadsDown l.classes l.fn.c l.above (reverse l.path.items);
  classes : IfSome l.above (IsClass l.classes);
}

abbrev pub decreases-climb : goal.decreases-climb
decreases-climb l = length (list_of (chain l.classes) l.above)
