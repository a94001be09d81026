use Rattle.std.proofs.Common.{◌≡◌, subst}
use Rattle.jc_base.specs.Laws.{IsOrderOfTypes}
use Rattle.jc_base.specs.World.{Linked}
use Rattle.law_groups.proofs.Counting.{increment-runs}
use Rattle.law_groups.proofs.laws.increments_in_groups.Goals as goal

pub returns : goal.returns
returns c =
    let v : Linked = c.args.world.now in
    let own : c.classes.result.now ≡ v.classes = cc in
    let types : IsOrderOfTypes v.classes = subst IsOrderOfTypes own c.types_are_ordered.ensures.order in
    increment-runs v c.steps_are_alike.ensures types c.derived_are_whole.ensures c.edges_carry.ensures.needed
