use Rattle.std.proofs.Common.{◌≡◌, refl, subst}
use Rattle.jc_base.specs.Laws.{IsOrderOfTypes}
use Rattle.jc_base.specs.World.{Linked}
use Rattle.law_groups.proofs.OneGroup.{no-fault}
use Rattle.law_groups.proofs.Groups.{kept-group, still-group}
use Rattle.law_groups.proofs.Reading.{load-runs}
use Rattle.law_groups.proofs.laws.plain_groups_run.Goals as goal

pub returns-clause-kept : goal.returns-clause-kept
returns-clause-kept c w s place z t o i op laid typed group equal step stays ex still none =
    kept-group laid c.moves_run.ensures z t o i op typed group equal step stays ex still c.kept_run.ensures none

pub returns-clause-loads : goal.returns-clause-loads
returns-clause-loads c w s place z t o i letter x laid typed group equal step stays ex =
    let v : Linked = c.args.world.now in
    let own : c.classes.result.now ≡ v.classes = cc in
    let types : IsOrderOfTypes v.classes = subst IsOrderOfTypes own c.types_are_ordered.ensures.order in
    still-group laid c.moves_run.ensures z t o i _ typed group equal step stays ex refl
    (λ u before. load-runs v c.steps_are_alike.ensures types c.derived_are_whole.ensures c.moves_run.ensures.needs
    w s place i letter x z u o laid before step (no-fault v s o stays))
