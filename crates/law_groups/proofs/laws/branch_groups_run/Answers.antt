use Rattle.std.proofs.Common.{◌≡◌, Bool, true, false, refl}
use Rattle.xf_emission.specs.Jump.{has_under}
use Rattle.law_groups.specs.Comes.{GroupRuns}
use Rattle.law_groups.proofs.Choosing.{alone-group}
use Rattle.law_groups.proofs.Deepening.{over-group}
use Rattle.law_groups.proofs.OneGroup.{turn-by}
use Rattle.law_groups.proofs.Turning.{goto-group}
use Rattle.law_groups.proofs.laws.branch_groups_run.Goals as goal

pub returns-clause-gotos : goal.returns-clause-gotos
returns-clause-gotos c w s place z t o i laid typed group equal step stays ex =
    goto-group laid c.operations_are_sound.ensures.decided c.moves_run.ensures z t o i typed group equal step stays ex

pub returns-clause-forks : goal.returns-clause-forks
unfolding turn-by
returns-clause-forks c w s place z t o i op n laid typed group equal step stays ex some = by (has_under s i.place n) refl
  where
    by : (b : Bool) → has_under s i.place n ≡ b → GroupRuns c.args.world.now w s place z t o
    by false alone =
        alone-group laid c.steps_are_alike.ensures c.operations_are_sound.ensures.decided c.edges_carry.ensures.matches c.moves_run.ensures
        z t o i op n typed group equal step stays ex some alone
    by true over =
        let turn = turn-by laid z typed i op ex in
        over-group laid c.classes.ensures.links c.steps_are_alike.ensures c.operations_are_sound.ensures.decided
        c.edges_carry.ensures.matches c.edges_carry.ensures.cuts c.moves_run.ensures (c.operands_load.ensures.operands w laid.new)
        (c.operands_load.ensures.under w laid.new) (c.operands_load.ensures.holds w laid.new)
        z t o i op n typed turn.stands turn.reached turn.does turn.here ex some over stays group equal step
