use Rattle.capcheck_core.specs.LentCard.{words_of}
use Rattle.capcheck_core.specs.Outside.{outside}
use Rattle.capcheck_core.proofs.Worlds.{without_world}
use Rattle.capcheck_core.proofs.world.over_packages.Goals as goal

pub returns-in-Err-clause-answers : goal.returns-in-Err-clause-answers
returns-in-Err-clause-answers g c =
    without_world (g.S.LastStep.own c.args.step.now) c.args.packages.now c.args.roles
    (outside (g.F.Folder.folders c.args.folder.now) (words_of c.args.card.now)) c.in-Err.end c.unlinked.result
    c.in-Err.ensures.tells c.unlinked.ensures
