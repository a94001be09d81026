use Rattle.law_homes.proofs.Copies.{homes-own-registers, homes-are-copied}
use Rattle.law_homes.proofs.Standing.{can-run}
use Rattle.law_homes.proofs.laws.homes_are_copied.Goals as goal

pub returns-clause-own : goal.returns-clause-own
returns-clause-own c = homes-own-registers

pub returns-clause-copied : goal.returns-clause-copied
returns-clause-copied c = homes-are-copied c.args.world.now (can-run c.args.world.now c.classes.ensures.links c.operations_are_sound.ensures.sound)
