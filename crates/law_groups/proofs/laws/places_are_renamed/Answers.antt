use Rattle.law_groups.proofs.Context.{has-room-for-more}
use Rattle.law_groups.proofs.Renaming.{renames-one-to-one}
use Rattle.law_groups.proofs.laws.places_are_renamed.Goals as goal

pub returns-clause-renames : goal.returns-clause-renames
returns-clause-renames c = renames-one-to-one c.args.world.now

pub returns-clause-room : goal.returns-clause-room
returns-clause-room c = has-room-for-more c.args.world.now
