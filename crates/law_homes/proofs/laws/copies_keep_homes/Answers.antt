use Rattle.law_homes.proofs.CopiedHomes.{copies-keep-homes}
use Rattle.law_homes.proofs.laws.copies_keep_homes.Goals as goal

pub returns : goal.returns
returns c = copies-keep-homes
