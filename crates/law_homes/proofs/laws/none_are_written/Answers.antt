use Rattle.law_homes.proofs.Unwritten.{names-none-writes-none, loads-write-none}
use Rattle.law_homes.proofs.laws.none_are_written.Goals as goal

pub returns-clause-named : goal.returns-clause-named
returns-clause-named c = names-none-writes-none c.args.world.now

pub returns-clause-loads : goal.returns-clause-loads
returns-clause-loads c = loads-write-none c.args.world.now
