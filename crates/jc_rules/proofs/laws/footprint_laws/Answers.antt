use Rattle.jc_rules.proofs.Footprints.{met-is-there, asked-is-there, operation-reads, footprint-is-one, operation-leaves, operation-names-none}
use Rattle.jc_rules.proofs.Footprints.{alike-leave-alike}
use Rattle.jc_rules.proofs.laws.footprint_laws.Goals as goal

pub returns-clause-met : goal.returns-clause-met
returns-clause-met c = met-is-there c.args.world.now

pub returns-clause-asked : goal.returns-clause-asked
returns-clause-asked c = asked-is-there

pub returns-clause-reads : goal.returns-clause-reads
returns-clause-reads c = operation-reads c.args.world.now

pub returns-clause-one : goal.returns-clause-one
returns-clause-one c = footprint-is-one c.args.world.now

pub returns-clause-leaves : goal.returns-clause-leaves
returns-clause-leaves c = operation-leaves c.args.world.now c.classes-classes.ensures.links

pub returns-clause-names_none : goal.returns-clause-names_none
returns-clause-names_none c = operation-names-none c.args.world.now

pub returns-clause-alike : goal.returns-clause-alike
returns-clause-alike c = alike-leave-alike c.args.world.now
