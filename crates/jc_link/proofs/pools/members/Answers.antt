use Rattle.jc_link.proofs.EachNamed.{due-names}
use Rattle.jc_link.proofs.MembersTold.{due-tells, due-each}
use Rattle.jc_link.proofs.pools.members.Goals as goal

pub returns-clause-tells : goal.returns-clause-tells
returns-clause-tells c = due-tells c.args.names.now.packages c.args.classes.now c.args.statics.now c.pools_of.result c.pools_of.ensures.value

pub returns-clause-each : goal.returns-clause-each
returns-clause-each c = due-each c.args.names.now.packages c.args.classes.now c.args.statics.now c.pools_of.result c.pools_of.ensures.value

pub returns-clause-names : goal.returns-clause-names
returns-clause-names c = due-names c.args.names.now.packages c.args.classes.now c.args.statics.now c.pools_of.result c.pools_of.ensures.value
