use Rattle.std.proofs.Common.{◌<◌, arith, ap, ◌∙◌}
use Rattle.cap_pool.specs.Pool.{entry_seen}
use Rattle.cap_pool.specs.PoolReference.{token_in}
use Rattle.jc_resolve.proofs.Totals.{classes_total}
use Rattle.jc_link.specs.Members.{member_referred}
use Rattle.jc_link.proofs.Counted.{records_counted, named_counted}
use Rattle.jc_link.proofs.MembersLinked.{member_there}
use Rattle.jc_link.proofs.pools.member_of.Goals as goal

pub member_referred-requires-clause-count : goal.member_referred-requires-clause-count
member_referred-requires-clause-count c =
    records_counted c.args.names.now.classes _ c.args.classes.now c.requires.cells
    ∙ named_counted c.args.names.now c.facts.ensures.classes
    ∙ classes_total c.args.names.now.packages

pub returns-clause-linked : goal.returns-clause-linked
returns-clause-linked c =
    let low : token_in (entry_seen c.args.entry).bytes < 256 = omega (arith, c.token-token.ensures) in
    member_there c.args.names.now c.args.classes.now c.args.statics.now c.args.package (entry_seen c.args.entry) c.member_referred.result
    c.facts.ensures.classes
    c.facts.ensures.methods c.records-records.ensures.chains c.requires.linked c.requires.cells low
    (c.member_referred.ensures ∙ ap (member_referred c.args.names.now.packages c.args.classes.now c.args.statics.now c.args.package) c.reference.ensures)
