use Rattle.std.proofs.Common.{◌≤◌, length, subst, sym, arith}
use Rattle.std.proofs.lemmas.Option.{slice_get_past}
use Rattle.jc_base.specs.Laws.{DeclaredAreKnown}
use Rattle.jc_base.specs.Linked.{list_at}
use Rattle.jc_ops.proofs.Members.{member-known}
use Rattle.jc_ops.proofs.named.member.Goals as goal

pub returns-then-pool-pool_count-clause-known : goal.returns-then-pool-pool_count-clause-known
returns-then-pool-pool_count-clause-known c =
    member-known c.args.world.now c.classes.ensures.links (subst DeclaredAreKnown c.classes.ensures.is c.types_are_ordered.ensures.declared) c.member.result
    c.member.ensures.links

pub returns-else-pool-pool_count-clause-is : goal.returns-else-pool-pool_count-clause-is
returns-else-pool-pool_count-clause-is c =
    let past : length (list_at c.args.world.now.pools c.args.package) ≤ c.args.pool = omega arith in
    sym (slice_get_past (list_at c.args.world.now.pools c.args.package) c.args.pool past)
