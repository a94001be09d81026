use Rattle.std.proofs.Common.{sym, ◌≤◌, length}
use Rattle.std.specs.Prelude.{All}
use Rattle.jc_base.specs.Linked.{IsMember}
use Rattle.jc_base.proofs.Lists.{list_at-slice_get, All-slice_get}
use Rattle.jc_base.proofs.world.World.pool.Goals as goal

pub returns-clause-is : goal.returns-clause-is
returns-clause-is c = rw (← c.self.view_is) (sym (list_at-slice_get c.self.inside.pools c.args.package c.at.result.now c.at.ensures))

pub returns-clause-links : goal.returns-clause-links
returns-clause-links c =
    rw (← c.self.view_is)
    (All-slice_get (All (IsMember c.self.inside.classes c.self.inside.methods c.self.inside.statics)) c.self.inside.pools
    c.args.package c.at.result.now c.self.invariant.0.members c.at.ensures)

pub returns-clause-most : goal.returns-clause-most
returns-clause-most c =
    All-slice_get (λ p. length p ≤ 65535) c.self.inside.pools c.args.package c.at.result.now c.self.invariant.0.limits.entries c.at.ensures
