use Rattle.std.proofs.Common.{sym, subst}
use Rattle.vm_bound.specs.Rows.{IsOwn}
use Rattle.vm_bound.proofs.Targeting.{own-one}
use Rattle.vm_bound.proofs.meanings.own_targets.Goals as goal

pub returns-in_ok-vec-in-Some : goal.returns-in_ok-vec-in-Some
returns-in_ok-vec-in-Some c =
    let w = c.args.world.now in
    subst (IsOwn w c.args.class c.args.token) (sym c.in_ok-vec-in-Some.ensures.items)
    (own-one w c.args.class c.args.token c.in-Some.n c.in-Some.ensures)
