use Rattle.std.proofs.Common.{◌≤◌, length, subst}
use Rattle.jc_ops.specs.declared.operation.Operation.{Operation}
use Rattle.jc_rules.specs.Footprint.{cells_asked}
use Rattle.jc_rules.specs.Rule.{demands}
use Rattle.vm_store.specs.State.{top}
use Rattle.vm_act.proofs.Asked.{call-cells}
use Rattle.vm_act.proofs.acting.act.Goals as goal

pub call-requires-clause-cells : goal.call-requires-clause-cells
call-requires-clause-cells g c =
    let w = c.args.world.now in
    let n = length (top (g.S.Store.state c.args.store.now)).stack in
    call-cells w c.in-Call.callee n (subst (λ (op : Operation). cells_asked (demands w op) ≤ n) c.in-Call.is c.requires.reaches.cells)
