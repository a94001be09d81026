use Rattle.std.proofs.Common.{sym, ap, ◌∙◌, ◌*◌}
use Rattle.vm_store.specs.Objects.{has_room}
use Rattle.vm_store.proofs.Fills.{length-array}
use Rattle.vm_run.proofs.outcome.has_array_room.Goals as goal

pub returns-clause-cells : goal.returns-clause-cells
returns-clause-cells g c =
    let s = g.S.Store.state c.args.store.now in
    c.has_room.ensures
    ∙ (ap (λ n. has_room s (n * c.args.count)) c.width.ensures.value
    ∙ ap (has_room s) (sym (length-array g.S.Cell.CellForm.cells c.args.kind c.args.count)))
