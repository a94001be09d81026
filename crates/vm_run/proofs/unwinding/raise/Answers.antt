use Rattle.std.proofs.Common.{◌≡◌, length, true, sym, ap, ◌∙◌}
use Rattle.std.specs.Prelude.{slice_index}
use Rattle.jc_base.specs.Dispatch.{cells_of}
use Rattle.vm_store.specs.Objects.{has_room}
use Rattle.vm_run.proofs.Unwound.{raised-is}
use Rattle.vm_run.proofs.unwinding.raise.Goals as goal

pub returns-clause-outcome : goal.returns-clause-outcome
returns-clause-outcome g c =
    let w = c.args.world.now in
    let s = g.S.Store.state c.args.store.now in
    let class = c.role-class.result in
    let room : has_room s (length (cells_of w.classes class)) ≡ true =
    ap (has_room s) c.class.ensures.cells ∙ (sym c.has_room.ensures ∙ c.if-not-has_room.false) in
    c.unwind.ensures.outcome
    ∙ raised-is g.S.Cell.CellForm.cells w c.args.exception s (g.S.Store.state c.make_instance-handle.new.self) class c.make_instance-handle.result
    (c.role-class.ensures.is ∙ ap (slice_index w.classes.roles) c.role.ensures.is)
    room
    c.make_instance-handle.ensures.handle
    c.make_instance-handle.ensures.state
