use Rattle.std.proofs.Common.{List, length, sym, ap, ◌∙◌, arith, rules}
use Rattle.std.specs.Prelude.{ℤ}
use Rattle.std.specs.Int.{w32}
use mir.Val.{SFits}
use Rattle.std.proofs.lemmas.Int.{to_z-of_z}
use Rattle.jc_ops.specs.declared.operation.Width.TheVariants as widths
use Rattle.vm_store.specs.State.{State, top, with_top}
use Rattle.vm_store.specs.Layout.{overwritten}
use Rattle.vm_step.specs.declared.arguments.Arg.{Arg}
use Rattle.vm_step.specs.Numbers.{number_cells}
use Rattle.vm_step.specs.Arguments.{argument_of}
use Rattle.vm_step.specs.Start.{argument_cells}
use Rattle.vm_run.proofs.Handing.{int-argument}
use Rattle.vm_run.proofs.frame.hand_argument.Goals as goal

pub hand_int-requires-clause-there : goal.hand_int-requires-clause-there
hand_int-requires-clause-there g c =
    let k = g.S.Cell.CellForm.cells in
    let two = ap (λ (a : Arg). argument_cells k c.args.objects (argument_of a) c.args.ty) c.in-Number.is
    ∙ int-argument k c.args.objects c.in-Number.number c.args.ty c.in_default.not-Short in
    omega (arith, ap length two, c.requires.there)

pub hand_int-requires-clause-few : goal.hand_int-requires-clause-few
hand_int-requires-clause-few g c =
    let k = g.S.Cell.CellForm.cells in
    let two = ap (λ (a : Arg). argument_cells k c.args.objects (argument_of a) c.args.ty) c.in-Number.is
    ∙ int-argument k c.args.objects c.in-Number.number c.args.ty c.in_default.not-Short in
    omega (arith, ap length two, c.requires.few)

pub returns-in_default-clause-next : goal.returns-in_default-clause-next
returns-in_default-clause-next g c =
    let k = g.S.Cell.CellForm.cells in
    let two = ap (λ (a : Arg). argument_cells k c.args.objects (argument_of a) c.args.ty) c.in-Number.is
    ∙ int-argument k c.args.objects c.in-Number.number c.args.ty c.in_default.not-Short in
    omega (arith, ap length two, c.hand_int.ensures.next)

pub returns-in_default-clause-state : goal.returns-in_default-clause-state
returns-in_default-clause-state g c =
    let k = g.S.Cell.CellForm.cells in
    let s : State g.row.S-Cell.Denot = g.S.Store.state c.args.store.now in
    let two = ap (λ (a : Arg). argument_cells k c.args.objects (argument_of a) c.args.ty) c.in-Number.is
    ∙ int-argument k c.args.objects c.in-Number.number c.args.ty c.in_default.not-Short in
    let fits : SFits w32 c.in-Number.number = search rules in
    c.hand_int.ensures.state
    ∙ ap (λ (n : ℤ). with_top s (record (top s) { registers = overwritten (top s).registers c.args.x (number_cells k widths.Int n) }))
    (to_z-of_z w32 c.in-Number.number fits)
    ∙ ap (λ (cs : List g.row.S-Cell.Denot). with_top s (record (top s) { registers = overwritten (top s).registers c.args.x cs })) (sym two)
