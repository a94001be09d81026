use Rattle.std.proofs.Common.{◌<◌, List, ℕ, [], ◌∷◌, length, set, ap, ◌∙◌, rules}
use Rattle.std.specs.Int.{w16}
use mir.Val.{SFits}
use Rattle.std.proofs.lemmas.Int.{to_z-of_z}
use Rattle.vm_store.specs.State.{State}
use Rattle.vm_store.specs.Layout.{overwritten}
use Rattle.vm_run.proofs.WritesInOrder.{cell_written}
use Rattle.vm_run.proofs.Fields.{reference-cells, short-cells, kind-inside}
use Rattle.vm_run.proofs.statics.write_field.Goals as goal

pub returns-in-Ref-clause-state : goal.returns-in-Ref-clause-state
returns-in-Ref-clause-state g c =
    let k = g.S.Cell.CellForm.cells in
    let s : State g.row.S-Cell.Denot = g.S.Store.state c.args.store.now in
    let f = c.args.field.now in
    let inside : c.args.slot < length s.statics = kind-inside f.kind c.args.slot (length s.statics) c.requires.there in
    let put : List g.row.S-Cell.Denot → State g.row.S-Cell.Denot = λ cs. record s { statics = cs } in
    c.set_static_cell-in-Ref.ensures.state
    ∙ (ap (λ (n : ℕ). put (set s.statics n c.reference.result)) c.from-in-Ref.ensures
    ∙ (ap put (cell_written s.statics c.args.slot c.reference.result inside)
    ∙ (ap (λ (x : g.row.S-Cell.Denot). put (overwritten s.statics c.args.slot (x ∷ []))) c.reference.ensures
    ∙ ap (λ (cs : List g.row.S-Cell.Denot). put (overwritten s.statics c.args.slot cs))
    (reference-cells k f.kind f.initial c.at-first.result.now c.in-Ref.is c.requires.words c.at-first.ensures))))

pub returns-in_default-clause-state : goal.returns-in_default-clause-state
returns-in_default-clause-state g c =
    let k = g.S.Cell.CellForm.cells in
    let s : State g.row.S-Cell.Denot = g.S.Store.state c.args.store.now in
    let f = c.args.field.now in
    let fits : SFits w16 c.cast_signed.result = search rules in
    let inside : c.args.slot < length s.statics = kind-inside f.kind c.args.slot (length s.statics) c.requires.there in
    let put : List g.row.S-Cell.Denot → State g.row.S-Cell.Denot = λ cs. record s { statics = cs } in
    c.set_static_cell-in_default.ensures.state
    ∙ (ap (λ (n : ℕ). put (set s.statics n c.short.result)) c.from-in_default.ensures
    ∙ (ap put (cell_written s.statics c.args.slot c.short.result inside)
    ∙ (ap (λ (x : g.row.S-Cell.Denot). put (overwritten s.statics c.args.slot (x ∷ [])))
    (c.short.ensures ∙ (ap k.short (to_z-of_z w16 c.cast_signed.result fits) ∙ ap k.short c.cast_signed.ensures))
    ∙ ap (λ (cs : List g.row.S-Cell.Denot). put (overwritten s.statics c.args.slot cs))
    (short-cells k f.kind f.initial c.at-first.result.now c.in_default.not-Ref c.in_default.not-Int c.requires.words c.at-first.ensures))))
