use Rattle.std.proofs.Common.{ap, ◌∙◌, refl, arith, rules}
use Rattle.vm_store.specs.Value.{byte_of_word}
use Rattle.std.specs.Int.{w16}
use mir.Val.{SFits}
use Rattle.std.proofs.lemmas.Int.{to_z-of_z}
use Rattle.vm_run.proofs.Elements.{element-there, element-more, all-filled}
use Rattle.vm_run.proofs.arrays.make_bytes.Goals as goal

pub set_object_cell-requires-clause-there : goal.set_object_cell-requires-clause-there
set_object_cell-requires-clause-there g c =
    element-there c.bytes.invariant.filled refl c.make_array-handle.ensures.handle (omega (arith, c.bytes-test.true))

pub bytes-preserved : goal.bytes-preserved
bytes-preserved g c =
    let k = g.S.Cell.CellForm.cells in
    let fits : SFits w16 c.byte_of_word.result = search rules in
    record {
      filled = element-more c.bytes.invariant.filled refl c.short.result c.make_array-handle.ensures.handle (omega (arith, c.bytes-test.true))
          (c.short.ensures
          ∙ (ap k.short (to_z-of_z w16 c.byte_of_word.result fits)
          ∙ (ap k.short c.byte_of_word.ensures ∙ ap (λ b. k.short (byte_of_word b)) c.from.ensures)))
          c.set_object_cell.ensures.state;
      well = c.set_object_cell.ensures.well;
      fixed = c.set_object_cell.ensures.fixed ∙ c.bytes.invariant.fixed;
    }

pub returns-clause-state : goal.returns-clause-state
returns-clause-state g c = all-filled c.bytes.invariant.filled refl (omega (arith, c.bytes-test.false))
