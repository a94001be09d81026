use Rattle.std.proofs.Common.{ap, ◌∙◌, arith, rules}
use Rattle.std.specs.Int.{w16}
use mir.Val.{SFits}
use Rattle.std.proofs.lemmas.Int.{to_z-of_z}
use Rattle.vm_run.proofs.Elements.{element-there, element-more, all-filled}
use Rattle.vm_run.proofs.arrays.make_shorts.Goals as goal

pub set_object_cell-requires-clause-there : goal.set_object_cell-requires-clause-there
set_object_cell-requires-clause-there g c =
    element-there c.words.invariant.filled c.requires.narrow c.make_array-handle.ensures.handle (omega (arith, c.words-test.true))

pub words-preserved : goal.words-preserved
words-preserved g c =
    let k = g.S.Cell.CellForm.cells in
    let fits : SFits w16 c.cast_signed.result = search rules in
    record {
      filled = element-more c.words.invariant.filled c.requires.narrow c.short.result c.make_array-handle.ensures.handle
          (omega (arith, c.words-test.true))
          (c.short.ensures ∙ (ap k.short (to_z-of_z w16 c.cast_signed.result fits) ∙ ap k.short c.cast_signed.ensures))
          c.set_object_cell.ensures.state;
      well = c.set_object_cell.ensures.well;
      fixed = c.set_object_cell.ensures.fixed ∙ c.words.invariant.fixed;
    }

pub returns-clause-state : goal.returns-clause-state
returns-clause-state g c = all-filled c.words.invariant.filled c.requires.narrow (omega (arith, c.words-test.false))
