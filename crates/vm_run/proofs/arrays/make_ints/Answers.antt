use Rattle.std.proofs.Common.{◌<◌, ◌+◌, ◌*◌, length, ◌∙◌, arith}
use Rattle.vm_run.proofs.Elements.{high-there, low-there, low-more, all-ints-filled}
use Rattle.vm_run.proofs.arrays.make_ints.Goals as goal

pub set_object_cell-requires-clause-there : goal.set_object_cell-requires-clause-there
set_object_cell-requires-clause-there g c =
    high-there c.ints.invariant.filled c.requires.whole c.make_array-handle.ensures.handle (omega (arith, c.ints-test.true))

pub set_object_cell-requires-in-ints-clause-there : goal.set_object_cell-requires-in-ints-clause-there
set_object_cell-requires-in-ints-clause-there g c =
    low-there c.ints.invariant.filled c.requires.whole c.make_array-handle.ensures.handle (omega (arith, c.ints-test.true)) c.high.result
    c.set_object_cell.ensures.state

pub ints-preserved : goal.ints-preserved
ints-preserved g c =
    let inside : 2 * c.ints.i + 1 < length c.args.words.now = omega (arith, c.ints-test.true) in
    record {
      filled = low-more c.ints.invariant.filled c.requires.whole c.make_array-handle.ensures.handle inside c.high.result c.low.result
          c.set_object_cell.ensures.state c.set_object_cell-in-ints.ensures.state c.high.ensures c.low.ensures;
      well = c.set_object_cell-in-ints.ensures.well;
      fixed = c.set_object_cell-in-ints.ensures.fixed ∙ (c.set_object_cell.ensures.fixed ∙ c.ints.invariant.fixed);
    }

pub returns-clause-state : goal.returns-clause-state
returns-clause-state g c = all-ints-filled c.ints.invariant.filled c.requires.whole (omega (arith, c.ints-test.false))
