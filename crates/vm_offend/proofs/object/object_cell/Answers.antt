use Rattle.std.proofs.Common.{◌+◌, ◌-◌, sym, ◌∙◌, arith}
use Rattle.std.proofs.lemmas.List.{get_or-drop}
use Rattle.vm_offend.specs.Words.{header_at}
use Rattle.vm_offend.proofs.ObjectWords.{cell-header-inside, cell-inside, cell-there}
use Rattle.vm_offend.proofs.object.object_cell.Goals as goal

pub cell-requires-clause-there : goal.cell-requires-clause-there
cell-requires-clause-there c = omega (arith, cell-header-inside c.args.heap.now c.args.counts c.requires.laid c.args.handle c.args.i c.requires.there)

pub cell-requires-clause-inside : goal.cell-requires-clause-inside
cell-requires-clause-inside c =
    let laid = c.requires.laid in
    omega (arith, cell-inside c.args.heap.now c.args.counts laid c.args.handle c.args.i c.requires.there, laid.some_cells, laid.heap_length)

pub returns : goal.returns
returns c =
    let heap = c.args.heap.now in
    c.cell.ensures
    ∙ (sym (get_or-drop 12288 heap ((header_at heap (c.args.handle - 1)).start + c.args.i) 0)
    ∙ sym (cell-there heap c.args.counts c.requires.laid c.args.handle c.args.i c.requires.there))
