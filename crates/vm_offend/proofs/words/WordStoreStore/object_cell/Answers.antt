use Rattle.vm_offend.proofs.ObjectWords.{objects-laid}
use Rattle.vm_offend.proofs.words.WordStoreStore.object_cell.Goals as goal

pub object_cell-requires-clause-laid : goal.object_cell-requires-clause-laid
object_cell-requires-clause-laid c =
    let s = c.args.self.now in
    objects-laid s.world.now s.ram.now s.heap.now s.counts c.requires.well
