use Rattle.vm_offend.proofs.ObjectWords.{objects-laid}
use Rattle.vm_offend.proofs.words.WordStoreStore.element_count.Goals as goal

pub object_elements-requires-clause-laid : goal.object_elements-requires-clause-laid
object_elements-requires-clause-laid c =
    let s = c.args.self.now in
    objects-laid s.world.now s.ram.now s.heap.now s.counts c.requires.well
