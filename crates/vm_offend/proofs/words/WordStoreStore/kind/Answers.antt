use Rattle.vm_offend.proofs.ObjectWords.{objects-laid}
use Rattle.vm_offend.proofs.words.WordStoreStore.kind.Goals as goal

pub kind_there-requires-clause-laid : goal.kind_there-requires-clause-laid
kind_there-requires-clause-laid c =
    let s = c.args.self.now in
    objects-laid s.world.now s.ram.now s.heap.now s.counts c.requires.well
