use Rattle.std.proofs.Common.{sym, ◌∙◌}
use Rattle.std.proofs.lemmas.List.{length-map}
use Rattle.vm_offend.specs.Words.{headers_in}
use Rattle.vm_offend.proofs.WordHeaps.{length-headers_in}
use Rattle.vm_offend.proofs.words.WordStoreStore.object_count.Goals as goal

pub returns : goal.returns
returns c =
    let s = c.args.self.now in
    sym (length-map (headers_in s.heap.now s.counts.objects) _ ∙ length-headers_in s.heap.now s.counts.objects)
