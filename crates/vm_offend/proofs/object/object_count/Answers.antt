use Rattle.std.proofs.Common.{drop, sym, ◌∙◌}
use Rattle.std.proofs.lemmas.List.{length-map}
use Rattle.vm_store.specs.Layout.{object_in}
use Rattle.vm_offend.specs.Words.{headers_in}
use Rattle.vm_offend.proofs.WordHeaps.{length-headers_in}
use Rattle.vm_offend.proofs.object.object_count.Goals as goal

pub returns : goal.returns
returns c =
    let heap = c.args._heap.now in let n = c.args.counts.objects in
    sym (length-map (headers_in heap n) (object_in (drop 12288 heap)) ∙ length-headers_in heap n)
