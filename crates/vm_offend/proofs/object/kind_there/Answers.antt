use Rattle.std.proofs.Common.{sym, ap, ◌∙◌, arith}
use Rattle.std.specs.Prelude.{Some}
use Rattle.vm_store.specs.declared.cell.ObjectHeader.{ObjectHeader}
use Rattle.vm_offend.proofs.ObjectWords.{header-inside, kind-there}
use Rattle.vm_offend.proofs.object.kind_there.Goals as goal

pub header-requires : goal.header-requires
header-requires c = omega (arith, header-inside c.args.heap.now c.args.counts c.requires.laid c.args.handle c.requires.there)

pub returns : goal.returns
returns c =
    kind-there c.args.heap.now c.args.counts c.requires.laid c.args.handle c.requires.there
    ∙ ap (λ (x : ObjectHeader). Some x.kind) (sym c.header.ensures)
