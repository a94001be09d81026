use Rattle.std.proofs.Common.{map, ap, ◌∙◌, arith}
use Rattle.cap_method.specs.StaticFormat.{Statics}
use Rattle.jc_link.specs.Arrays.{array_record, initial_cells}
use Rattle.jc_link.proofs.Counts.{array_cells_more}
use Rattle.jc_link.proofs.image.array_cells.Goals as goal

pub packages-preserved : goal.packages-preserved
packages-preserved c =
    let more = array_cells_more c.args.packages.now c.packages.n c.at.result.now c.at.ensures in
    let cells = c.array_cells_of_package-total.ensures.is ∙ ap (λ (s : Statics). initial_cells (map array_record s.arrays)) c.statics.ensures.items in
    (omega (arith, more, cells), omega arith)
