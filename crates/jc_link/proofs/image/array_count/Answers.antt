use Rattle.std.proofs.Common.{length, ap, ◌∙◌, arith}
use Rattle.cap_method.specs.StaticFormat.{Statics}
use Rattle.jc_link.proofs.Counts.{array_count_more}
use Rattle.jc_link.proofs.image.array_count.Goals as goal

pub packages-preserved : goal.packages-preserved
packages-preserved c =
    let more = array_count_more c.args.packages.now c.packages.n c.at.result.now c.at.ensures in
    let count = c.array_init_count.ensures ∙ ap (λ (s : Statics). length s.arrays) c.statics.ensures.items in
    (omega (arith, more, count), omega arith)
