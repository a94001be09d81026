use Rattle.std.proofs.Common.{◌≡◌, ◌+◌, ◌/◌, min, sym, ◌∙◌, arith}
use Rattle.cap_method.specs.StaticPart.{statics_seen}
use Rattle.jc_link.proofs.ImageBytes.{handle_in, handle_past}
use Rattle.jc_link.proofs.image.reference_at.Goals as goal

pub returns-then-number-array_init_count : goal.returns-then-number-array_init_count
returns-then-number-array_init_count c =
    let cut : c.min.result ≡ min (c.args.first + c.args.offset / 2) 65535 = omega arith in
    cut ∙ sym (handle_in c.args.first (statics_seen c.args.statics.now) (c.args.offset / 2) (omega arith))

pub returns-else-number-array_init_count : goal.returns-else-number-array_init_count
returns-else-number-array_init_count c = sym (handle_past c.args.first (statics_seen c.args.statics.now) (c.args.offset / 2) (omega arith))
