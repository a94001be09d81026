use Rattle.std.proofs.Common.{◌≡◌, ◌+◌}
use Rattle.jc_decode.specs.Instructions.{rest_of}
use Rattle.jc_decode.specs.Listing.{listing}
use Rattle.jc_decode.specs.CodeSize.{plain_sum}
use Rattle.jc_decode.proofs.sizes.plain_code_size.Given as goal

abbrev pub invariant-walk : goal.invariant-walk
invariant-walk l = l.size + plain_sum (rest_of l.placed-iterator) ≡ plain_sum (listing l.code.bytes.now)
