use Rattle.std.proofs.Common.{arith}
use Rattle.cap_listing.proofs.Candidates.{block-read}
use Rattle.cap_listing.proofs.recognized.block_in.Goals as goal

pub returns : goal.returns
returns c =
    let items = c.in_ok-push_block.ensures in
    let none = c.new-bytes.ensures.items in
    let slice = c.as_slice.ensures.value in
    block-read c.args.place (omega (arith, c.ranges.place.fits)) c.args.line.now _ _ c.second_word.ensures c.unwrap_or-op.result
    c.in_ok-numbers.numbers.items c.push_block.new.out.items c.in_ok-numbers.ensures
    (λ p h. let named = c.opcode_named.ensures.given p h in let is = c.unwrap_or-op.ensures in cc)
    (grind (arith, items, none, slice))
