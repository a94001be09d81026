use Rattle.std.proofs.Common.{arith}
use Rattle.cap_load.proofs.Cuts.{packs}
use Rattle.cap_load.proofs.packing.blocks.Goals as goal

pub overflow_cast-result : goal.overflow_cast-result
overflow_cast-result c =
    let both = packs _ _ _ _ c.requires c.in_ok-contents.ensures c.are_bytes.ensures c.as_slice-bytes.ensures.value c.in_ok-stream.ensures in
    omega (arith, both.1, c.in_ok-stream.stream.ok.0, c.len-then-len-gt-MOST_BYTES.ensures)

pub returns-then-len-gt-MOST_BYTES-clause-long : goal.returns-then-len-gt-MOST_BYTES-clause-long
returns-then-len-gt-MOST_BYTES-clause-long c =
    let both = packs _ _ _ _ c.requires c.in_ok-contents.ensures c.are_bytes.ensures c.as_slice-bytes.ensures.value c.in_ok-stream.ensures in
    let test = c.if-len-gt-MOST_BYTES.true in
    let long = c.len-then-len-gt-MOST_BYTES.ensures in
    (c.in_ok-stream.stream.items, both.0, omega (arith, long, c.in_ok-stream.stream.ok.0), omega (arith, test, long, c.len.ensures))

pub returns-clause-packed : goal.returns-clause-packed
returns-clause-packed c =
    let both = packs _ _ _ _ c.requires c.in_ok-contents.ensures c.are_bytes.ensures c.as_slice-bytes.ensures.value c.in_ok-stream.ensures in
    (both.0, omega (arith, c.if-len-gt-MOST_BYTES.false, c.len.ensures, c.in_ok-stream.stream.ok.0))
