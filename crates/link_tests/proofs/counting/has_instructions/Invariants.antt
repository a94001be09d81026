use Rattle.std.proofs.Common.{◌≡◌, ◌≤◌, ◌+◌, length}
use Rattle.jc_decode.specs.Instructions.{rest_of}
use Rattle.jc_decode.specs.Listing.{listing}
use Rattle.link_tests.proofs.counting.has_instructions.Given as goal

abbrev pub invariant-walk : goal.invariant-walk
invariant-walk l = record {
  few : l.count ≤ l.fn.many;
  so_far : l.count + length (rest_of l.iterator') ≡ length (listing l.code.bytes.now);
}
