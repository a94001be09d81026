use Rattle.std.proofs.Common.{◌≡◌, ◌+◌, ℕ, length, sum_by}
use Rattle.jc_decode.specs.Instructions.{rest_of}
use Rattle.jc_decode.specs.Listing.{listing, targets, Lists}
use Rattle.link_tests.proofs.counting.are_few_targets.Given as goal

abbrev pub invariant-walk : goal.invariant-walk
invariant-walk l = record {
  so_far :
      sum_by (λ i. length (targets l.code.bytes.now i)) (listing l.code.bytes.now) + l.left
      ≡ l.fn.most + sum_by (λ i. length (targets l.code.bytes.now i)) (rest_of l.placed-iterator);
  lists : (at : ℕ) × Lists l.code.bytes.now at (rest_of l.placed-iterator);
}
