use Rattle.std.proofs.Common.{◌≡◌, ℕ, ◌+◌, ◌*◌, ◌^◌, ◌<◌, ◌≤◌, ◌++◌, All, length, sum_by}
use Rattle.jc_decode.specs.Instructions.{rest_of}
use Rattle.jc_decode.specs.Listing.{listing, targets}
use Rattle.card_verify.specs.Refusal.{LeadsToListed}
use Rattle.card_verify.proofs.scan.first_lacking.Given as goal

abbrev pub invariant-walk : goal.invariant-walk
invariant-walk g l = record {
  so_far : All (LeadsToListed l.code.bytes.now l.index) l.yielded;
  whole : l.yielded ++ rest_of l.placed-iterator ≡ listing l.code.bytes.now;
  forward : l.fn.steps ≤ l.steps;
  cost : (b : ℕ) → length l.index < 2 ^ b → l.steps ≤ l.fn.steps + sum_by (λ i. length (targets l.code.bytes.now i)) l.yielded * b;
}
