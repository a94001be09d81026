use Rattle.std.proofs.Common.{◌≡◌, ℕ, ◌+◌, ◌*◌, ◌^◌, ◌<◌, ◌≤◌, ◌++◌, All, length}
use Rattle.jc_decode.specs.Listing.{targets}
use Rattle.jc_control.specs.Targets.{rest_of}
use Rattle.card_verify.specs.Refusal.{IsListedTarget}
use Rattle.card_verify.proofs.scan.first_lacking_of.Given as goal

abbrev pub invariant-targets : goal.invariant-targets
invariant-targets g l = record {
  so_far : All (IsListedTarget l.index) l.yielded;
  whole : l.yielded ++ rest_of l.target-iterator ≡ targets l.code.bytes.now l.fn.placed;
  forward : l.fn.steps ≤ l.steps;
  cost : (b : ℕ) → length l.index < 2 ^ b → l.steps ≤ l.fn.steps + length l.yielded * b;
}
