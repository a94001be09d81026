use Rattle.std.proofs.Common.{◌≡◌, ◌++◌}
use Rattle.jc_decode.specs.Instructions.{rest_of}
use Rattle.jc_decode.specs.Listing.{listing}
use Rattle.jc_decode.specs.Places.{IsTargetIn}
use Rattle.card_verify.specs.Ahead.{IsLeastFrom}
use Rattle.card_verify.proofs.verify.Verifier.target_from.Given as goal

abbrev pub invariant-walk : goal.invariant-walk
invariant-walk l = record {
  whole : l.yielded ++ rest_of l.placed-iterator ≡ listing l.self.subject.code.bytes.now;
  least : IsLeastFrom (IsTargetIn l.self.subject.code.bytes.now l.yielded) l.from l.best;
}
