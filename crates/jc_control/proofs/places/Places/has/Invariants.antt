use Rattle.std.proofs.Common.{◌≡◌, ◌++◌, All}
use Rattle.jc_decode.specs.Instructions.{rest_of}
use Rattle.jc_decode.specs.Listing.{listing}
use Rattle.jc_control.proofs.places.Places.has.Given as goal

abbrev pub invariant-walk : goal.invariant-walk
invariant-walk l = record {
  so_far : All (λ i. ¬ (i.place ≡ l.place)) l.yielded;
  whole : l.yielded ++ rest_of l.placed-iterator ≡ listing l.code.bytes.now;
}
