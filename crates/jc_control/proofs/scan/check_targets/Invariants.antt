use Rattle.std.proofs.Common.{◌≡◌, ◌++◌, All}
use Rattle.jc_control.specs.Walk.{rest_of}
use Rattle.jc_decode.specs.Listing.{listing, end_from}
use Rattle.jc_control.specs.Scan.{LeadsToPlaces}
use Rattle.jc_control.proofs.scan.check_targets.Given as goal

abbrev pub invariant-walk : goal.invariant-walk
invariant-walk l = record {
  so_far : All (LeadsToPlaces l.code.bytes.now) l.yielded;
  whole : l.yielded ++ rest_of l.placed-iterator ≡ listing l.code.bytes.now;
  end : l.end ≡ end_from 0 l.yielded;
}
