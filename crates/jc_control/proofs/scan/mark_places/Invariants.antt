use Rattle.std.proofs.Common.{◌≡◌, ◌<◌, ◌++◌, ℕ, false, length}
use Rattle.jc_decode.specs.Instructions.{rest_of}
use Rattle.jc_decode.specs.Listing.{listing}
use Rattle.jc_control.specs.Flags.{flag, Marks}
use Rattle.jc_decode.specs.Places.{BeginsIn}
use Rattle.jc_control.proofs.scan.mark_places.Given as goal

abbrev pub invariant-clear : goal.invariant-clear
invariant-clear l = (p : ℕ) → p < l.flag-index → flag l.flags p ≡ false

abbrev pub invariant-walk : goal.invariant-walk
invariant-walk l = record {
  size : length l.flags ≡ length l.fn.flags;
  marked : Marks (BeginsIn l.yielded) l.flags;
  whole : l.yielded ++ rest_of l.placed-iterator ≡ listing l.code.bytes.now;
}
