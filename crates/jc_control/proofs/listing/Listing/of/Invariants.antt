use Rattle.std.proofs.Common.{◌≡◌, ◌++◌, length}
use Rattle.jc_decode.specs.Instructions.{rest_of}
use Rattle.jc_decode.specs.Listing.{listing}
use Rattle.jc_control.specs.Flags.{Marks}
use Rattle.jc_control.specs.Listing.{AreDecoded}
use Rattle.jc_decode.specs.Places.{BeginsIn}
use Rattle.jc_control.proofs.listing.Listing.of.Given as goal

abbrev pub invariant-walk : goal.invariant-walk
invariant-walk l = record {
  flags : length l.begins ≡ length l.code.bytes.now;
  room : length l.insns.items ≡ length l.code.bytes.now;
  marked : Marks (BeginsIn l.yielded) l.begins;
  decodes : AreDecoded l.code.bytes.now l.insns.items;
  whole : l.yielded ++ rest_of l.placed-iterator ≡ listing l.code.bytes.now;
}
