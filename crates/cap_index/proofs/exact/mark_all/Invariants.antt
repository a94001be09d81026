use Rattle.std.proofs.Common.{◌≡◌, ℕ}
use Rattle.jc_decode.specs.Instructions.{rest_of}
use Rattle.jc_decode.specs.Listing.{listing, Lists}
use Rattle.jc_control.specs.Flags.{flag}
use Rattle.cap_index.specs.Marking.{all_marked}
use Rattle.cap_index.proofs.exact.mark_all.Given as goal

abbrev pub invariant-walk : goal.invariant-walk
invariant-walk l = record {
  so_far : all_marked l.code.bytes.now (flag l.places) l.flags.items (rest_of l.placed-iterator) ≡ all_marked l.code.bytes.now (flag l.places)
      l.initial.flags.items (listing l.code.bytes.now);
  lists : (at : ℕ) × Lists l.code.bytes.now at (rest_of l.placed-iterator);
}
