use Rattle.std.proofs.Common.{◌≡◌, ◌++◌}
use Rattle.jc_decode.specs.Instructions.{rest_of}
use Rattle.jc_decode.specs.Listing.{listing}
use Rattle.law_renumbered.specs.Symbols.{items_from}
use Rattle.xf_share.specs.Numbering.{number_of}
use Rattle.xf_share.proofs.items.items.Given as goal

abbrev pub invariant-instructions : goal.invariant-instructions
invariant-instructions l = record {
  so_far :
      l.items.items ++ items_from l.code.bytes.now (number_of l.sharing) (rest_of l.placed-iterator)
      ≡ items_from l.code.bytes.now (number_of l.sharing) (listing l.code.bytes.now);
  whole : l.yielded ++ rest_of l.placed-iterator ≡ listing l.code.bytes.now;
}
