-- An iterator over the instructions of a method's code, as the list of those that are left.
use Rattle.std.specs.Prelude.{List}
use Rattle.jc_decode.specs.declared.insn.Placed.{Placed}
use Rattle.jc_decode.specs.declared.instructions.Instructions.{Instructions}
use Rattle.jc_decode.specs.Listing.{listing_from}

-- the instructions that are left
abbrev pub rest_of : Instructions → List Placed
rest_of s = listing_from s.code.bytes.now s.at
