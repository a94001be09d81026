-- A walk along a method's code, as the list of the instructions that are left.
use Rattle.std.specs.Prelude.{List}
use Rattle.jc_decode.specs.declared.insn.Placed.{Placed}
use Rattle.jc_decode.specs.Listing.{listing_from}
use Rattle.jc_control.specs.declared.walk.Walk.{Walk}

-- the instructions that are left
abbrev pub rest_of : Walk → List Placed
rest_of s = listing_from s.code.bytes.now s.at
