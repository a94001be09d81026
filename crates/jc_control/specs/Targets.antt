-- An iterator over the places that an instruction names, as the list of those that are left.
use Rattle.std.specs.Prelude.{ℤ, List, drop}
use Rattle.jc_decode.specs.Listing.{targets}
use Rattle.jc_control.specs.declared.targets.Targets.{Targets}

-- the targets that are left
abbrev pub rest_of : Targets → List ℤ
rest_of s = drop s.next (targets s.code.bytes.now s.placed)
