use Rattle.std.proofs.Common.{◌≡◌, List, ◌++◌, length}
use Rattle.cap_components.specs.Parts.{Lent}
use Rattle.cap_load.specs.LoadFile.{files_of, AreFiles}
use Rattle.cap_load.proofs.loader.parts_of.Given as goal

abbrev pub invariant-parts : goal.invariant-parts
invariant-parts l = (left : List Lent) × (l.rest ≡ files_of left) × AreFiles l.contents (l.parts ++ left)

abbrev pub decreases-parts : goal.decreases-parts
decreases-parts l = length l.rest
