-- What two components count, by the number that tells it: the order in which the counts are compared.
use Rattle.std.specs.Prelude.{ℕ}
use Rattle.cap_components.specs.declared.fault.CountKind.{CountKind}
use Rattle.cap_components.specs.declared.fault.CountKind.TheVariants.{Imports, Applets, ImageSize, InitialArrays, ArrayBytes}
use Rattle.cap_components.specs.declared.fault.CountKind.TheVariants.{PoolTypes, ArgumentWords, InstanceCells, ImageSegments}
use Rattle.cap_components.specs.declared.fault.CountKind.TheVariants.{AbstractCode}

abbrev pub number_of_kind : CountKind → ℕ
number_of_kind Imports = 1
number_of_kind Applets = 2
number_of_kind ImageSize = 3
number_of_kind InitialArrays = 4
number_of_kind ArrayBytes = 5
number_of_kind PoolTypes = 6
number_of_kind ArgumentWords = 7
number_of_kind InstanceCells = 8
number_of_kind ImageSegments = 9
number_of_kind AbstractCode = 10
