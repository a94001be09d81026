-- What is at fault in the folder of a package, and the line that says it.
use Rattle.std.specs.Prelude.{ℕ, List}
use Rattle.cap_components.specs.declared.fault.PackFault.{PackFault}
use Rattle.cap_text.specs.Line.{malformed_line, malformed_stream_line}
use Rattle.capcheck_core.specs.declared.load.FolderFault.{FolderFault}
use Rattle.capcheck_core.specs.declared.load.FolderFault.TheVariants.{Pack, Stream}

-- it is one of the parts, of which this is true
abbrev pub OfPack : (PackFault → Type 0) → FolderFault → Type 0
OfPack P (Pack fault) = P fault
OfPack P (Stream fault) = ⊥

-- the line for the package of a number
abbrev pub folder_fault_line : ℕ → FolderFault → List ℕ
folder_fault_line number (Pack fault) = malformed_line number fault
folder_fault_line number (Stream fault) = malformed_stream_line number fault
