-- Which package a list of parts stands for (JCVM 2.2, chapter 6): each component's file is by the format of its info, and
-- nothing is at fault.
use Rattle.std.specs.Prelude.{◌≡◌, List, []}
use Rattle.cap_components.specs.Parts.{Lent}
use Rattle.cap_components.specs.Components.{read_directory}
use Rattle.cap_components.specs.PackageRecord.{PackageRecord}
use Rattle.cap_components.specs.Saying.{AreSaid}
use Rattle.first_fault.specs.First.{AllEmpty}
use Rattle.cap_package.specs.FirstFault.{conditions_of, missing_parts}

-- the parts stand for the package
pub record StandsFor (parts : List Lent) (p : PackageRecord) : Type 0 where
  pub said : AreSaid parts p
  pub missing : missing_parts parts (read_directory parts) ≡ []
  pub agree : AllEmpty (conditions_of parts p)

-- parts that stand for a package
pub record HavePackage (parts : List Lent) : Type 0 where
  pub made : PackageRecord
  pub stands : StandsFor parts made
