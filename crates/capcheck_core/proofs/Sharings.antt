-- What is stored of a package whose methods share registers.
use Rattle.std.proofs.Common.{arith}
use Rattle.std.proofs.Common.{◌≡◌, ℕ, List, Option, subst}
use Rattle.cap_files.specs.Folder.{Folders}
use Rattle.cap_package.specs.Parts.{Lent}
use Rattle.cap_package.specs.PackageRecord.{PackageRecord}
use Rattle.cap_text.specs.Shared.{shared_line}
use Rattle.jc_base.specs.World.{Linked}
use Rattle.xf_share.specs.Shared.{IsShared}
use Rattle.capcheck_core.specs.Share.{IsSharedInPart}
use Rattle.capcheck_core.specs.Stores.{AreInStoreOrder, IsBrokenOff}
use Rattle.capcheck_core.specs.Transform.{roles_beside}
use Rattle.capcheck_core.proofs.Stores.{stored_in_part}

-- where the stores are broken off, the Header is the last of them
pub shared_in_part : (packages : List PackageRecord) (roles : List ℕ) (w : Linked) (out : List ℕ) (parts stores : List Lent) (given : Option (List ℕ))
    (before after : Folders) → IsShared packages roles w parts → AreInStoreOrder parts given stores → given ≡ roles_beside packages roles
    → IsBrokenOff out stores before after → IsSharedInPart packages roles w out before after
shared_in_part packages roles w out parts stores given before after made order beside off =
    let ordered : AreInStoreOrder parts (roles_beside packages roles) stores = subst (λ r. AreInStoreOrder parts r stores) beside order in
    stored_in_part (IsShared packages roles w) (roles_beside packages roles) out parts stores before after made ordered off

-- the line by equal numbers
pub same_line : (count many before first after last : ℕ) → count ≡ many → before ≡ first → after ≡ last
    → shared_line count before after ≡ shared_line many first last
same_line count many before first after last counts begins ends = grind (arith)
