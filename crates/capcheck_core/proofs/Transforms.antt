-- What is stored of a package that is transformed, and which method is named where it is not.
use Rattle.std.proofs.Common.{arith}
use Rattle.std.proofs.Common.{◌≡◌, ℕ, List, Option, Some, IsSome, option_map, slice_get, refl, sym, subst}
use Rattle.cap_files.specs.Folder.{Folders}
use Rattle.cap_package.specs.Parts.{Lent, held}
use Rattle.cap_package.specs.PackageRecord.{PackageRecord}
use Rattle.cap_package.specs.StandsFor.{StandsFor}
use Rattle.jc_base.specs.World.{Linked}
use Rattle.jc_control.specs.Method.{Method, IsMethodOf}
use Rattle.cap_text.specs.declared.line.MethodNumber.{MethodNumber}
use Rattle.xf_pack.specs.Transformed.{IsTransformed}
use Rattle.capcheck_core.specs.Stores.{AreInStoreOrder, IsBrokenOff, header_tag}
use Rattle.capcheck_core.specs.Transform.{roles_beside, IsBroughtInPart}
use Rattle.capcheck_core.specs.Typed.{numbers_of_method}
use Rattle.capcheck_core.proofs.Stores.{stored_in_part}

-- parts that stand for a package have its Header
pub has_header : (parts : List Lent) (p : PackageRecord) → StandsFor parts p → IsSome (held parts header_tag)
has_header parts p stands = subst IsSome (sym stands.said.header.1.there) refl

-- where the stores are broken off, the Header is the last of them
pub brought_in_part : (packages : List PackageRecord) (roles : List ℕ) (w : Linked) (out : List ℕ) (parts stores : List Lent) (given : Option (List ℕ))
    (before after : Folders) → IsTransformed packages roles w parts → AreInStoreOrder parts given stores → given ≡ roles_beside packages roles
    → IsBrokenOff out stores before after → IsBroughtInPart packages roles w out before after
brought_in_part packages roles w out parts stores given before after made order beside off =
    let ordered : AreInStoreOrder parts (roles_beside packages roles) stores = subst (λ r. AreInStoreOrder parts r stores) beside order in
    stored_in_part (IsTransformed packages roles w) (roles_beside packages roles) out parts stores before after made ordered off

-- ---- the method that is named

pub named : (w : Linked) (m : Method) (n : ℕ) (number : MethodNumber) → IsMethodOf w m → m.number ≡ n
    → option_map numbers_of_method (slice_get w.methods n) ≡ Some number → number ≡ numbers_of_method m.rec
named w m n number is e told = grind (arith, slice_get, option_map)
