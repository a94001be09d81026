-- Packages and roles make one world at most, and where they make one no condition is broken.
use Rattle.std.proofs.Common.{◌≡◌, ℕ, ◌≤◌, Bool, List, [], length, Some, None, refl, arith}
use Rattle.std.specs.Prelude.{◌||◌, ◌==◌, nat_lt, if◌then◌else◌, min}
use Rattle.std.specs.Option.{option_to_list}
use Rattle.std.proofs.lemmas.Bool.{ltb-false}
use Rattle.cap_package.specs.PackageRecord.{PackageRecord}
use Rattle.jc_base.specs.World.{Linked}
use Rattle.jc_resolve.specs.declared.fault.LinkFault.{LinkFault}
use Rattle.jc_resolve.specs.declared.fault.LinkFault.TheVariants.{TooManyPackages}
use Rattle.jc_resolve.specs.Fault.{link_place}
use Rattle.first_fault.specs.First.{IsFirst}
use Rattle.first_fault.proofs.FirstTold.{none_first}
use Rattle.jc_link.specs.World.{conditions, IsLinked}

pub linked_faultless : (ps : List PackageRecord) (roles : List ℕ) (w : Linked) (f : LinkFault) → IsLinked ps roles w
    → IsFirst link_place (conditions ps roles) f → ⊥
linked_faultless ps roles w f l first = none_first link_place (conditions ps roles) f l.faultless first

few : (n : ℕ) (fault : LinkFault) (a b : Bool) → nat_lt 16 n ≡ b → option_to_list (if a || b then Some fault else None) ≡ [] → n ≤ 16
few n fault z b is none = grind (arith, ltb-false)

-- a world has at most 16 packages
pub linked_few : (ps : List PackageRecord) (roles : List ℕ) (w : Linked) → IsLinked ps roles w → length ps ≤ 16
linked_few ps roles w l = few (length ps) (TooManyPackages (min (length ps) 4294967295)) (length ps == 0) (nat_lt 16 (length ps)) refl l.faultless.0

pub one_world : (ps : List PackageRecord) (roles : List ℕ) (w v : Linked) → IsLinked ps roles w → IsLinked ps roles v → w ≡ v
one_world ps roles w v l m = grind (arith)
