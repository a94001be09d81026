-- Packages that are checked one by one, each against those that it may import.
use Rattle.std.specs.Prelude.{ℕ, ◌<◌, ◌≤◌, List, length, take, All}
use Rattle.cap_package.specs.PackageRecord.{PackageRecord}
use Rattle.jc_base.specs.declared.ty.Ty.TheVariants.{Top}
use Rattle.jc_base.specs.World.{Linked}
use Rattle.jc_control.specs.Asked.{AllHave, IsOfLast}
use Rattle.jc_resolve.specs.Named.{IsAgreed}
use Rattle.jc_rules.specs.Flow.{HasFlowTyping}
use Rattle.jc_link.specs.World.{IsLinked}
use Rattle.law_sound.specs.Soundness.{IsFaultFree}

-- the first k packages make a world, and each method with code of the last of them has a dataflow typing there, in which no unset
-- register may be read
pub record IsChecked (ps : List PackageRecord) (roles : List ℕ) (k : ℕ) : Type 0 where
  pub world : Linked
  pub linked : IsLinked (take k ps) roles world
  pub typed : AllHave (IsOfLast world) (λ m. HasFlowTyping world m Top)

-- so is each package, with those before it
abbrev pub AreCheckedOneByOne : List PackageRecord → List ℕ → Type 0
AreCheckedOneByOne ps roles = (k : ℕ) → 1 ≤ k → k ≤ length ps → IsChecked ps roles k

-- where each of the packages of a world is checked with those before it, no run in the world meets a fault
abbrev pub CheckedPackagesNeverFault : Linked → Type 0
CheckedPackagesNeverFault w =
    (ps : List PackageRecord) (roles : List ℕ)
    → 0 < length roles
    → All IsAgreed ps
    → IsLinked ps roles w
    → AreCheckedOneByOne ps roles
    → IsFaultFree w
