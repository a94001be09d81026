-- What packages that link name: each import exactly one package, each class reference exactly one class, and each pool entry exactly
-- one member (JCVM 2.2, sections 4.3.7.1, 6.6 and 6.7).
use Rattle.std.specs.Prelude.{◌≡◌, ◌≤◌, ◌<◌, ℕ, List, length, Some, slice_get}
use Rattle.cap_bytes.specs.ClassReference.{reference_of}
use Rattle.cap_frame.specs.PackageFormat.{Package}
use Rattle.cap_package.specs.PackageRecord.{PackageRecord, aid, minor, major}
use Rattle.jc_base.specs.World.{Linked}
use Rattle.jc_resolve.specs.Conditions.{class_references}
use Rattle.jc_resolve.specs.Numbering.{numbered_classes}
use Rattle.jc_resolve.specs.References.{import_of, Refers}
use Rattle.jc_link.specs.Naming.{HaveNamedMembers}
use Rattle.jc_link.specs.World.{IsLinked}

-- a number of which something holds, and of no other
pub record IsOnly (P : ℕ → Type 0) (n : ℕ) : Type 0 where
  pub is : P n
  pub only : (other : ℕ) → P other → other ≡ n

-- a package is what an import asks for: the identifier, the major version, and a minor version at least as great
pub record IsAskedFor (asked : Package) (p : PackageRecord) : Type 0 where
  pub identifier : aid p ≡ asked.aid
  pub same_major : major p ≡ asked.major
  pub enough : asked.minor ≤ minor p

-- the package of a number is what an import asks for
pub record IsMetBy (ps : List PackageRecord) (asked : Package) (j : ℕ) : Type 0 where
  pub found : PackageRecord
  pub there : slice_get ps j ≡ Some found
  pub meets : IsAskedFor asked found

-- an import of the package k is met by the package j: the first of the earlier ones that it asks for
pub record NamesPackage (ps : List PackageRecord) (k : ℕ) (asked : Package) (j : ℕ) : Type 0 where
  pub earlier : j < k
  pub met : IsMetBy ps asked j
  pub first : (i : ℕ) → i < j → ¬ (IsMetBy ps asked i)

abbrev pub ImportsNameOne : List PackageRecord → Type 0
ImportsNameOne ps =
    (k token : ℕ) (asked : Package) → import_of ps k token ≡ Some asked → (j : ℕ) × IsOnly (NamesPackage ps k asked) j

-- of the class references of a package in their order
abbrev pub ReferencesNameOne : List PackageRecord → Type 0
ReferencesNameOne ps =
    (k n reference : ℕ) (p : PackageRecord)
    → slice_get ps k ≡ Some p
    → slice_get (class_references p) n ≡ Some reference
    → (c : ℕ) × (c < length (numbered_classes ps)) × IsOnly (Refers ps k (reference_of reference)) c

-- and the member of an entry is the one that the world has for it
pub record NamesOneEach (ps : List PackageRecord) (w : Linked) : Type 0 where
  pub imports : ImportsNameOne ps
  pub references : ReferencesNameOne ps
  pub entries : HaveNamedMembers ps w.classes w.statics w.pools

-- so it is in every world that packages make
abbrev pub LinkedNamesAreOne : Type 0
LinkedNamesAreOne = (ps : List PackageRecord) (roles : List ℕ) (w : Linked) → IsLinked ps roles w → NamesOneEach ps w
