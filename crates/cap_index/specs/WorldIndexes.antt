-- What the target indexes of methods are.
use Rattle.std.specs.Prelude.{◌≡◌, ℕ, List, Option, Some, None, true, false, length, slice_get, take, count_by}
use Rattle.cap_bytes.specs.Spelling.{Stands}
use Rattle.cap_package.specs.PackageRecord.{PackageRecord}
use Rattle.jc_base.specs.declared.record.MethodRec.{MethodRec}
use Rattle.cap_index.specs.IndexFormat.{index_info}
use Rattle.cap_index.specs.Component.{index_in}
use Rattle.cap_index.specs.Indexes.{has_code, is_coded, indexes_of}

-- a package has a well-formed index: its info has the format for the methods with code of the package, and these lists
pub record HasIndex (ps : List PackageRecord) (methods : List MethodRec) (k : ℕ) (lists : List (List ℕ)) : Type 0 where
  pub record_of : PackageRecord
  pub is : slice_get ps k ≡ Some record_of
  pub info : List ℕ
  pub named : index_in record_of ≡ Some info
  pub formed : Stands (index_info (count_by (is_coded k) methods)) info lists

-- an index for each method: a method with code has that list of its package's index which stands at the method's position
-- among the methods with code of the package, and none where the package has no well-formed one; another method has none
pub record AreIndexes (ps : List PackageRecord) (methods : List MethodRec) (indexes : List (Option (List ℕ))) : Type 0 where
  pub each : length indexes ≡ length methods
  pub listed :
      (n : ℕ) (m : MethodRec) (lists : List (List ℕ))
      → slice_get methods n ≡ Some m
      → has_code m ≡ true
      → HasIndex ps methods m.package lists
      → (places : List ℕ)
      × (slice_get lists (count_by (is_coded m.package) (take n methods)) ≡ Some places)
      × (slice_get indexes n ≡ Some (Some places))
  pub none :
      (n : ℕ) (m : MethodRec)
      → slice_get methods n ≡ Some m
      → ((lists : List (List ℕ)) → ¬ (HasIndex ps methods m.package lists))
      → slice_get indexes n ≡ Some None
  pub bare : (n : ℕ) (m : MethodRec) → slice_get methods n ≡ Some m → has_code m ≡ false → slice_get indexes n ≡ Some None

-- what `indexes` makes of packages and methods
abbrev pub IndexesAre : Type 0
IndexesAre = (ps : List PackageRecord) (methods : List MethodRec) → AreIndexes ps methods (indexes_of ps methods)
