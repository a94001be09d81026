-- Classes and methods stand apart: at places of their own, and methods with numbers of their own (JCVM 2.2,
-- sections 6.8, 6.9 and 6.13).
use Rattle.std.specs.Prelude.{◌≡◌, ℕ, List, Some, slice_get}
use Rattle.cap_package.specs.PackageRecord.{PackageRecord}
use Rattle.jc_base.specs.declared.record.MethodRec.{MethodRec}
use Rattle.jc_resolve.specs.declared.fault.RecordPlace.{RecordPlace}
use Rattle.jc_resolve.specs.Numbering.{class_places, method_places}

pub record HaveOwnPlaces (ps : List PackageRecord) (methods : List MethodRec) : Type 0 where
  -- no two classes of a package stand at one offset
  pub classes :
      (c d : ℕ) (place : RecordPlace)
      → slice_get (class_places ps) c ≡ Some place
      → slice_get (class_places ps) d ≡ Some place
      → c ≡ d
  -- no two methods that stand in the Method component of a package stand at one offset
  pub headers :
      (m n : ℕ) (place : RecordPlace)
      → slice_get (method_places ps) m ≡ Some (Some place)
      → slice_get (method_places ps) n ≡ Some (Some place)
      → m ≡ n
  -- no two methods of a package have the same number of a class and the same number in that class
  pub numbers :
      (m n : ℕ) (a b : MethodRec)
      → slice_get methods m ≡ Some a
      → slice_get methods n ≡ Some b
      → a.«package» ≡ b.«package»
      → a.class_no ≡ b.class_no
      → a.method_no ≡ b.method_no
      → m ≡ n
