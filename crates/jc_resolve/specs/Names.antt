-- The names of packages: their classes and methods by number, or the first condition that is broken.
use Rattle.std.specs.Prelude.{◌≡◌, ℕ, List, Result, Ok, Err, slice_index, All, ⊤}
use Rattle.cap_package.specs.PackageRecord.{PackageRecord}
use Rattle.jc_base.specs.declared.record.MethodRec.{MethodRec}
use Rattle.jc_resolve.specs.declared.fault.LinkFault.{LinkFault}
use Rattle.jc_resolve.specs.declared.fault.LinkEnd.{LinkEnd}
use Rattle.jc_resolve.specs.declared.fault.LinkEnd.TheVariants.{Fault, Memory}
use Rattle.jc_resolve.specs.declared.naming.NamedClass.{NamedClass}
use Rattle.jc_resolve.specs.declared.field_records.PackageFields.{PackageFields}
use Rattle.jc_resolve.specs.declared.naming.Records.{Records}
use Rattle.jc_resolve.specs.Fault.{link_place}
use Rattle.jc_resolve.specs.Named.{IsAgreed}
use Rattle.first_fault.specs.Least.{◌>>=◌, refused, least_of}
use Rattle.first_fault.specs.First.{IsFirst, AllEmpty}
use Rattle.jc_resolve.specs.NamedClasses.{named_classes}
use Rattle.jc_resolve.specs.NamedMethods.{named_methods}
use Rattle.jc_resolve.specs.TypedFields.{fields_after}
use Rattle.jc_resolve.specs.Conditions.{packages_fault, classes_fault, methods_fault, no_package_fault, no_class_fault, named_in}
use Rattle.jc_resolve.specs.Conditions.{import_tokens, class_references, conditions}

-- packages and the roles of classes, with the classes and methods of all packages by number
pub record NamesRecord : Type 0 where
  pub packages : List PackageRecord
  pub roles : List ℕ
  pub classes : List NamedClass
  pub methods : List MethodRec

-- role 0 is the number of class object
abbrev pub named : List PackageRecord → List ℕ → NamesRecord
named ps roles = record { packages = ps; roles = roles; classes = named_classes ps (slice_index roles 0); methods = named_methods ps roles }

-- names are those of their packages
pub record AreNames (n : NamesRecord) : Type 0 where
  pub classes_are : n.classes ≡ named_classes n.packages (slice_index n.roles 0)
  pub methods_are : n.methods ≡ named_methods n.packages n.roles
  -- the parts of each package stand for it
  pub agreed : All IsAgreed n.packages

-- names with the fields of their packages
pub record HaveFields (n : NamesRecord) (fields : List PackageFields) : Type 0 where
  pub names : AreNames n
  pub fields_are : fields ≡ fields_after n.packages (slice_index n.roles 0) 0 n.packages

-- the conditions one after the other: those under which classes and methods can be numbered, and then class references
unfoldable pub indexable : List PackageRecord → Result (Unit {0}) LinkFault
indexable ps = do
  packages ← refused (packages_fault ps)
  classes ← refused (classes_fault ps)
  methods ← refused (methods_fault ps)
  refused (least_of link_place (no_package_fault ps) (named_in import_tokens ps))

unfoldable pub checked : List PackageRecord → Result (Unit {0}) LinkFault
checked ps = do
  numbers ← indexable ps
  refused (least_of link_place (no_class_fault ps) (named_in class_references ps))

-- the names of packages, or the fault that is named
unfoldable pub names_of : List PackageRecord → List ℕ → Result NamesRecord LinkFault
names_of ps roles = checked ps >>= λ done. Ok (named ps roles)

-- the packages can be numbered, or a fault of them is named, or there is no memory
abbrev pub IsIndexed : List PackageRecord → Result (List PackageRecord) LinkEnd → Type 0
IsIndexed ps (Ok qs) = (indexable ps ≡ Ok (tt {0})) × (qs ≡ ps)
IsIndexed ps (Err (Fault fault)) = indexable ps ≡ Err fault
IsIndexed ps (Err Memory) = ⊤

-- each class reference leads to a class, or the least fault is named, or there is no memory
abbrev pub TellsReferences : {A : Type 0} → List PackageRecord → Result A LinkEnd → Type 0
TellsReferences ps (Ok x) = refused (least_of link_place (no_class_fault ps) (named_in class_references ps)) ≡ Ok (tt {0})
TellsReferences ps (Err (Fault fault)) = refused (least_of link_place (no_class_fault ps) (named_in class_references ps)) ≡ Err fault
TellsReferences ps (Err Memory) = ⊤

-- the records of packages, with their fields
abbrev pub HaveRecords : List PackageRecord → List ℕ → Records → Type 0
HaveRecords ps roles x =
    HaveFields
    (record { packages = ps; roles = roles; classes = x.classes.items; methods = x.methods.items })
    x.fields.items

-- names exactly where nothing is at fault; else the first condition by number that is broken, at its least thing
abbrev pub TellsNames : List PackageRecord → Result NamesRecord LinkEnd → Type 0
TellsNames ps (Ok names) = AllEmpty (conditions ps)
TellsNames ps (Err (Fault fault)) = IsFirst link_place (conditions ps) fault
TellsNames ps (Err Memory) = ⊤
