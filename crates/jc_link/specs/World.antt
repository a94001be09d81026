-- The world that packages and the roles of classes make (JCVM 2.2, chapters 4 and 6): each class
-- reference, import and pool entry replaced by the one class, package or member that it names,
-- where none of the conditions on linking is broken.
use Rattle.std.specs.Prelude.{◌≡◌, ℕ, List, [], ◌∷◌, ◌++◌, length, Result, Ok, Err, slice_index}
use Rattle.std.specs.Option.{option_to_list}
use Rattle.cap_package.specs.PackageRecord.{PackageRecord}
use Rattle.jc_base.specs.declared.record.MethodRec.{MethodRec}
use Rattle.jc_base.specs.declared.record.StaticRec.{StaticRec}
use Rattle.jc_base.specs.Class.{ClassTable}
use Rattle.jc_base.specs.World.{Linked}
use Rattle.jc_resolve.specs.declared.fault.LinkFault.{LinkFault}
use Rattle.jc_resolve.specs.declared.fault.LinkEnd.{LinkEnd}
use Rattle.jc_resolve.specs.declared.fault.LinkEnd.TheVariants.{Fault, Memory}
use Rattle.jc_resolve.specs.declared.naming.NamedClass.{NamedClass}
use Rattle.jc_resolve.specs.Fault.{link_place}
use Rattle.first_fault.specs.First.{IsFirst, AllEmpty}
use Rattle.jc_resolve.specs.NamedClasses.{named_classes}
use Rattle.jc_resolve.specs.NamedMethods.{named_methods}
use Rattle.jc_resolve.specs.WorldTypes.{type_of}
use Rattle.jc_resolve.specs.Named.{infos_of}
use Rattle.jc_resolve.specs.Conditions as names
use Rattle.jc_classes.specs.LineConditions as lineage
use Rattle.jc_classes.specs.Outline.{LineTable, outline}
use Rattle.jc_classes.specs.TableConditions as classes
use Rattle.jc_classes.specs.Tables.{class_tables}
use Rattle.jc_link.specs.Arrays.{array_records}
use Rattle.jc_link.specs.Statics.{static_records}
use Rattle.cap_index.specs.Indexes.{indexes_of}
use Rattle.jc_link.specs.Room.{statics_fault, arrays_fault}
use Rattle.jc_link.specs.Pools.{pools, missing_members}
use Rattle.jc_link.specs.Catches.{bad_catches}
use Rattle.jc_link.specs.Roles.{abstract_roles}

-- ---- the lists of the world; a role is the number of a class, role 0 that of class object

abbrev pub classes_of : List PackageRecord → List ℕ → List NamedClass
classes_of ps roles = named_classes ps (slice_index roles 0)

-- the lines of the classes, and the classes with their dispatch lists and cells
abbrev pub lineage_of : List PackageRecord → List ℕ → LineTable
lineage_of ps roles = outline (classes_of ps roles) roles

abbrev pub table_of : List PackageRecord → List ℕ → ClassTable
table_of ps roles = class_tables (lineage_of ps roles) (classes_of ps roles)

abbrev pub methods_of : List PackageRecord → List ℕ → List MethodRec
methods_of = named_methods

abbrev pub statics_of : List PackageRecord → List ℕ → List StaticRec
statics_of ps roles = static_records (type_of ps (slice_index roles 0)) ps

-- a world is that of packages and roles
pub record AreListsOf (ps : List PackageRecord) (roles : List ℕ) (w : Linked) : Type 0 where
  pub infos : w.infos ≡ infos_of ps
  -- of each pool entry the one member that it names
  pub pools : w.pools ≡ pools ps (table_of ps roles) (statics_of ps roles)
  pub classes : w.classes ≡ table_of ps roles
  pub methods : w.methods ≡ methods_of ps roles
  pub statics : w.statics ≡ statics_of ps roles
  pub arrays : w.arrays ≡ array_records ps
  -- of each method its list of the target index of its package
  pub indexes : w.indexes ≡ indexes_of ps (methods_of ps roles)

-- ---- what breaks the conditions, in the order of their numbers

-- how many classes the first package has
abbrev pub first_classes : List PackageRecord → ℕ
first_classes [] = 0
first_classes (p ∷ ps) = length p.classes

-- those on classes, which a table of classes meets
abbrev pub class_conditions : List PackageRecord → List ℕ → List (List LinkFault)
class_conditions ps roles =
    -- superclasses, roles and interfaces
    lineage.conditions (classes_of ps roles) (first_classes ps) roles
    -- dispatch lists and instances
    ++ classes.conditions (lineage_of ps roles) (classes_of ps roles) (methods_of ps roles)

abbrev pub table_conditions : List PackageRecord → List ℕ → List (List LinkFault)
table_conditions ps roles =
    -- numbers, imports and class references
    names.conditions ps
    ++ class_conditions ps roles

-- those on handlers, initial arrays and roles
abbrev pub rest_conditions : List PackageRecord → List ℕ → List (List LinkFault)
rest_conditions ps roles =
    -- handlers that catch no class below throwable
    bad_catches ps (table_of ps roles)
    -- initial arrays
    ∷ option_to_list (arrays_fault ps)
    -- roles whose class is abstract
    ∷ abstract_roles (table_of ps roles) (methods_of ps roles)
    ∷ []

-- those on what stands on the classes
abbrev pub member_conditions : List PackageRecord → List ℕ → List (List LinkFault)
member_conditions ps roles =
    -- static cells
    option_to_list (statics_fault ps)
    -- pool entries that do not have exactly one member
    ∷ missing_members ps (table_of ps roles) (statics_of ps roles)
    ∷ rest_conditions ps roles

abbrev pub conditions : List PackageRecord → List ℕ → List (List LinkFault)
conditions ps roles = table_conditions ps roles ++ member_conditions ps roles

-- an answer where nothing of these conditions is at fault; else the first condition by number that is broken, at its least thing
abbrev pub TellsFirst : {A : Type 0} → List (List LinkFault) → Result A LinkEnd → Type 0
TellsFirst lists (Ok x) = AllEmpty lists
TellsFirst lists (Err (Fault fault)) = IsFirst link_place lists fault
TellsFirst lists (Err Memory) = Unit {0}

-- ---- the definition

-- the table of the classes exactly where nothing is at fault with classes; else the first condition
-- by number that is broken, at its least thing
abbrev pub TableTells : List PackageRecord → List ℕ → Result ClassTable LinkEnd → Type 0
TableTells ps roles (Ok t) = (t ≡ table_of ps roles) × AllEmpty (table_conditions ps roles)
TableTells ps roles (Err (Fault fault)) = IsFirst link_place (table_conditions ps roles) fault
TableTells ps roles (Err Memory) = Unit {0}

-- packages and roles make this world
pub record IsLinked (ps : List PackageRecord) (roles : List ℕ) (w : Linked) : Type 0 where
  pub faultless : AllEmpty (conditions ps roles)
  pub lists : AreListsOf ps roles w

-- the world exactly where nothing is at fault; else the first condition by number that is broken, at its least thing
abbrev pub LinkTells : List PackageRecord → List ℕ → Result Linked LinkEnd → Type 0
LinkTells ps roles (Ok w) = IsLinked ps roles w
LinkTells ps roles (Err (Fault fault)) = IsFirst link_place (conditions ps roles) fault
LinkTells ps roles (Err Memory) = Unit {0}
