-- The class table of packages: each class with its dispatch lists, its cells and the interfaces
-- that it implements, each interface with those that it extends (JCVM 2.2, section 6.8).
use Rattle.std.specs.Prelude.{◌≡◌, ℕ, ◌+◌, List, [], ◌∷◌, All, length, filter_map, flat_map, Option, Result, Ok, Err}
use Rattle.jc_base.specs.declared.record.ClassRec.{ClassRec}
use Rattle.jc_base.specs.declared.record.MethodRec.{MethodRec}
use Rattle.jc_base.specs.Class.{ClassTable}
use Rattle.jc_classes.specs.Outline.{LineTable, object}
use Rattle.jc_base.specs.Linked.{AreLinkedClasses}
use Rattle.jc_resolve.specs.Named.{IsNamedClass}
use Rattle.jc_resolve.specs.declared.fault.LinkFault.{LinkFault}
use Rattle.jc_resolve.specs.declared.fault.LinkEnd.{LinkEnd}
use Rattle.jc_resolve.specs.declared.fault.LinkEnd.TheVariants.{Fault, Memory}
use Rattle.jc_resolve.specs.declared.naming.NamedClass.{NamedClass}
use Rattle.jc_resolve.specs.Fault.{link_place}
use Rattle.first_fault.specs.Least.{◌>>=◌, least_of, refused}
use Rattle.first_fault.specs.First.{IsFirst, AllEmpty}
use Rattle.jc_classes.specs.declared.overlay.ClassLayout.{ClassLayout}
use Rattle.jc_classes.specs.Layout.{class_layout}
use Rattle.jc_classes.specs.TableConditions.{hole_fault, entries_in, override_fault, replacements_in, interface_type_fault}
use Rattle.jc_classes.specs.TableConditions.{implementations_in, long_fault, class_numbers, conditions}

-- the methods of a dispatch list
abbrev pub methods_listed : List (Option ℕ) → List ℕ
methods_listed entries = filter_map (λ entry. entry) entries

-- a class with these lists and cells
unfoldable pub record_from : NamedClass → ClassLayout → ClassRec
record_from k l = record {
  «package» = k.«package»;
  interface = k.interface;
  parent = k.parent;
  cells = l.cells;
  own = k.own;
  implements = k.interfaces;
  public = methods_listed l.public;
  visible = methods_listed l.visible;
}

-- the records of classes whose numbers begin with c
abbrev pub records_from : LineTable → List NamedClass → ℕ → List NamedClass → List ClassRec
records_from t classes c [] = []
records_from t classes c (k ∷ ks) = record_from k (class_layout t classes c) ∷ records_from t classes (c + 1) ks

-- the table of classes with these lines
abbrev pub class_tables : LineTable → List NamedClass → ClassTable
class_tables t classes = record { records = records_from t classes 0 classes; roles = t.roles }

-- what is asked, in the order of the numbers
unfoldable pub classes_agree : LineTable → List NamedClass → List MethodRec → Result (Unit {0}) LinkFault
classes_agree t classes methods =
    refused (least_of link_place (hole_fault t methods) (flat_map (entries_in t classes) (class_numbers classes))) >>= λ _.
    (refused (least_of link_place (override_fault methods) (flat_map (replacements_in t classes) (class_numbers classes))) >>= λ _.
    (refused (least_of link_place (interface_type_fault methods) (flat_map (implementations_in t classes) (class_numbers classes))) >>=
    λ _.
    refused (least_of link_place (long_fault t classes) (class_numbers classes))))

-- the table, where they hold
unfoldable pub tables_of : LineTable → List NamedClass → List MethodRec → Result ClassTable LinkFault
tables_of t classes methods = classes_agree t classes methods >>= λ _. Ok (class_tables t classes)

-- the table exactly where nothing is at fault; else the first condition by number that is broken, at its least thing
abbrev pub TellsTable : LineTable → List NamedClass → List MethodRec → Result ClassTable LinkFault → Type 0
TellsTable t classes methods (Ok table) = (table ≡ class_tables t classes) × AllEmpty (conditions t classes methods)
TellsTable t classes methods (Err fault) = IsFirst link_place (conditions t classes methods) fault

-- the same of what linking ends with; out of memory tells nothing
abbrev pub TellsTableEnd : LineTable → List NamedClass → List MethodRec → Result ClassTable LinkEnd → Type 0
TellsTableEnd t classes methods (Ok table) = TellsTable t classes methods (Ok table)
TellsTableEnd t classes methods (Err (Fault fault)) = TellsTable t classes methods (Err fault)
TellsTableEnd t classes methods (Err Memory) = Unit {0}

-- in a world of so many packages, in which everything is a number, the table is what a world needs of its classes
abbrev pub Links : LineTable → List NamedClass → List MethodRec → ClassTable → Type 0
Links t classes methods table = (packages : ℕ)
    → All (IsNamedClass packages (length methods) classes (object t)) classes
    → AreLinkedClasses packages table methods
