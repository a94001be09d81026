-- A table of numbers by places: of several things at one place it keeps the number of the first.
use Rattle.std.specs.Prelude.{◌≡◌, ℕ, ◌+◌, ◌≤◌, Bool, List, [], ◌∷◌, ◌++◌, length, map, Option, Some, None}
use Rattle.std.specs.Prelude.{fold, is_some, not, if◌then◌else◌}
use Rattle.std.specs.Map.{lookup}
use Rattle.indexmap.specs.IndexMap.{insert_entry}
use Rattle.cap_class.specs.ClassFormat.{Class, is_interface}
use Rattle.cap_desc.specs.DescriptorFormat as described
use Rattle.cap_pool.specs.ExportFormat.{Exported}
use Rattle.cap_package.specs.PackageRecord.{PackageRecord, names_interface}
use Rattle.cap_package.specs.Agreement.{or_none}
use Rattle.jc_resolve.specs.declared.fault.RecordPlace.{RecordPlace}
use Rattle.jc_resolve.specs.Numbering.{same_place}
use Rattle.jc_resolve.specs.Counts.{class_total, method_total}
use Rattle.jc_resolve.specs.Imports.{imports_met}

-- the numbers that are kept, and the next one
pub record Numbered : Type 0 where
  pub entries : List (RecordPlace × ℕ)
  pub next : ℕ

abbrev pub none_numbered : Numbered
none_numbered = record { entries = []; next = 0 }

-- the number at a place
abbrev pub number_by_place : List (RecordPlace × ℕ) → RecordPlace → Option ℕ
number_by_place entries place = lookup (same_place place) entries

unfoldable pub added_entry : List (RecordPlace × ℕ) → RecordPlace → ℕ → List (RecordPlace × ℕ)
added_entry entries place n = if is_some (number_by_place entries place) then entries else insert_entry same_place entries place n

-- the next thing is numbered, which stands at a place or at none
unfoldable pub with_next : Numbered → Option RecordPlace → Numbered
with_next t None = record { entries = t.entries; next = t.next + 1 }
with_next t (Some place) = record { entries = added_entry t.entries place t.next; next = t.next + 1 }

-- the things are numbered one after the other
abbrev pub with_all : Numbered → List (Option RecordPlace) → Numbered
with_all = fold with_next

-- ---- classes and methods as they are numbered

abbrev pub spot_of_class : ℕ → Class → Option RecordPlace
spot_of_class k c = Some (record { «package» = k; offset = c.offset })

abbrev pub class_spots : ℕ → List PackageRecord → List (Option RecordPlace)
class_spots k [] = []
class_spots k (p ∷ ps) = map (spot_of_class k) p.classes ++ class_spots (k + 1) ps

abbrev pub interface_flags : List PackageRecord → List Bool
interface_flags [] = []
interface_flags (p ∷ ps) = map (λ (c : Class). is_interface c.flags) p.classes ++ interface_flags ps

abbrev pub spot_of_method : ℕ → Bool → described.MethodDescriptor → Option RecordPlace
spot_of_method k placed m = if placed then Some (record { «package» = k; offset = m.method_offset }) else None

-- the methods of classes, some of which, by their references, are interfaces
abbrev pub spots_of_classes : ℕ → (ℕ → Bool) → List described.ClassDescriptor → List (Option RecordPlace)
spots_of_classes k interfaces [] = []
spots_of_classes k interfaces (c ∷ cs) =
    map (spot_of_method k (not (interfaces c.class_ref))) c.methods ++ spots_of_classes k interfaces cs

abbrev pub method_spots : ℕ → List PackageRecord → List (Option RecordPlace)
method_spots k [] = []
method_spots k (p ∷ ps) = spots_of_classes k (names_interface p.classes) p.description.items.classes ++ method_spots (k + 1) ps

-- what packages export, by package and by the tokens of the classes
abbrev pub exported_classes : List PackageRecord → List (List Exported)
exported_classes = map (λ (p : PackageRecord). or_none p.export)

-- the numbers and the flags of the classes and methods of packages, which are so few, what they export, and what meets
-- their imports
pub record AreIndexed (ps : List PackageRecord) (t : Numbered) (flags : List Bool) (m : Numbered)
    (exports : List (List Exported)) (met : List (List (Option ℕ))) : Type 0 where
  pub numbers : t ≡ with_all none_numbered (class_spots 0 ps)
  pub flags_are : flags ≡ interface_flags ps
  pub methods : m ≡ with_all none_numbered (method_spots 0 ps)
  pub exports_are : exports ≡ exported_classes ps
  pub imports : met ≡ imports_met ps
  pub few : class_total ps ≤ 4096
  pub few_methods : method_total ps ≤ 32768
  pub packages : length ps ≤ 16
