-- The conditions under which the components of a package agree, in the order in which they are asked. Each is the least
-- fault of the things that it speaks of.
use Rattle.std.specs.Prelude.{◌≡◌, List, [], length, Option, Some, None, Result, Ok, map}
use Rattle.cap_frame.specs.AppletFormat.{Applet}
use Rattle.cap_pool.specs.ExportFormat.{Exported}
use Rattle.cap_desc.specs.DescriptorFormat as described
use Rattle.cap_desc.specs.Members.{methods_of}
use Rattle.cap_components.specs.declared.fault.CountKind.TheVariants.{Imports, Applets, ImageSize, InitialArrays, ArrayBytes}
use Rattle.cap_components.specs.declared.fault.CountKind.TheVariants.{PoolTypes, ImageSegments}
use Rattle.cap_components.specs.declared.fault.PackFault.{PackFault}
use Rattle.cap_components.specs.Parts.{Lent}
use Rattle.cap_components.specs.Order.{least_of, least_from, refused}
use Rattle.cap_package.specs.Pairs.{pairs}
use Rattle.cap_components.specs.Components.{◌>>=◌}
use Rattle.cap_components.specs.PackageRecord.{PackageRecord, described_methods, interface_methods, fields}
use Rattle.cap_components.specs.ReadPackage.{read_whole}
use Rattle.cap_components.specs.PartChecks.{form_fault, size_fault, components, custom_tags}
use Rattle.cap_package.specs.MethodChecks.{overlap_pair, outside_fault}
use Rattle.cap_package.specs.HeaderChecks.{registers_fault, length_fault, arguments_fault, abstract_fault}
use Rattle.cap_package.specs.HandlerChecks.{numbered_fault, claim_fault}
use Rattle.std.specs.List.{enumerate_from}
use Rattle.cap_package.specs.StaticChecks.{share_pair, image_fault, array_kinds, filled_fault, is_static_at, no_static_fault}
use Rattle.cap_package.specs.NameChecks.{is_method_at, no_method_fault, no_entry_fault, table_entries, exported_methods, exported_fields}
use Rattle.cap_package.specs.NameChecks.{undescribed_fault, undescribed_class_fault, not_own_fault}
use Rattle.cap_package.specs.TypeChecks.{field_type_fault, method_type_fault}
use Rattle.cap_package.specs.CountChecks.{differ, array_bytes, image_bytes, instance_fault, count_if}

abbrev pub or_none : {X : Type 0} → Option (List X) → List X
or_none None = []
or_none (Some xs) = xs

-- ---- parts and methods

abbrev pub size_condition : PackageRecord → Option PackFault
size_condition p = least_from (least_of (size_fault p.parts p.directory) components)
    (size_fault p.parts p.directory) (custom_tags p.directory)

abbrev pub overlap_condition : PackageRecord → Option PackFault
overlap_condition p = least_of (overlap_pair p.methods.info) (pairs (described_methods p))

abbrev pub outside_condition : PackageRecord → Option PackFault
outside_condition p = least_of (outside_fault p.methods.info (length p.methods.handlers)) (described_methods p)

-- ---- numbers

abbrev pub arguments_condition : PackageRecord → Option PackFault
arguments_condition p = least_of (arguments_fault p.methods.info p.description) (described_methods p)

abbrev pub instance_condition : PackageRecord → Option PackFault
instance_condition p = least_of (instance_fault p.classes p.description) p.description.items.classes

abbrev pub abstract_condition : PackageRecord → Option PackFault
abstract_condition p = least_of (abstract_fault p.methods.info) (described_methods p)

-- ---- members

abbrev pub handler_condition : PackageRecord → Option PackFault
handler_condition p =
    least_from (least_of (numbered_fault p.methods.info (described_methods p)) (enumerate_from 0 p.methods.handlers))
    (claim_fault (length p.methods.handlers)) (described_methods p)

abbrev pub static_condition : PackageRecord → Option PackFault
static_condition p = least_of (share_pair p.description) (pairs (fields p))

abbrev pub named_condition : PackageRecord → Option PackFault
named_condition p =
    least_from
    (least_from (least_of (no_entry_fault (is_method_at (described_methods p))) (table_entries p.classes))
    (no_method_fault (is_method_at (described_methods p))) (exported_methods (or_none p.export)))
    (no_method_fault (is_method_at (described_methods p))) (map (λ (a : Applet). a.install) (or_none p.applets))

abbrev pub class_condition : PackageRecord → Option PackFault
class_condition p =
    least_from
    (least_from (least_of (undescribed_fault p.description.items.classes) p.classes)
    (not_own_fault p.classes) (map (λ (d : described.ClassDescriptor). d.class_ref) p.description.items.classes))
    (undescribed_class_fault p.classes) (map (λ (c : Exported). c.class_offset) (or_none p.export))

abbrev pub register_condition : PackageRecord → Option PackFault
register_condition p = least_of (registers_fault p.methods.info) (described_methods p)

abbrev pub type_condition : PackageRecord → Option PackFault
type_condition p =
    least_from
    (least_from (least_of (field_type_fault p.description) (fields p)) (method_type_fault p.description 510)
    (methods_of p.description.items.classes))
    (method_type_fault p.description 254) (interface_methods p)

abbrev pub image_condition : PackageRecord → Option PackFault
image_condition p = least_from (least_of (image_fault p.statics p.description) (fields p))
    (filled_fault (array_kinds p.statics.arrays) p.description) (fields p)

abbrev pub length_condition : PackageRecord → Option PackFault
length_condition p = least_of (length_fault p.methods.info) (described_methods p)

abbrev pub export_condition : PackageRecord → Option PackFault
export_condition p = least_of (no_static_fault (is_static_at (fields p))) (exported_fields (or_none p.export))

-- ---- all

unfoldable pub places_agree : PackageRecord → Result (Unit {0}) PackFault
places_agree p = do
  sizes ← refused (size_condition p)
  overlaps ← refused (overlap_condition p)
  refused (outside_condition p)

unfoldable pub counts_agree : PackageRecord → Result (Unit {0}) PackFault
counts_agree p = do
  imports ← refused (differ Imports p.directory.import_count (length p.imports))
  applets ← refused (differ Applets p.directory.applet_count (count_if p.applets))
  image ← refused (differ ImageSize p.directory.image_size p.statics.image_size)
  arrays ← refused (differ InitialArrays p.directory.array_init_count (length p.statics.arrays))
  array_sizes ← refused (differ ArrayBytes p.directory.array_init_size (array_bytes p.statics.arrays))
  pool ← refused (differ PoolTypes (length p.description.items.pool_types) (length p.pool))
  arguments ← refused (arguments_condition p)
  instances ← refused (instance_condition p)
  sum ← refused (differ ImageSegments p.statics.image_size (image_bytes p.statics))
  refused (abstract_condition p)

unfoldable pub members_agree : PackageRecord → Result (Unit {0}) PackFault
members_agree p = do
  handlers ← refused (handler_condition p)
  statics ← refused (static_condition p)
  names ← refused (named_condition p)
  classes ← refused (class_condition p)
  registers ← refused (register_condition p)
  types ← refused (type_condition p)
  image ← refused (image_condition p)
  lengths ← refused (length_condition p)
  refused (export_condition p)

-- the package that the parts stand for, or the first fault
unfoldable pub package_from : List Lent → Result PackageRecord PackFault
package_from parts = do
  p ← read_whole parts
  customs ← refused (least_of (form_fault parts) (custom_tags p.directory))
  places ← places_agree p
  counts ← counts_agree p
  members ← members_agree p
  Ok p

-- a package is what its parts stand for
abbrev pub IsPackage : PackageRecord → Type 0
IsPackage p = package_from p.parts ≡ Ok p
