-- Which fault is named, in the subject's words: the conditions stand in the order of their numbers, each with the list
-- of the things that break it; the first list that is not empty tells the fault, and the least thing in it is named.
use Rattle.std.specs.Prelude.{◌≡◌, ℕ, ◌⊎◌, List, [], ◌∷◌, ◌++◌, length, Result, Ok, Err, map}
use Rattle.std.specs.Option.{option_to_list}
use Rattle.first_fault.specs.First.{at_fault, IsLeast, IsFirst, AllEmpty}
use Rattle.cap_frame.specs.AppletFormat.{Applet}
use Rattle.cap_frame.specs.DirectoryFormat.{DirectoryItems}
use Rattle.cap_pool.specs.ExportFormat.{Exported}
use Rattle.cap_desc.specs.DescriptorFormat as described
use Rattle.cap_desc.specs.Members.{methods_of}
use Rattle.cap_components.specs.declared.fault.CountKind.{CountKind}
use Rattle.cap_components.specs.declared.fault.CountKind.TheVariants.{Imports, Applets, ImageSize, InitialArrays, ArrayBytes}
use Rattle.cap_components.specs.declared.fault.CountKind.TheVariants.{PoolTypes, ImageSegments}
use Rattle.cap_components.specs.declared.fault.PackFault.{PackFault}
use Rattle.cap_components.specs.Parts.{Lent}
use Rattle.cap_components.specs.Order.{pack_place}
use Rattle.cap_package.specs.Pairs.{pairs}
use Rattle.cap_components.specs.Components.{read_directory}
use Rattle.cap_components.specs.PackageRecord.{PackageRecord, described_methods, interface_methods, fields}
use Rattle.cap_components.specs.Saying.{AreSaid, IsFirstFailingPart}
use Rattle.cap_components.specs.PartChecks.{required, optional, absent_fault, sized_fault, form_fault, size_fault, components, custom_tags}
use Rattle.cap_package.specs.MethodChecks.{overlap_pair, outside_fault}
use Rattle.cap_package.specs.HeaderChecks.{registers_fault, length_fault, arguments_fault, abstract_fault}
use Rattle.cap_package.specs.HandlerChecks.{numbered_fault, claim_fault}
use Rattle.std.specs.List.{enumerate_from}
use Rattle.cap_package.specs.StaticChecks.{share_pair, image_fault, array_kinds, filled_fault, is_static_at, no_static_fault}
use Rattle.cap_package.specs.NameChecks.{is_method_at, no_method_fault, no_entry_fault, table_entries, exported_methods, exported_fields}
use Rattle.cap_package.specs.NameChecks.{undescribed_fault, undescribed_class_fault, not_own_fault}
use Rattle.cap_package.specs.TypeChecks.{field_type_fault, method_type_fault}
use Rattle.cap_package.specs.CountChecks.{differ, array_bytes, image_bytes, instance_fault, count_if}
use Rattle.cap_package.specs.Agreement.{or_none}

-- ---- the conditions, as lists of what breaks them

abbrev pub missing_parts : List Lent → Result DirectoryItems PackFault → List PackFault
missing_parts parts (Err fault) = at_fault (absent_fault parts) required
missing_parts parts (Ok d) =
    (at_fault (absent_fault parts) required ++ at_fault (sized_fault parts d) optional)
    ++ at_fault (sized_fault parts d) (custom_tags d)

abbrev pub disagreements : CountKind → ℕ → ℕ → List PackFault
disagreements what said found = option_to_list (differ what said found)

abbrev pub place_lists : PackageRecord → List (List PackFault)
place_lists p =
    -- the Directory's sizes
    (at_fault (size_fault p.parts p.directory) components ++ at_fault (size_fault p.parts p.directory) (custom_tags p.directory))
    -- methods that share a byte, and those that lie outside
    ∷ at_fault (overlap_pair p.methods.info) (pairs (described_methods p))
    ∷ at_fault (outside_fault p.methods.info (length p.methods.handlers)) (described_methods p)
    ∷ []

abbrev pub count_lists : PackageRecord → List (List PackFault)
count_lists p =
    -- numbers that two components tell
    disagreements Imports p.directory.import_count (length p.imports)
    ∷ disagreements Applets p.directory.applet_count (count_if p.applets)
    ∷ disagreements ImageSize p.directory.image_size p.statics.image_size
    ∷ disagreements InitialArrays p.directory.array_init_count (length p.statics.arrays)
    ∷ disagreements ArrayBytes p.directory.array_init_size (array_bytes p.statics.arrays)
    ∷ disagreements PoolTypes (length p.description.items.pool_types) (length p.pool)
    ∷ at_fault (arguments_fault p.methods.info p.description) (described_methods p)
    ∷ at_fault (instance_fault p.classes p.description) p.description.items.classes
    ∷ disagreements ImageSegments p.statics.image_size (image_bytes p.statics)
    ∷ at_fault (abstract_fault p.methods.info) (described_methods p)
    ∷ []

abbrev pub member_lists : PackageRecord → List (List PackFault)
member_lists p =
    -- handlers
    (at_fault (numbered_fault p.methods.info (described_methods p)) (enumerate_from 0 p.methods.handlers)
    ++ at_fault (claim_fault (length p.methods.handlers)) (described_methods p))
    -- static fields that share a byte
    ∷ at_fault (share_pair p.description) (pairs (fields p))
    -- dispatch entries, exports and applets that name no method
    ∷ ((at_fault (no_entry_fault (is_method_at (described_methods p))) (table_entries p.classes)
    ++ at_fault (no_method_fault (is_method_at (described_methods p))) (exported_methods (or_none p.export)))
    ++ at_fault (no_method_fault (is_method_at (described_methods p))) (map (λ (a : Applet). a.install) (or_none p.applets)))
    -- classes that are not described once, and names of none
    ∷ ((at_fault (undescribed_fault p.description.items.classes) p.classes
    ++ at_fault (not_own_fault p.classes)
    (map (λ (d : described.ClassDescriptor). d.class_ref) p.description.items.classes))
    ++ at_fault (undescribed_class_fault p.classes) (map (λ (c : Exported). c.class_offset) (or_none p.export)))
    -- registers
    ∷ at_fault (registers_fault p.methods.info) (described_methods p)
    -- types
    ∷ ((at_fault (field_type_fault p.description) (fields p)
    ++ at_fault (method_type_fault p.description 510) (methods_of p.description.items.classes))
    ++ at_fault (method_type_fault p.description 254) (interface_methods p))
    -- static fields in the image
    ∷ (at_fault (image_fault p.statics p.description) (fields p)
    ++ at_fault (filled_fault (array_kinds p.statics.arrays) p.description) (fields p))
    -- lengths of code
    ∷ at_fault (length_fault p.methods.info) (described_methods p)
    -- exports that name no static field
    ∷ at_fault (no_static_fault (is_static_at (fields p))) (exported_fields (or_none p.export))
    ∷ []

abbrev pub conditions : PackageRecord → List (List PackFault)
conditions p = place_lists p ++ (count_lists p ++ member_lists p)

-- what is asked of the parts before their agreement: nothing is missing, and the custom components have their format
abbrev pub conditions_of : List Lent → PackageRecord → List (List PackFault)
conditions_of parts p = at_fault (form_fault parts) (custom_tags p.directory) ∷ conditions p

-- a package exactly where nothing is at fault; else the first that is: a part that is missing, the first component by tag
-- that breaks its format, or the first condition by number that is broken, at its least thing
abbrev pub Tells : List Lent → Result PackageRecord PackFault → Type 0
Tells parts (Ok p) = (missing_parts parts (read_directory parts) ≡ []) × AreSaid parts p × AllEmpty (conditions_of parts p)
Tells parts (Err fault) =
    IsLeast pack_place (missing_parts parts (read_directory parts)) fault
    ⊎ ((missing_parts parts (read_directory parts) ≡ [])
    × (IsFirstFailingPart parts fault ⊎ ((p : PackageRecord) × AreSaid parts p × IsFirst pack_place (conditions_of parts p) fault)))
