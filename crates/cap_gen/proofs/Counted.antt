-- The numbers, members and types of the generated package agree.
use Rattle.std.specs.Prelude.{◌≡◌, refl, ℕ, length, [], ◌++◌, map}
use Rattle.first_fault.specs.First.{at_fault}
use Rattle.cap_frame.specs.AppletFormat.{Applet}
use Rattle.cap_pool.specs.ExportFormat.{Exported}
use Rattle.cap_desc.specs.DescriptorFormat as described
use Rattle.cap_desc.specs.Members.{methods_of}
use Rattle.cap_desc.specs.TypeFormat.{types_in}
use Rattle.cap_components.specs.declared.fault.CountKind.TheVariants.{Imports, Applets, ImageSize, InitialArrays, ArrayBytes, PoolTypes, ImageSegments}
use Rattle.cap_components.specs.Descriptions.{argument_words, field_type}
use Rattle.cap_components.specs.PackageRecord.{described_methods, interface_methods, fields, names_interface}
use Rattle.cap_components.specs.PartChecks.{form_fault, custom_tags}
use Rattle.cap_package.specs.Pairs.{pairs}
use Rattle.cap_package.specs.Agreement.{or_none}
use Rattle.cap_package.specs.FirstFault.{disagreements}
use Rattle.cap_package.specs.StaticChecks.{share_pair, place_in, image_fault, array_kinds, filled_fault, kind_at, is_static_at, no_static_fault}
use Rattle.cap_package.specs.NameChecks.{is_method_at, no_method_fault, no_entry_fault, table_entries, exported_methods, exported_fields, undescribed_fault}
use Rattle.cap_package.specs.NameChecks.{undescribed_class_fault, not_own_fault}
use Rattle.cap_package.specs.TypeChecks.{field_type_fault, method_type_fault}
use Rattle.cap_package.specs.CountChecks.{differ, array_bytes, image_bytes, instance_fault, described_cells, count_if}
use Rattle.cap_gen.specs.Methods.{each_method}
use Rattle.cap_gen.specs.Described.{methods, described_bytes, descriptor_bytes}
use Rattle.cap_gen.specs.Generated.{generated_parts}
use Rattle.cap_gen.specs.Record.{package_record}

module _ (seed : ℕ) where
  pub no_customs : at_fault (form_fault (generated_parts seed)) (custom_tags (package_record seed).directory) ≡ []
  no_customs = refl

  pub imports_agree : disagreements Imports (package_record seed).directory.import_count (length (package_record seed).imports) ≡ []
  unfolding differ
  imports_agree = refl

  pub applets_agree : disagreements Applets (package_record seed).directory.applet_count (count_if (package_record seed).applets) ≡ []
  unfolding differ
  applets_agree = refl

  pub images_agree : disagreements ImageSize (package_record seed).directory.image_size (package_record seed).statics.image_size ≡ []
  unfolding differ
  images_agree = refl

  pub arrays_agree : disagreements InitialArrays (package_record seed).directory.array_init_count (length (package_record seed).statics.arrays) ≡ []
  unfolding differ
  arrays_agree = refl

  pub array_sizes_agree : disagreements ArrayBytes (package_record seed).directory.array_init_size (array_bytes (package_record seed).statics.arrays) ≡ []
  unfolding differ
  array_sizes_agree = refl

  pub pools_agree : disagreements PoolTypes (length (package_record seed).description.items.pool_types) (length (package_record seed).pool) ≡ []
  unfolding differ
  pools_agree = refl

  pub instances_agree : at_fault (instance_fault (package_record seed).classes (package_record seed).description)
      (package_record seed).description.items.classes ≡ []
  unfolding differ instance_fault described_cells field_type
  instances_agree = refl

  pub sums_agree : disagreements ImageSegments (package_record seed).statics.image_size (image_bytes (package_record seed).statics) ≡ []
  unfolding differ
  sums_agree = refl

  pub statics_apart : at_fault (share_pair (package_record seed).description) (pairs (fields (package_record seed))) ≡ []
  statics_apart = refl

  pub all_named : (at_fault (no_entry_fault (is_method_at (described_methods (package_record seed)))) (table_entries (package_record seed).classes)
      ++ at_fault (no_method_fault (is_method_at (described_methods (package_record seed)))) (exported_methods (or_none (package_record seed).export)))
      ++ at_fault (no_method_fault (is_method_at (described_methods (package_record seed))))
      (map (λ (a : Applet). a.install) (or_none (package_record seed).applets)) ≡ []
  all_named = refl

  pub all_described : (at_fault (undescribed_fault (package_record seed).description.items.classes) (package_record seed).classes
      ++ at_fault (not_own_fault (package_record seed).classes)
      (map (λ (d : described.ClassDescriptor). d.class_ref) (package_record seed).description.items.classes))
      ++ at_fault (undescribed_class_fault (package_record seed).classes) (map (λ (c : Exported). c.class_offset) (or_none (package_record seed).export))
      ≡ []
  unfolding undescribed_fault not_own_fault undescribed_class_fault
  all_described = refl

  pub all_typed : (at_fault (field_type_fault (package_record seed).description) (fields (package_record seed))
      ++ at_fault (method_type_fault (package_record seed).description 510) (methods_of (package_record seed).description.items.classes))
      ++ at_fault (method_type_fault (package_record seed).description 254) (interface_methods (package_record seed)) ≡ []
  unfolding each_method methods described_bytes descriptor_bytes field_type_fault field_type method_type_fault argument_words types_in names_interface
  all_typed = refl

  pub fields_inside : at_fault (image_fault (package_record seed).statics (package_record seed).description) (fields (package_record seed))
      ++ at_fault (filled_fault (array_kinds (package_record seed).statics.arrays) (package_record seed).description) (fields (package_record seed)) ≡ []
  unfolding image_fault place_in field_type filled_fault kind_at
  fields_inside = refl

  pub no_exports : at_fault (no_static_fault (is_static_at (fields (package_record seed)))) (exported_fields (or_none (package_record seed).export)) ≡ []
  no_exports = refl
