-- The conditions under which the parts of a package agree, by name.
use Rattle.std.proofs.Common.{arith}
use Rattle.std.proofs.Common.{◌≡◌, ◌++◌, List, [], length, map}
use Rattle.cap_frame.specs.AppletFormat.{Applet}
use Rattle.cap_pool.specs.ExportFormat.{Exported}
use Rattle.cap_desc.specs.DescriptorFormat as described
use Rattle.cap_desc.specs.Members.{methods_of}
use Rattle.cap_components.specs.Parts.{Lent}
use Rattle.cap_components.specs.PackageRecord.{PackageRecord, described_methods, interface_methods, fields}
use Rattle.cap_components.specs.PartChecks.{form_fault, size_fault, components, custom_tags}
use Rattle.first_fault.specs.First.{at_fault, AllEmpty}
use Rattle.cap_package.specs.Pairs.{pairs}
use Rattle.cap_package.specs.MethodChecks.{overlap_pair, outside_fault}
use Rattle.cap_package.specs.HeaderChecks.{registers_fault, length_fault, arguments_fault, abstract_fault}
use Rattle.cap_package.specs.HandlerChecks.{numbered_fault, claim_fault}
use Rattle.std.specs.List.{enumerate_from}
use Rattle.cap_package.specs.StaticChecks.{share_pair, image_fault, array_kinds, filled_fault, is_static_at, no_static_fault}
use Rattle.cap_package.specs.NameChecks.{is_method_at, no_method_fault, no_entry_fault, table_entries, exported_methods, exported_fields, undescribed_fault}
use Rattle.cap_package.specs.NameChecks.{undescribed_class_fault, not_own_fault}
use Rattle.cap_package.specs.TypeChecks.{field_type_fault, method_type_fault}
use Rattle.cap_package.specs.CountChecks.{array_bytes, image_bytes, instance_fault, count_if}
use Rattle.cap_package.specs.Agreement.{or_none}
use Rattle.cap_components.specs.declared.fault.CountKind.TheVariants.{Imports, Applets, ImageSize, InitialArrays, ArrayBytes, PoolTypes, ImageSegments}
use Rattle.cap_package.specs.FirstFault.{conditions_of, count_lists, member_lists, disagreements}

-- nothing is at fault under any condition
pub record Agrees (parts : List Lent) (p : PackageRecord) : Type 0 where
  pub forms : at_fault (form_fault parts) (custom_tags p.directory) ≡ []
  pub sizes : at_fault (size_fault p.parts p.directory) components ++ at_fault (size_fault p.parts p.directory) (custom_tags p.directory) ≡ []
  pub overlaps : at_fault (overlap_pair p.methods.info) (pairs (described_methods p)) ≡ []
  pub outside : at_fault (outside_fault p.methods.info (length p.methods.handlers)) (described_methods p) ≡ []
  pub imports : disagreements Imports p.directory.import_count (length p.imports) ≡ []
  pub applets : disagreements Applets p.directory.applet_count (count_if p.applets) ≡ []
  pub image : disagreements ImageSize p.directory.image_size p.statics.image_size ≡ []
  pub arrays : disagreements InitialArrays p.directory.array_init_count (length p.statics.arrays) ≡ []
  pub array_sizes : disagreements ArrayBytes p.directory.array_init_size (array_bytes p.statics.arrays) ≡ []
  pub pool : disagreements PoolTypes (length p.description.items.pool_types) (length p.pool) ≡ []
  pub arguments : at_fault (arguments_fault p.methods.info p.description) (described_methods p) ≡ []
  pub instances : at_fault (instance_fault p.classes p.description) p.description.items.classes ≡ []
  pub image_sum : disagreements ImageSegments p.statics.image_size (image_bytes p.statics) ≡ []
  pub bare : at_fault (abstract_fault p.methods.info) (described_methods p) ≡ []
  pub handlers : at_fault (numbered_fault p.methods.info (described_methods p)) (enumerate_from 0 p.methods.handlers)
      ++ at_fault (claim_fault (length p.methods.handlers)) (described_methods p) ≡ []
  pub statics : at_fault (share_pair p.description) (pairs (fields p)) ≡ []
  pub names : (at_fault (no_entry_fault (is_method_at (described_methods p))) (table_entries p.classes)
      ++ at_fault (no_method_fault (is_method_at (described_methods p))) (exported_methods (or_none p.export)))
      ++ at_fault (no_method_fault (is_method_at (described_methods p))) (map (λ (a : Applet). a.install) (or_none p.applets)) ≡ []
  pub classes : (at_fault (undescribed_fault p.description.items.classes) p.classes
      ++ at_fault (not_own_fault p.classes) (map (λ (d : described.ClassDescriptor). d.class_ref) p.description.items.classes))
      ++ at_fault (undescribed_class_fault p.classes) (map (λ (c : Exported). c.class_offset) (or_none p.export)) ≡ []
  pub registers : at_fault (registers_fault p.methods.info) (described_methods p) ≡ []
  pub types : (at_fault (field_type_fault p.description) (fields p)
      ++ at_fault (method_type_fault p.description 510) (methods_of p.description.items.classes))
      ++ at_fault (method_type_fault p.description 254) (interface_methods p) ≡ []
  pub places : at_fault (image_fault p.statics p.description) (fields p)
      ++ at_fault (filled_fault (array_kinds p.statics.arrays) p.description) (fields p) ≡ []
  pub lengths : at_fault (length_fault p.methods.info) (described_methods p) ≡ []
  pub exports : at_fault (no_static_fault (is_static_at (fields p))) (exported_fields (or_none p.export)) ≡ []

pub agrees : (parts : List Lent) (p : PackageRecord) → AllEmpty (conditions_of parts p) → Agrees parts p
agrees parts p (forms, (sizes, (overlaps, (outside, others)))) = by_counts others
  where
    by_counts : AllEmpty (count_lists p ++ member_lists p) → Agrees parts p
    by_counts (imports, (applets, (image, (arrays, (array_sizes, (pool, (arguments, (instances, (image_sum, (bare, others)))))))))) = by_members others
      where
        by_members : AllEmpty (member_lists p) → Agrees parts p
        by_members (handlers, (statics, (names, (classes, (registers, (types, (places, (lengths, (exports, done))))))))) =
            record {
              forms = forms;
              sizes = sizes;
              overlaps = overlaps;
              outside = outside;
              imports = imports;
              applets = applets;
              image = image;
              arrays = arrays;
              array_sizes = array_sizes;
              pool = pool;
              arguments = arguments;
              instances = instances;
              image_sum = image_sum;
              bare = bare;
              handlers = handlers;
              statics = statics;
              names = names;
              classes = classes;
              registers = registers;
              types = types;
              places = places;
              lengths = lengths;
              exports = exports;
            }

pub agreed : (parts : List Lent) (p : PackageRecord) → Agrees parts p → AllEmpty (conditions_of parts p)
agreed parts p a = grind (arith)
