-- The parts that are generated stand for a package.
use Rattle.std.specs.Prelude.{◌≡◌, refl, ℕ, Ok, []}
use Rattle.cap_bytes.specs.Grammar.{table}
use Rattle.cap_bytes.specs.Reading.{reading}
use Rattle.cap_frame.specs.HeaderFormat.{version, magic, name_info}
use Rattle.cap_class.specs.ClassFormat.{record_info}
use Rattle.cap_components.specs.ReadPackage.{read_package, read_after}
use Rattle.cap_components.specs.Components.{read_part, info_in, read_if_held, read_methods, read_description, read_directory}
use Rattle.cap_components.specs.PartChecks.{absent_fault, sized_fault}
use Rattle.cap_package.specs.FirstFault.{missing_parts}
use Rattle.cap_package.specs.StandsFor.{StandsFor}
use Rattle.cap_gen.specs.Methods.{each_method, method_bytes, entry_table, method_info}
use Rattle.cap_gen.specs.Handlers.{entries}
use Rattle.cap_gen.specs.Described.{methods, described_bytes, descriptor_bytes, location_bytes}
use Rattle.cap_gen.specs.Generated.{generated_parts}
use Rattle.cap_gen.specs.Record.{package_record}
use Rattle.cap_components.proofs.Saying.{read-said}
use Rattle.cap_package.proofs.Agreed.{agreed}
use Rattle.cap_gen.proofs.Agreeing.{sizes_agree, inside, apart, arguments_agree, registers_few, lengths_fit, none_abstract, handlers_home}
use Rattle.cap_gen.proofs.Counted.{no_customs, imports_agree, applets_agree, images_agree, arrays_agree, array_sizes_agree, pools_agree, instances_agree}
use Rattle.cap_gen.proofs.Counted.{sums_agree, statics_apart, all_named, all_described, all_typed, fields_inside, no_exports}

all_read : (seed : ℕ) → read_package (generated_parts seed) ≡ Ok (package_record seed)
unfolding each_method method_bytes entry_table entries method_info methods described_bytes descriptor_bytes location_bytes table
    reading info_in read_package read_after read_part read_if_held read_methods read_description version magic name_info record_info
all_read seed = refl

none_missing : (seed : ℕ) → missing_parts (generated_parts seed) (read_directory (generated_parts seed)) ≡ []
unfolding each_method method_bytes entry_table entries method_info methods described_bytes descriptor_bytes location_bytes table
    reading info_in read_directory read_part absent_fault sized_fault version magic name_info
none_missing seed = refl

pub parts_stand : (seed : ℕ) → StandsFor (generated_parts seed) (package_record seed)
parts_stand seed = record {
  said = read-said (generated_parts seed) (package_record seed) (all_read seed);
  missing = none_missing seed;
  agree = agreed (generated_parts seed) (package_record seed) (record {
    forms = no_customs seed;
    sizes = sizes_agree seed;
    overlaps = apart seed;
    outside = inside seed;
    imports = imports_agree seed;
    applets = applets_agree seed;
    image = images_agree seed;
    arrays = arrays_agree seed;
    array_sizes = array_sizes_agree seed;
    pool = pools_agree seed;
    arguments = arguments_agree seed;
    instances = instances_agree seed;
    image_sum = sums_agree seed;
    bare = none_abstract seed;
    handlers = handlers_home seed;
    statics = statics_apart seed;
    names = all_named seed;
    classes = all_described seed;
    registers = registers_few seed;
    types = all_typed seed;
    places = fields_inside seed;
    lengths = lengths_fit seed;
    exports = no_exports seed;
  });
}
