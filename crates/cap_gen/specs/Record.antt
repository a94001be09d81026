-- What the components of the generated package say (JCVM 2.2, chapter 6).
use Rattle.std.specs.Prelude.{ℕ, List, [], ◌∷◌, replicate, None}
use Rattle.cap_bytes.specs.declared.fault.Format.TheVariants.{V22}
use Rattle.cap_frame.specs.HeaderFormat.{HeaderItems}
use Rattle.cap_class.specs.ClassFormat.{Class}
use Rattle.cap_components.specs.PackageRecord.{PackageRecord}
use Rattle.cap_gen.specs.Methods.{method_info}
use Rattle.cap_gen.specs.Handlers.{entries}
use Rattle.cap_gen.specs.Described.{descriptor_bytes, descriptor}
use Rattle.cap_gen.specs.Generated.{generated_parts, sizes}

-- a class at an offset, below the one with a reference
abbrev pub class_record : ℕ → ℕ → Class
class_record offset parent = record {
  offset = offset;
  flags = 0;
  super_ref = parent;
  instance_size = 0;
  first_reference = 0xFF;
  reference_count = 0;
  public_base = 0;
  public = [];
  package_base = 0;
  visible = [];
  interfaces = [];
}

-- object, throwable, and six classes below throwable
abbrev pub classes : List Class
classes =
    class_record 2 0xFFFF ∷ class_record 12 2 ∷ class_record 22 12 ∷ class_record 32 12 ∷ class_record 42 12
    ∷ class_record 52 12 ∷ class_record 62 12 ∷ class_record 72 12 ∷ []

-- the items of its Header
abbrev pub header : HeaderItems
header = record {
  format = V22;
  flags = 0;
  package_of = record { minor = 0; major = 1; aid = 0xF0 ∷ 1 ∷ 2 ∷ 3 ∷ 4 ∷ [] };
  name = [];
}

abbrev pub package_record : ℕ → PackageRecord
package_record seed = record {
  parts = generated_parts seed;
  header = header;
  directory = record {
    sizes = sizes seed;
    image_size = 2;
    array_init_count = 0;
    array_init_size = 0;
    import_count = 0;
    applet_count = 0;
    customs = [];
  };
  applets = None;
  imports = [];
  pool = record { tag = 1; bytes = 0 ∷ 2 ∷ 0 ∷ [] } ∷ record { tag = 1; bytes = 0 ∷ 32 ∷ 0 ∷ [] } ∷ [];
  classes = classes;
  methods = record { info = method_info seed; handlers = entries };
  statics = record { image_size = 2; reference_count = 0; arrays = []; default_value_count = 0; values = 0 ∷ 7 ∷ [] };
  locations = record { byte = []; byte2 = 7 ∷ replicate 49 16 };
  export = None;
  description = record { info = descriptor_bytes; items = descriptor };
}
