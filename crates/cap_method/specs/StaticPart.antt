-- The StaticField component as a value of the program.
use Rattle.std.specs.Prelude.{List, []}
use Rattle.cap_bytes.specs.Grammar.{repeat}
use Rattle.cap_bytes.specs.Taking.{given}
use Rattle.cap_method.specs.declared.read_statics.ArrayInit.{ArrayInit}
use Rattle.cap_method.specs.declared.static_part.ArrayInits.{ArrayInits}
use Rattle.cap_method.specs.declared.static_part.StaticPart.{StaticPart}
use Rattle.cap_method.specs.StaticFormat.{Array, Statics, array_init_info}

abbrev pub array_seen : ArrayInit → Array
array_seen a = record { kind = a.kind; values = a.values.now }

-- the arrays that an iterator has left
abbrev pub arrays_left : ArrayInits → List Array
arrays_left x = given [] (repeat x.left array_init_info) x.items

-- the items of the component
abbrev pub statics_seen : StaticPart → Statics
statics_seen x = record {
  image_size = x.image_size;
  reference_count = x.reference_count;
  arrays = arrays_left x.arrays;
  default_value_count = x.default_value_count;
  values = x.values.now;
}
