-- A world of two packages, as a worked case. The first package has class object, class throwable,
-- an interface, and a class with a package-visible method. The second extends that class, overrides
-- its public method, implements the interface, and has a package-visible method of its own, which
-- one more class overrides.
use Rattle.std.specs.Prelude.{◌≡◌, ℕ, length, replicate, true, false, List, [], ◌∷◌, Some, None}
use Rattle.jc_base.specs.declared.ty.Ty.TheVariants.{Short, IntHigh, IntLow, ArrByte}
use Rattle.jc_base.specs.declared.ty.Kind.TheVariants as kinds
use Rattle.jc_base.specs.declared.record.Member.{Member}
use Rattle.jc_base.specs.declared.record.Member.TheVariants.{ClassOf, Field, Static, Virtual, Super, StaticCall}
use Rattle.jc_base.specs.declared.record.Sig.{Sig}
use Rattle.jc_base.specs.declared.record.ClassRec.{ClassRec}
use Rattle.jc_base.specs.declared.record.MethodRec.{MethodRec}
use Rattle.jc_base.specs.declared.record.StaticRec.{StaticRec}
use Rattle.jc_base.specs.declared.record.ArrayRec.{ArrayRec}
use Rattle.jc_base.specs.Class.{ClassTable}
use Rattle.jc_base.specs.Linked.{list_at}
use Rattle.jc_base.specs.World.{Linked}

-- the Method infos: code of two bytes for a method, four for the last one
abbrev pub first_info : List ℕ
first_info = 3 ∷ 120 ∷ 3 ∷ 120 ∷ 3 ∷ 120 ∷ []

abbrev pub second_info : List ℕ
second_info = 3 ∷ 120 ∷ 3 ∷ 120 ∷ 3 ∷ 120 ∷ 3 ∷ 120 ∷ 3 ∷ 120 ∷ []

-- each method takes a short and gives one
abbrev pub signature : Sig
signature = record { args = Short ∷ []; result = Some Short }

-- a method of an object, with two bytes of code
abbrev pub instance_method : ℕ → ℕ → ℕ → ℕ → ℕ → ℕ → MethodRec
instance_method home class token class_no method_no code_at = record {
  «package» = home;
  class = class;
  token = token;
  class_no = class_no;
  method_no = method_no;
  is_static = false;
  is_init = false;
  is_abstract = false;
  sig = signature;
  nargs = 2;
  max_locals = 1;
  max_stack = 2;
  code_at = code_at;
  code_len = 2;
  handlers = [];
}

-- the method of the interface
abbrev pub interface_method : MethodRec
interface_method = record {
  «package» = 0;
  class = 2;
  token = 0;
  class_no = 2;
  method_no = 0;
  is_static = false;
  is_init = false;
  is_abstract = true;
  sig = signature;
  nargs = 2;
  max_locals = 0;
  max_stack = 0;
  code_at = 0;
  code_len = 0;
  handlers = [];
}

-- a static method with a handler for all that is thrown
abbrev pub static_method : MethodRec
static_method = record {
  «package» = 1;
  class = 4;
  token = 0;
  class_no = 0;
  method_no = 2;
  is_static = true;
  is_init = false;
  is_abstract = false;
  sig = signature;
  nargs = 1;
  max_locals = 1;
  max_stack = 2;
  code_at = 6;
  code_len = 4;
  handlers = record { start = 0; end = 2; entry = 2; index = 0; class = 1 } ∷ [];
}

abbrev pub methods : List MethodRec
methods =
    instance_method 0 0 0 0 0 0
    ∷ interface_method
    ∷ instance_method 0 3 1 3 0 2
    ∷ instance_method 0 3 128 3 1 4
    ∷ instance_method 1 4 1 0 0 0
    ∷ instance_method 1 4 128 0 1 2
    ∷ instance_method 1 5 128 1 0 4
    ∷ static_method
    ∷ []

abbrev pub object_class : ClassRec
object_class = record {
  «package» = 0;
  interface = false;
  parent = None;
  cells = 0;
  own = [];
  implements = [];
  public = 0 ∷ [];
  visible = [];
}

abbrev pub throwable_class : ClassRec
throwable_class = record {
  «package» = 0;
  interface = false;
  parent = Some 0;
  cells = 0;
  own = [];
  implements = [];
  public = 0 ∷ [];
  visible = [];
}

abbrev pub interface_record : ClassRec
interface_record = record {
  «package» = 0;
  interface = true;
  parent = None;
  cells = 0;
  own = [];
  implements = [];
  public = [];
  visible = [];
}

abbrev pub base_class : ClassRec
base_class = record {
  «package» = 0;
  interface = false;
  parent = Some 0;
  cells = 1;
  own = Short ∷ [];
  implements = [];
  public = 0 ∷ 2 ∷ [];
  visible = 3 ∷ [];
}

abbrev pub derived_class : ClassRec
derived_class = record {
  «package» = 1;
  interface = false;
  parent = Some 3;
  cells = 3;
  own = IntHigh ∷ IntLow ∷ [];
  implements = record { class = 2; tokens = 1 ∷ [] } ∷ [];
  public = 0 ∷ 4 ∷ [];
  visible = 5 ∷ [];
}

abbrev pub last_class : ClassRec
last_class = record {
  «package» = 1;
  interface = false;
  parent = Some 4;
  cells = 3;
  own = [];
  implements = [];
  public = 0 ∷ 4 ∷ [];
  visible = 6 ∷ [];
}

abbrev pub records : List ClassRec
records = object_class ∷ throwable_class ∷ interface_record ∷ base_class ∷ derived_class ∷ last_class ∷ []

abbrev pub classes : ClassTable
classes = record { records = records; roles = 0 ∷ 1 ∷ 1 ∷ 1 ∷ 1 ∷ 1 ∷ 1 ∷ 1 ∷ [] }

-- by pool number what the packages name
abbrev pub first_pool : List Member
first_pool = ClassOf 0 ∷ []

abbrev pub second_pool : List Member
second_pool =
    ClassOf 4
    ∷ Field 4 1 kinds.Int IntHigh
    ∷ Static 0 kinds.Byte Short
    ∷ Virtual 4 1
    ∷ Virtual 4 128
    ∷ Super 4 2
    ∷ StaticCall 7
    ∷ []

-- a byte that starts as -1, and a reference to the initial array
abbrev pub statics : List StaticRec
statics =
    record { «package» = 1; offset = 2; kind = kinds.Byte; ty = Short; slot = 0; initial = 65535 ∷ [] }
    ∷ record { «package» = 1; offset = 0; kind = kinds.Ref; ty = ArrByte; slot = 1; initial = 1 ∷ [] }
    ∷ []

abbrev pub arrays : List ArrayRec
arrays = record { kind = ArrByte; initial = 1 ∷ 65535 ∷ [] } ∷ []

abbrev pub sample : Linked
sample = record {
  infos = first_info ∷ second_info ∷ [];
  pools = first_pool ∷ second_pool ∷ [];
  classes = classes;
  methods = methods;
  statics = statics;
  arrays = arrays;
  indexes = replicate 8 None;
}

-- the lengths of its lists
pub record HasSampleSizes (w : Linked) : Type 0 where
  pub infos : length w.infos ≡ 2
  pub first_pool_is : length (list_at w.pools 0) ≡ 1
  pub second_pool_is : length (list_at w.pools 1) ≡ 7
  pub records_are : length w.classes.records ≡ 6
  pub methods_are : length w.methods ≡ 8
  pub statics_are : length w.statics ≡ 2
  pub arrays_are : length w.arrays ≡ 1
