-- A world with one static method, as a worked case: its classes are object, throwable, and two that extend throwable, of which the first
-- has a field of each kind: a short, an int and a reference.
use Rattle.std.specs.Prelude.{ℕ, true, false, List, [], ◌∷◌, length, Option, Some, None}
use Rattle.jc_base.specs.declared.ty.Ty.{Ty}
use Rattle.jc_base.specs.declared.ty.Ty.TheVariants.{Class, Short, IntHigh, IntLow}
use Rattle.jc_base.specs.declared.record.Member.TheVariants.{ClassOf}
use Rattle.jc_base.specs.declared.record.Handler.{Handler}
use Rattle.jc_base.specs.declared.record.ClassRec.{ClassRec}
use Rattle.jc_base.specs.declared.record.MethodRec.{MethodRec}
use Rattle.jc_base.specs.Class.{ClassTable}
use Rattle.jc_base.specs.World.{Linked}
use Rattle.jc_tests.specs.declared.shape.Shape.{Shape}
use Rattle.jc_tests.specs.declared.shape.Shape.TheVariants as shapes

-- ---- what a method takes and gives, and the room that it has

abbrev pub arguments_of : Shape → List Ty
arguments_of shapes.Thrown = Class 2 ∷ Class 3 ∷ []
arguments_of shapes.Shorts = Short ∷ Short ∷ []
arguments_of shapes.Object = Class 0 ∷ []
arguments_of shapes.Wide = Short ∷ []
arguments_of shapes.Ints = IntHigh ∷ IntLow ∷ []

abbrev pub result_of : Shape → Option Ty
result_of shapes.Thrown = Some (Class 1)
result_of shapes.Shorts = Some Short
result_of shapes.Object = Some Short
result_of shapes.Wide = Some Short
result_of shapes.Ints = Some IntHigh

abbrev pub words_of : Shape → ℕ
words_of shapes.Thrown = 2
words_of shapes.Shorts = 2
words_of shapes.Object = 1
words_of shapes.Wide = 1
words_of shapes.Ints = 2

abbrev pub locals_of : Shape → ℕ
locals_of shapes.Thrown = 1
locals_of shapes.Shorts = 0
locals_of shapes.Object = 1
locals_of shapes.Wide = 254
locals_of shapes.Ints = 2

-- ---- the method and the classes

abbrev pub only_method : Shape → ℕ → List Handler → MethodRec
only_method shape len handlers = record {
  «package» = 0;
  class = 0;
  token = 0;
  class_no = 0;
  method_no = 0;
  is_static = true;
  is_init = false;
  is_abstract = false;
  sig = record { args = arguments_of shape; result = result_of shape };
  nargs = words_of shape;
  max_locals = locals_of shape;
  max_stack = 2;
  code_at = 0;
  code_len = len;
  handlers = handlers;
}

abbrev pub object_class : ClassRec
object_class = record {
  «package» = 0;
  interface = false;
  parent = None;
  cells = 0;
  own = [];
  implements = [];
  public = [];
  visible = [];
}

abbrev pub throwable_class : ClassRec
throwable_class = record {
  «package» = 0;
  interface = false;
  parent = Some 0;
  cells = 0;
  own = [];
  implements = [];
  public = [];
  visible = [];
}

abbrev pub thrown_class : List Ty → ClassRec
thrown_class own = record {
  «package» = 0;
  interface = false;
  parent = Some 1;
  cells = length own;
  own = own;
  implements = [];
  public = [];
  visible = [];
}

-- the cells of the first of the two
abbrev pub own_cells : List Ty
own_cells = Short ∷ IntHigh ∷ IntLow ∷ Class 0 ∷ []

abbrev pub classes : ClassTable
classes = record {
  records = object_class ∷ throwable_class ∷ thrown_class own_cells ∷ thrown_class [] ∷ [];
  roles = 0 ∷ 1 ∷ 1 ∷ 1 ∷ 1 ∷ 1 ∷ 1 ∷ 1 ∷ [];
}

-- the code is the whole Method info
abbrev pub sample : Shape → List ℕ → List Handler → Linked
sample shape code handlers = record {
  infos = code ∷ [];
  pools = (ClassOf 1 ∷ []) ∷ [];
  classes = classes;
  methods = only_method shape (length code) handlers ∷ [];
  statics = [];
  arrays = [];
  indexes = None ∷ [];
}
