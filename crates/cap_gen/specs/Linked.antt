-- The methods of the world that a generated package makes alone (JCVM 2.2, sections 6.9 and 6.13).
use Rattle.std.specs.Prelude.{ℕ, zero, suc, ◌%◌, true, false, List, [], ◌∷◌, Some}
use Rattle.jc_base.specs.declared.ty.Ty.TheVariants.{Short}
use Rattle.jc_base.specs.declared.record.Handler.{Handler}
use Rattle.jc_base.specs.declared.record.MethodRec.{MethodRec}
use Rattle.cap_gen.specs.Shape.{of_kind}
use Rattle.cap_gen.specs.Methods.{code_offset, code_size_of_kind}

-- the handlers of a kind: entry 1 of the pool names the fourth class, and anything is what is below throwable, the second
abbrev pub world_handlers : ℕ → List Handler
world_handlers zero = []
world_handlers (suc zero) = []
world_handlers (suc (suc zero)) =
    record { start = 0; end = 3; entry = 4; index = 1; class = 3 }
    ∷ record { start = 0; end = 8; entry = 8; index = 0; class = 1 } ∷ []
world_handlers (suc (suc (suc n))) = []

-- the method of a kind with a number
abbrev pub record_of : ℕ → ℕ → MethodRec
record_of kind k = record {
  «package» = 0;
  class = 0;
  token = k;
  class_no = 0;
  method_no = k;
  is_static = true;
  is_init = false;
  is_abstract = false;
  sig = record { args = Short ∷ Short ∷ []; result = Some Short };
  nargs = 2;
  max_locals = (of_kind kind 0 0).max_locals;
  max_stack = 2;
  code_at = code_offset k;
  code_len = code_size_of_kind k;
  handlers = world_handlers kind;
}

abbrev pub method_record : ℕ → MethodRec
method_record k = record_of (k % 4) k

-- the classes of the roles: object, throwable and the six exceptions are the classes in their order
abbrev pub roles : List ℕ
roles = 0 ∷ 1 ∷ 2 ∷ 3 ∷ 4 ∷ 5 ∷ 6 ∷ 7 ∷ []
