-- Which methods of a world a command types, and that they have dataflow typings (JCVM 2.2, section 7.5; Leroy 2002, section 2.3).
use Rattle.std.specs.Prelude.{◌≡◌, ◌≢◌, ℕ, ◌+◌, Bool, ◌&&◌, ◌==◌, nat_lt, List, length, codes, count_by}
use Rattle.jc_base.specs.declared.ty.Ty.TheVariants.{Top}
use Rattle.jc_base.specs.declared.record.MethodRec.{MethodRec}
use Rattle.jc_base.specs.World.{Linked}
use Rattle.jc_control.specs.Method.{Method}
use Rattle.jc_rules.specs.Flow.{HasFlowTyping}
use Rattle.jc_flow.specs.declared.inference.FlowEnd.{FlowEnd}
use Rattle.jc_flow.specs.declared.inference.FlowEnd.TheVariants.{Memory}
use Rattle.jc_flow.specs.Infer.{TellsEnd}
use Rattle.cap_text.specs.declared.line.MethodNumber.{MethodNumber}
use Rattle.xf_pack.specs.Ends.{IsTypedLast}
use Rattle.jc_control.specs.Asked.{AllHaveBelow, IsFirstWithout, IsOfLast}
use Rattle.cap_text.specs.Line.{methods_line, refused_flow_line}

-- a method with code, of the last package, as a test of a record, where there are so many packages
abbrev pub is_of_last : ℕ → MethodRec → Bool
is_of_last packages rec = rec.package + 1 == packages && nat_lt 0 rec.code_len

-- every method with code of the last package that is numbered below this has a typing, in which each register that is no argument starts
-- as Top
abbrev pub AreTypedBelow : Linked → ℕ → Type 0
AreTypedBelow w n = AllHaveBelow (IsOfLast w) (λ m. HasFlowTyping w m Top) n

-- how many methods with code the last package has
abbrev pub count_of_last : Linked → ℕ
count_of_last w = count_by (is_of_last (length w.infos)) w.methods

-- each of them has a typing, and the text says how many they are
pub record TellsTyped (w : Linked) (text : List ℕ) : Type 0 where
  pub typed : IsTypedLast w
  pub prints : text ≡ methods_line (codes "typed ") (count_of_last w)

-- a method by the numbers of its Descriptor
abbrev pub numbers_of_method : MethodRec → MethodNumber
numbers_of_method rec = record { «package» = rec.package; class_no = rec.class_no; method_no = rec.method_no }

-- one of them is the first without a typing, and the text names it, with a place and a reason that hold
pub record TellsUntyped (w : Linked) (text : List ℕ) : Type 0 where
  pub method : Method
  pub first : IsFirstWithout (IsOfLast w) (λ m. HasFlowTyping w m Top) method
  pub end : FlowEnd
  pub known : end ≢ Memory
  pub tells : TellsEnd w method end
  pub prints : text ≡ refused_flow_line (numbers_of_method method.rec) end
