-- A method that got no typing, and what is told of it.
use Rattle.std.specs.Prelude.{ℕ, IsSomeAnd}
use Rattle.jc_base.specs.World.{Linked}
use Rattle.jc_control.specs.Method.{Method, IsMethodOf, method_in}
use Rattle.jc_flow.specs.declared.inference.FlowEnd.{FlowEnd}
use Rattle.jc_flow.specs.declared.inference.FlowEnd.TheVariants as flow
use Rattle.jc_flow.specs.Infer.{LacksTyping, TellsEnd}
use Rattle.xf_pack.specs.declared.transforming.TransformEnd.{TransformEnd}
use Rattle.xf_pack.specs.declared.transforming.TransformEnd.TheVariants.{Typing, Memory}

-- the method has code, and the end says why it has no typing
pub record IsUntyped (w : Linked) (end : FlowEnd) (m : Method) : Type 0 where
  pub method : IsMethodOf w m
  pub none : LacksTyping w m end
  pub tells : TellsEnd w m end

abbrev pub HasNoTyping : Linked → ℕ → FlowEnd → Type 0
HasNoTyping w n end = IsSomeAnd (method_in w n) (IsUntyped w end)

abbrev pub untyped : ℕ → FlowEnd → TransformEnd
untyped n flow.Memory = Memory
untyped n end = Typing n end
