-- How one method of a world is typed, by the answer.
use Rattle.std.specs.Prelude.{◌≡◌, ℕ, Bool, length, option_map, Some, Result, Ok, Err, slice_get}
use Rattle.jc_base.specs.declared.ty.Ty.TheVariants.{Top}
use Rattle.jc_base.specs.World.{Linked}
use Rattle.jc_control.specs.Method.{Method}
use Rattle.jc_rules.specs.Flow.{HasFlowTyping}
use Rattle.jc_flow.specs.declared.inference.FlowEnd.{FlowEnd}
use Rattle.jc_flow.specs.Infer.{TellsEnd, LacksTyping}
use Rattle.jc_control.specs.Asked.{IsOfLast}
use Rattle.capcheck_core.specs.Typed.{is_of_last}

-- the method of this number has a typing, where it is one of the last package with code
abbrev pub IsTypedMethod : Linked → ℕ → Type 0
IsTypedMethod w n = (m : Method) → IsOfLast w m → m.number ≡ n → HasFlowTyping w m Top

-- the method of this number is one of the last package with code, and the end says why no typing was found
pub record FailsMethod (w : Linked) (n : ℕ) (end : FlowEnd) : Type 0 where
  pub method : Method
  pub number : method.number ≡ n
  pub of_last : IsOfLast w method
  pub none : LacksTyping w method end
  pub tells : TellsEnd w method end

-- the method was typed, and whether it is one of the last package with code; or no typing was found
pub record TypesAs (w : Linked) (n : ℕ) (asked : Bool) : Type 0 where
  pub counts : option_map (is_of_last (length w.infos)) (slice_get w.methods n) ≡ Some asked
  pub typed : IsTypedMethod w n

abbrev pub TypesMethod : Linked → ℕ → Result Bool FlowEnd → Type 0
TypesMethod w n (Ok asked) = TypesAs w n asked
TypesMethod w n (Err end) = FailsMethod w n end
