-- What holds of the states of a least typing whose unset registers hold anything: stacks of whole values, and a value or anything
-- in each register.
use Rattle.std.specs.Prelude.{ℕ, All}
use Rattle.jc_base.specs.declared.ty.Ty.TheVariants.{Top}
use Rattle.jc_base.specs.World.{Linked}
use Rattle.jc_control.specs.Method.{Method, IsMethodOf}
use Rattle.jc_rules.specs.Demand.{Frame, AreKnown}
use Rattle.jc_rules.specs.Flow.{IsDerived, IsNotFresh}
use Rattle.jc_rules.specs.Laws.{IsNotBottom}
use Rattle.jc_rules.specs.Whole.{IsWholeStack}

-- its types are of the world; no register holds an uninitialised object, and no register and no cell is without a value; no half of
-- an int stands alone on the stack
pub record IsWholeFrame (w : Linked) (f : Frame) : Type 0 where
  pub known : AreKnown w.classes f
  pub ready : All IsNotFresh f.regs
  pub regs : All IsNotBottom f.regs
  pub stack : All IsNotBottom f.stack
  pub whole : IsWholeStack f.stack

abbrev pub DerivedAreWhole : Linked → Type 0
DerivedAreWhole w = (m : Method) (p : ℕ) (f : Frame) → IsMethodOf w m → IsDerived w m Top p f → IsWholeFrame w f
