-- What is known of a plan and of the instructions that are rewritten by it.
use Rattle.std.specs.Prelude.{◌+◌, ◌≤◌, length}
use Rattle.jc_decode.specs.declared.insn.Placed.{Placed}
use Rattle.jc_control.specs.Method.{IsMethodOf}
use Rattle.jc_control.specs.WellFormed.{HasInstruction}
use Rattle.xf_homes.specs.Subject.{walked}
use Rattle.xf_homes.specs.declared.plan.Plan.{Plan}
use Rattle.xf_emission.specs.Jump.{AreLed}

-- an instruction of the code, with targets in it
pub record IsInstruction (p : Plan) (i : Placed) : Type 0 where
  pub method : IsMethodOf p.walk.world.now (walked p.walk)
  pub led : AreLed p.walk.code.bytes.now i
  pub inside : i.place + i.insn.len ≤ 65535

-- the plan is of a method, whose instructions are such
pub record IsSubject (p : Plan) : Type 0 where
  pub method : IsMethodOf p.walk.world.now (walked p.walk)
  pub short : length p.walk.code.bytes.now ≤ 32767
  pub instructions : (i : Placed) → HasInstruction p.walk.code.bytes.now i → IsInstruction p i
