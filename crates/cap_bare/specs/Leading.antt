-- What the code's answers say in the machine's terms.
use Rattle.std.specs.Prelude.{ℕ, ◌+◌, ◌-◌, ◌<◌, ◌≤◌, length, IfSome}
use Rattle.cap_bare.specs.declared.frame.Lead.{Lead as RunLead}
use Rattle.cap_bare.specs.declared.frame.Lead.TheVariants.{To, Gives}
use Rattle.cap_bare.specs.declared.run.Progress.{Progress}
use Rattle.cap_bare.specs.declared.run.Progress.TheVariants.{At, Ended}
use Rattle.cap_bare.specs.declared.instruction.Instruction.{Instruction}
use Rattle.cap_bare.specs.Effects.{register_of, cells_taken, cells_given}
use Rattle.cap_bare.specs.Machine.{BareFrame, BareState, Lead, BareOutcome, leads, gives, running, returned}

abbrev pub leading : RunLead → BareFrame → Lead
leading (To place) f = leads place f
leading (Gives n) f = gives n

abbrev pub state_in_frame : ℕ → BareFrame → BareState
state_in_frame place f = record { place = place; frame = f }

abbrev pub stepped : Progress → BareFrame → BareOutcome
stepped (At place) f = running (state_in_frame place f)
stepped (Ended n) f = returned n

-- a frame has the register that an instruction names, the cells that it takes, and room for those that it gives
pub record CanAct (i : Instruction) (f : BareFrame) : Type 0 where
  pub local : IfSome (register_of i) (λ x. x < length f.registers)
  pub cells : cells_taken i ≤ length f.stack
  pub room : 0 < cells_given i → length f.stack - cells_taken i + cells_given i ≤ 15
