-- A frame that the rules work on, with room for more cells on its stack.
use Rattle.std.specs.Prelude.{◌≡◌, ℕ, ◌+◌, ◌≤◌, length, Result, Ok, Err}
use Rattle.jc_base.specs.declared.record.MethodRec.{MethodRec}
use Rattle.jc_base.specs.World.{Linked}
use Rattle.jc_decode.specs.declared.insn.Insn.{Insn}
use Rattle.jc_ops.specs.declared.fault.RuleFault.{RuleFault}
use Rattle.jc_rules.specs.declared.effect.Mode.TheVariants.{Flow}
use Rattle.jc_ops.specs.declared.operation.Site.{Site}
use Rattle.jc_rules.specs.declared.rule.Outcome.{Outcome}
use Rattle.jc_rules.specs.Demand.{Frame}
use Rattle.jc_rules.specs.Apply.{Applies, Refuses}

pub record Scratched : Type 0 where
  pub frame : Frame
  pub room : ℕ

-- the depth is within the cells, and these are not more than a byte counts
pub record HasDepth (cells depth : ℕ) : Type 0 where
  pub within : depth ≤ cells
  pub few : cells ≤ 255

-- a frame of the method's registers, with room for its deepest stack
pub record SuitsMethod (s : Scratched) (m : MethodRec) : Type 0 where
  pub registers : length s.frame.regs ≡ m.nargs + m.max_locals
  pub room : s.room ≡ m.max_stack

-- the rule has taken the frame before to the one that is there now
abbrev pub IsStepped : Linked → Site → Insn → Frame → Frame → Result (Unit {0}) RuleFault → Type 0
IsStepped w site i before after (Ok _) = (o : Outcome) × Applies w site i Flow before after o
IsStepped w site i before after (Err fault) = Refuses w site i before fault
