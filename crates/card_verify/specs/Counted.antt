-- The visits of the verifier that are counted: in each pass, of each instruction.
use Rattle.std.specs.Prelude.{ℕ, ◌+◌, ◌*◌, ◌≤◌, List, length}
use Rattle.jc_base.specs.declared.ty.Ty.{Ty}
use Rattle.jc_base.specs.Class.{height}
use Rattle.jc_base.specs.World.{Linked}
use Rattle.jc_decode.specs.Listing.{listing}
use Rattle.jc_control.specs.Method.{Method}
use Rattle.jc_rules.specs.Demand.{Frame}
use Rattle.card_typing.specs.declared.fault.CardFault.{CardFault}
use Rattle.card_typing.specs.Pass.{HasAfterPasses, IsPassCount}
use Rattle.card_typing.specs.Refusal.{IsRefusedAfter}

-- the instructions of a method
abbrev pub instruction_count : Method → ℕ
instruction_count m = length (listing m.code)

-- the most passes: each but the last raises a register, and a register rises at most once for each class in the chain of the
-- deepest one, itself among them, and three times more
abbrev pub most_passes : Linked → Method → ℕ
most_passes w m = 1 + (m.rec.nargs + m.rec.max_locals) * (height w.classes + 3)

-- of a method that is accepted with these registers, each instruction is visited in each of its passes, and each visit is a
-- step, beside so many others at the least
pub record AreCountedBeside (w : Linked) (m : Method) (marked : ℕ → Type 0) (regs : List Ty) (others before after : ℕ) : Type 0 where
  pub passes : ℕ
  pub are : IsPassCount w m marked passes
  pub left : HasAfterPasses w m marked passes regs
  pub counted : before + (others + passes * instruction_count m) ≤ after

-- where a state is at fault, each visit before it is a step, beside so many others at the least
pub record AreCountedUpTo (w : Linked) (m : Method) (marked : ℕ → Type 0) (fault : CardFault) (kept : Frame)
    (others before after : ℕ) : Type 0 where
  pub visits : ℕ
  pub refused : IsRefusedAfter w m marked visits fault kept
  pub counted : before + (others + visits) ≤ after
