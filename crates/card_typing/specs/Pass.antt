-- The passes of the verifier on the card over the instructions of the code, one after another (Leroy 2002, section 3).
use Rattle.std.specs.Prelude.{◌≡◌, ℕ, ◌+◌, ◌*◌, ◌<◌, Bool, List, [], ◌∷◌, length}
use Rattle.jc_base.specs.declared.ty.Ty.{Ty}
use Rattle.jc_base.specs.World.{Linked}
use Rattle.jc_decode.specs.declared.insn.Placed.{Placed}
use Rattle.jc_decode.specs.Listing.{falls, listing}
use Rattle.jc_control.specs.Method.{Method}
use Rattle.jc_rules.specs.declared.rule.Outcome.{Outcome}
use Rattle.card_typing.specs.Met.{Arrives, IsPassed, IsMetAfter}

-- nothing is wrong at the instructions, one after another, and the registers stay as they are
pub data IsQuiet (w : Linked) (m : Method) (marked : ℕ → Type 0) (regs : List Ty) : Bool → List Ty → List Placed → Type 0 where
  quiet_end : (may_fall : Bool) (given : List Ty) → IsQuiet w m marked regs may_fall given []
  quiet_more :
      (may_fall : Bool) (given stack after : List Ty) (o : Outcome) (i : Placed) (is : List Placed)
      → Arrives w m may_fall given i.place stack
      → IsPassed w m marked i (record { regs = regs; stack = stack }) (record { regs = regs; stack = after }) o
      → IsQuiet w m marked regs (falls i.insn.op) after is
      → IsQuiet w m marked regs may_fall given (i ∷ is)

-- ---- how many there are

-- these are the registers after so many passes, each of which visits every instruction
pub record HasAfterPasses (w : Linked) (m : Method) (marked : ℕ → Type 0) (passes : ℕ) (regs : List Ty) : Type 0 where
  pub stack : List Ty
  pub met : IsMetAfter w m marked (passes * length (listing m.code)) 0 (record { regs = regs; stack = stack })

-- the pass that comes after so many leaves the registers as they are
pub record IsStillAfter (w : Linked) (m : Method) (marked : ℕ → Type 0) (passes : ℕ) : Type 0 where
  pub regs : List Ty
  pub before : HasAfterPasses w m marked passes regs
  pub after : HasAfterPasses w m marked (passes + 1) regs

-- the number of passes, the last of which is the first that leaves the registers as they are
pub record IsPassCount (w : Linked) (m : Method) (marked : ℕ → Type 0) (passes : ℕ) : Type 0 where
  pub raising : ℕ
  pub last : IsStillAfter w m marked raising
  pub first : (n : ℕ) → n < raising → ¬ (IsStillAfter w m marked n)
  pub count : passes ≡ raising + 1
