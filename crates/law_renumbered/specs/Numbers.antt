-- The new numbers of a method's registers, which its variables share (Chaitin 1982).
use Rattle.std.specs.Prelude.{◌≡◌, ℕ, ◌<◌, ◌≤◌, List}
use Rattle.jc_base.specs.World.{Linked}
use Rattle.jc_decode.specs.declared.insn.Placed.{Placed}
use Rattle.jc_control.specs.Method.{Method}
use Rattle.jc_ops.specs.declared.operation.Operation.{Operation}
use Rattle.law_laid.specs.Apart.{apart_from_code}
use Rattle.law_share.specs.Live.{Operates, Writes, MayLeadTo, IsLiveAt}
use Rattle.law_share.specs.Sharing.{Allotted, IsNumbered, IsSharing, KeepsRegisters}
use Rattle.law_share.specs.Renamed.{register_total, BeginsAlike}
use Rattle.law_share.specs.Renumbered.{renumbered, IsRenumberedTo}

-- the new number of each register, and how many registers there are beyond the arguments: those of the method's one sharing; or those
-- that it has, where it keeps them
pub data AreNumbersOf (w : Linked) (m : Method) (reg : ℕ → ℕ) : ℕ → Type 0 where
  numbers_shared :
      (given : List Allotted) {locals : ℕ}
      → IsSharing w m given locals
      → ((x : ℕ) → x < register_total m → IsNumbered m.rec.nargs given x (reg x))
      → AreNumbersOf w m reg locals
  numbers_kept : KeepsRegisters w m → ((x : ℕ) → reg x ≡ x) → AreNumbersOf w m reg m.rec.max_locals

-- a method that has so many registers, and is the same apart from its code
pub record HasRegisters (m : Method) (count : ℕ) (target : Method) : Type 0 where
  pub same : apart_from_code target.rec ≡ apart_from_code m.rec
  pub nargs : target.rec.nargs ≡ m.rec.nargs
  pub total : register_total target ≡ count

-- the new numbers serve a method, below a total that a byte tells. Each operation is the same but for the number of its register. It writes
-- none that has to hold a register which is live after it, and which it did not write before. What is live at the start is held there
pub record NumbersServe (v : Linked) (m : Method) (reg : ℕ → ℕ) (total : ℕ) : Type 0 where
  pub few : total ≤ 255
  pub same : (i : Placed) (op : Operation) → Operates v m i op → IsRenumberedTo v reg total op (renumbered reg op)
  pub apart :
      (i : Placed) (op : Operation) (q x : ℕ)
      → Operates v m i op
      → MayLeadTo m i q
      → IsLiveAt v m x q
      → ¬ (Writes v op x)
      → ¬ (Writes v (renumbered reg op) (reg x))
  pub start : (target : Method) (x : ℕ) → HasRegisters m total target → IsLiveAt v m x 0 → BeginsAlike m target reg x
