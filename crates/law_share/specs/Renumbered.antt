-- The operations of a method, where its registers have the numbers that its variables are given.
use Rattle.std.specs.Prelude.{◌≡◌, ℕ, ◌+◌, ◌<◌, ◌≤◌, List, [], drop, map}
use Rattle.jc_base.specs.declared.ty.Ty.{Ty}
use Rattle.jc_base.specs.World.{Linked}
use Rattle.jc_decode.specs.declared.insn.Placed.{Placed}
use Rattle.jc_control.specs.Method.{Method, IsMethodOf}
use Rattle.jc_ops.specs.declared.operation.Operation.{Operation}
use Rattle.jc_ops.specs.declared.operation.Operation.TheVariants.{Load, Store, Increment}
use Rattle.jc_ops.specs.Alike.{IsAlike}
use Rattle.jc_rules.specs.Footprint.{footprint, registers_asked, registers_read}
use Rattle.jc_rules.specs.Rule.{demands}
use Rattle.card_typing.specs.Typing.{CardTyping}
use Rattle.law_share.specs.Live.{Operates, Writes, MayLeadTo, IsLiveAt}
use Rattle.law_share.specs.Variable.{Variable, AreVariables}
use Rattle.law_share.specs.Sharing.{Allotted, AreAllotted, IsNumbered, end_of}
use Rattle.law_share.specs.Renamed.{register_total, BeginsAlike}
use Rattle.law_share.specs.Retyped.{HasShared}

-- an operation with the register that it names under another number
abbrev pub renumbered : (ℕ → ℕ) → Operation → Operation
renumbered reg (Load s x) = Load s (reg x)
renumbered reg (Store s x) = Store s (reg x)
renumbered reg (Increment width x amount) = Increment width (reg x) amount
renumbered reg op = op

-- it is the same but for that number: it reads and writes the registers that the first does under their new numbers, all of which are below
-- an end
pub record IsRenumberedTo (v : Linked) (reg : ℕ → ℕ) (end : ℕ) (a b : Operation) : Type 0 where
  pub alike : IsAlike a b
  pub reads : registers_read (demands v b) ≡ map reg (registers_read (demands v a))
  pub asked : registers_asked (demands v b) ≤ end
  pub writes : (k : ℕ) → k < (footprint v a).written → (footprint v b).register + k ≡ reg ((footprint v a).register + k)

-- the registers of a method have the numbers that its variables are given, by a card typing
pub record IsRenumbering (v : Linked) (m : Method) (given : List Allotted) (reg : ℕ → ℕ) : Type 0 where
  pub method : IsMethodOf v m
  pub regs : List Ty
  pub stacks : ℕ → List Ty
  pub typed : CardTyping v m regs stacks
  pub variables : List Variable
  pub are : AreVariables m.rec.nargs (drop m.rec.nargs regs) variables
  pub allotted : AreAllotted v m [] variables given
  pub numbered : (x : ℕ) → x < register_total m → IsNumbered m.rec.nargs given x (reg x)

-- so each operation of the method is the same but for the number of its register: an int keeps its halves beside one another, and
-- register 0 its number
abbrev pub OperationsAreRenumbered : Linked → Type 0
OperationsAreRenumbered v =
    (m : Method) (given : List Allotted) (reg : ℕ → ℕ) (i : Placed) (op : Operation)
    → IsRenumbering v m given reg
    → Operates v m i op
    → IsRenumberedTo v reg (end_of m.rec.nargs given) op (renumbered reg op)

-- and it writes none that has to hold a register which is live after it, and which it did not write before
abbrev pub RenumberedStayApart : Linked → Type 0
RenumberedStayApart v =
    (m : Method) (given : List Allotted) (reg : ℕ → ℕ) (i : Placed) (op : Operation) (q x : ℕ)
    → IsRenumbering v m given reg
    → Operates v m i op
    → MayLeadTo m i q
    → IsLiveAt v m x q
    → ¬ (Writes v op x)
    → ¬ (Writes v (renumbered reg op) (reg x))

-- what is live at the start is held there under the new number
abbrev pub RenumberedBeginAlike : Linked → Type 0
RenumberedBeginAlike v =
    (m target : Method) (given : List Allotted) (reg : ℕ → ℕ) (x : ℕ)
    → IsRenumbering v m given reg
    → HasShared m given target
    → IsLiveAt v m x 0
    → BeginsAlike m target reg x
