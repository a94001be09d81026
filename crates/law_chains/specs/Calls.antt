-- Which methods a method calls, whatever control does (JCVM 2.2, sections 2.2.1, 4.3.7.6 and 6.8.2, and chapter 7, the invoke
-- instructions). Chains of calls are ways over this relation.
use Rattle.std.specs.Prelude.{◌≡◌, ℕ, false, Some, Ok, Contains, IsSomeAnd, slice_get}
use Rattle.jc_base.specs.declared.ty.Ty.TheVariants.{Class}
use Rattle.jc_base.specs.declared.record.MethodRec.{MethodRec}
use Rattle.jc_base.specs.Class.{ClassTable, IsClass}
use Rattle.jc_base.specs.Order.{Below}
use Rattle.jc_base.specs.Dispatch.{dispatched}
use Rattle.jc_base.specs.Linked.{lacks_code}
use Rattle.jc_base.specs.World.{Linked, code_of}
use Rattle.jc_decode.specs.declared.insn.Placed.{Placed}
use Rattle.jc_decode.specs.Listing.{listing}
use Rattle.jc_ops.specs.declared.operation.Callee.{Callee}
use Rattle.jc_ops.specs.declared.operation.Choice.{Choice}
use Rattle.jc_ops.specs.declared.operation.Choice.TheVariants as choices
use Rattle.jc_ops.specs.declared.operation.Operation.TheVariants.{Call}
use Rattle.jc_ops.specs.Resolve.{Resolves}
use Rattle.vm_step.specs.Calls.{served}

-- the method of a number has code
abbrev pub HasCode : Linked → ℕ → Type 0
HasCode w n = IsSomeAnd (slice_get w.methods n) (λ m. lacks_code w.classes m ≡ false)

-- an object of some class at or below class c runs method n for its token
pub record RunsBelow (t : ClassTable) (c token n : ℕ) : Type 0 where
  pub receiver : ℕ
  pub below : Below t (Class receiver) (Class c)
  pub runs : dispatched t c token receiver ≡ Some n

-- method n serves a token of an interface for some class that has an entry of the interface, or inherits one
pub record ServesSome (t : ClassTable) (interface token n : ℕ) : Type 0 where
  pub receiver : ℕ
  pub class : IsClass t receiver
  pub serves : served t interface token receiver ≡ Some n

-- the methods that a call of a method may run, by the way in which the machine chooses one
abbrev pub MayRun : ClassTable → ℕ → Choice → ℕ → Type 0
MayRun t method choices.Static n = n ≡ method
MayRun t method choices.Special n = n ≡ method
MayRun t method (choices.Virtual c token) n = RunsBelow t c token n
MayRun t method (choices.Interface c token words) n = ServesSome t c token n

-- method m calls method n, which has code: an instruction of m, reached or not, is a call that may run it
pub record Calls (w : Linked) (m n : ℕ) : Type 0 where
  pub caller : MethodRec
  pub is_caller : slice_get w.methods m ≡ Some caller
  pub instruction : Placed
  pub stands : Contains (listing (code_of w.infos caller)) instruction
  pub callee : Callee
  pub resolves : Resolves w caller instruction.place instruction.insn (Ok (Call callee))
  pub may_run : MayRun w.classes callee.method callee.choice n
  pub code : HasCode w n
