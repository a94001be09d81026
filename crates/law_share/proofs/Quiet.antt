-- Stores and increments alone write registers.
use Rattle.std.proofs.Common.{◌≡◌, ◌⊎◌, inl, inr, refl}
use Rattle.std.specs.Prelude.{⊤, Some, None}
use Rattle.jc_base.specs.World.{Linked}
use Rattle.jc_ops.specs.declared.operation.Holder.TheVariants as holders
use Rattle.jc_ops.specs.declared.operation.Operation.{Operation}
use Rattle.jc_ops.specs.declared.operation.Operation.TheVariants as ops
use Rattle.jc_rules.specs.Footprint.{footprint}
use Rattle.law_alike.proofs.Doing.{none-constant, none-load, none-move, none-arithmetic, none-read, none-write, none-branch, none-test}

abbrev pub IsStoring : Operation → Type 0
IsStoring (ops.Store s x) = ⊤
IsStoring (ops.Increment width x amount) = ⊤
IsStoring _ = ⊥

pub quiet-or-stores : (v : Linked) (op : Operation) → ((footprint v op).written ≡ 0) ⊎ IsStoring op
quiet-or-stores v (ops.Constant c) = inl (none-constant v c)
quiet-or-stores v (ops.Load s x) = inl (none-load v s x)
quiet-or-stores v (ops.Store s x) = inr tt
quiet-or-stores v (ops.Increment width x amount) = inr tt
quiet-or-stores v (ops.Move move) = inl (none-move v move)
quiet-or-stores v (ops.Arithmetic a) = inl (none-arithmetic v a)
quiet-or-stores v (ops.ArrayRead kind) = inl (none-read v kind)
quiet-or-stores v (ops.ArrayWrite kind) = inl (none-write v kind)
quiet-or-stores v ops.ArrayLength = inl refl
quiet-or-stores v (ops.Branch branch) = inl (none-branch v branch)
quiet-or-stores v (ops.Switch width) = inl refl
quiet-or-stores v (ops.StaticRead field) = inl refl
quiet-or-stores v (ops.StaticWrite field) = inl refl
quiet-or-stores v (ops.FieldRead field holders.Stack) = inl refl
quiet-or-stores v (ops.FieldRead field holders.This) = inl refl
quiet-or-stores v (ops.FieldWrite field holders.Stack) = inl refl
quiet-or-stores v (ops.FieldWrite field holders.This) = inl refl
quiet-or-stores v (ops.Call callee) = inl refl
quiet-or-stores v (ops.New place class) = inl refl
quiet-or-stores v (ops.NewArray ty) = inl refl
quiet-or-stores v ops.Throw = inl refl
quiet-or-stores v (ops.TypeTest test ty) = inl (none-test v test ty)
quiet-or-stores v (ops.Return None) = inl refl
quiet-or-stores v (ops.Return (Some ty)) = inl refl
