-- What the rule of an operation rests on: types, classes and numbers that are there.
use Rattle.std.specs.Prelude.{◌+◌, ◌≤◌, length, IsSomeAnd, IfSome, slice_get, ⊤}
use Rattle.jc_base.specs.declared.ty.Ty.{Ty}
use Rattle.jc_base.specs.declared.ty.Ty.TheVariants.{Bottom, Top}
use Rattle.jc_base.specs.Class.{IsClass}
use Rattle.jc_base.specs.Order.{IsKnown}
use Rattle.jc_base.specs.World.{Linked}
use Rattle.jc_ops.specs.declared.operation.Callee.{Callee}
use Rattle.jc_ops.specs.declared.operation.Operation.{Operation}
use Rattle.jc_ops.specs.declared.operation.Operation.TheVariants as ops
use Rattle.jc_ops.specs.Sound.{IsKnownWant, IsMove, IsNamedType, receiver_count}

-- the type of a value: neither Bottom nor Top
abbrev pub IsValue : Ty → Type 0
IsValue Bottom = ⊥
IsValue Top = ⊥
IsValue _ = ⊤

-- a method of the world, whose arguments fit on a stack with the receiver
abbrev pub IsKnownCallee : Linked → Callee → Type 0
IsKnownCallee w c =
    IsSomeAnd (slice_get w.methods c.method) (λ m. length m.sig.args + receiver_count c.receiver ≤ 255)
    × IfSome c.receiver (IsKnownWant w.classes)

-- each class number in an operation names a class, each type of a value is one, and its counts are small
abbrev pub IsKnownOperation : Linked → Operation → Type 0
IsKnownOperation w (ops.Move move) = IsMove move
IsKnownOperation w (ops.StaticRead f) = IsKnown w.classes f.ty × IsValue f.ty
IsKnownOperation w (ops.StaticWrite f) = IsKnown w.classes f.ty × IsValue f.ty
IsKnownOperation w (ops.FieldRead f h) = IsClass w.classes f.class × IsKnown w.classes f.ty × IsValue f.ty
IsKnownOperation w (ops.FieldWrite f h) = IsClass w.classes f.class × IsKnown w.classes f.ty × IsValue f.ty
IsKnownOperation w (ops.Call c) = IsKnownCallee w c
IsKnownOperation w (ops.New place c) = IsClass w.classes c
IsKnownOperation w (ops.NewArray ty) = IsNamedType w.classes ty
IsKnownOperation w (ops.TypeTest test ty) = IsNamedType w.classes ty
IsKnownOperation w (ops.Return result) = IfSome result (λ ty. IsKnown w.classes ty × IsValue ty)
IsKnownOperation w _ = ⊤
