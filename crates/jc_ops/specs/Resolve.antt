-- The operation of an instruction: what its operands name in the world, and when they name nothing that it takes
-- (JCVM 2.2, section 7.5, the linking clauses of each instruction).
use Rattle.std.specs.Prelude.{◌≡◌, ℕ, ◌+◌, ◌/◌, ◌%◌, Bool, true, false, not, ◌&&◌, ◌==◌, if◌then◌else◌}
use Rattle.std.specs.Prelude.{ℤ, unsigned_abs, List, [], ◌∷◌, length, filter, Option, Some, None, IsSomeAnd, Result, Ok, Err}
use Rattle.std.specs.Prelude.{slice_get}
use Rattle.std.specs.List.{range_with_len}
use Rattle.jc_base.specs.declared.ty.Ty.{Ty}
use Rattle.jc_base.specs.declared.ty.Ty.TheVariants.{Bottom, Short, IntHigh, Class, ArrBool, ArrByte, ArrShort, ArrInt, ArrRef}
use Rattle.jc_base.specs.declared.ty.Kind.{Kind}
use Rattle.jc_base.specs.declared.ty.Kind.TheVariants as kinds
use Rattle.jc_base.specs.declared.record.Member.{Member}
use Rattle.jc_base.specs.declared.record.Member.TheVariants.{ClassOf, Field, Static, Virtual, Super, StaticCall}
use Rattle.jc_base.specs.declared.record.MethodRec.{MethodRec}
use Rattle.jc_base.specs.Class.{ClassTable, is_interface, object}
use Rattle.jc_base.specs.Order.{is_reference}
use Rattle.jc_base.specs.Dispatch.{is_concrete, entry_at}
use Rattle.jc_base.specs.Linked.{lacks_code}
use Rattle.jc_base.specs.World.{Linked, member_at}
use Rattle.jc_decode.specs.declared.insn.Insn.{Insn}
use Rattle.jc_ops.specs.declared.fault.RuleFault.{RuleFault}
use Rattle.jc_ops.specs.declared.fault.RuleFault.TheVariants.{Mismatch, BadMember, NotConcrete}
use Rattle.jc_ops.specs.declared.operation.Want.{Want}
use Rattle.jc_ops.specs.declared.operation.Want.TheVariants.{Value, Receiver}
use Rattle.jc_ops.specs.declared.operation.Site.{Site}
use Rattle.jc_ops.specs.declared.operation.Sort.{Sort}
use Rattle.jc_ops.specs.declared.operation.Sort.TheVariants as sorts
use Rattle.jc_ops.specs.declared.operation.Constant.TheVariants as constants
use Rattle.jc_ops.specs.declared.operation.Move.TheVariants as moves
use Rattle.jc_ops.specs.declared.operation.StaticField.{StaticField}
use Rattle.jc_ops.specs.declared.operation.InstanceField.{InstanceField}
use Rattle.jc_ops.specs.declared.operation.Choice.{Choice}
use Rattle.jc_ops.specs.declared.operation.Choice.TheVariants as choices
use Rattle.jc_ops.specs.declared.operation.Callee.{Callee}
use Rattle.jc_ops.specs.declared.operation.Operation.{Operation}
use Rattle.jc_ops.specs.declared.operation.Operation.TheVariants as ops
use Rattle.jc_ops.specs.declared.row.Invocation.{Invocation}
use Rattle.jc_ops.specs.declared.row.Invocation.TheVariants as invocations
use Rattle.jc_ops.specs.declared.row.Row.{Row}
use Rattle.jc_ops.specs.declared.row.Row.TheVariants as rows
use Rattle.jc_ops.specs.Row.{row_at}

-- ---- operands

-- an operand read as an unsigned byte, and as two
abbrev pub byte_of : ℤ → ℕ
byte_of x = unsigned_abs x % 256

abbrev pub short_of : ℤ → ℕ
short_of x = unsigned_abs x % 65536

-- what is named, where it is of a kind that the instruction takes
abbrev pub taken_if : {X : Type 0} → Bool → ℕ → X → Result X RuleFault
taken_if true pool x = Ok x
taken_if false pool x = Err (BadMember pool)

-- the operation on what is named
abbrev pub on : {X : Type 0} → (X → Operation) → Result X RuleFault → Result Operation RuleFault
on op (Ok x) = Ok (op x)
on op (Err fault) = Err fault

-- ---- fields

abbrev pub same_kind : Kind → Kind → Bool
same_kind kinds.Ref kinds.Ref = true
same_kind kinds.Byte kinds.Byte = true
same_kind kinds.Short kinds.Short = true
same_kind kinds.Int kinds.Int = true
same_kind _ _ = false

-- a static field of the letter's kind
abbrev pub static_field : ℕ → Kind → Option Member → Result StaticField RuleFault
static_field pool k (Some (Static slot kind ty)) = taken_if (same_kind k kind) pool (record { slot = slot; kind = kind; ty = ty })
static_field pool k _ = Err (BadMember pool)

-- an instance field of the letter's kind, of a class that is not object
abbrev pub instance_field : ClassTable → ℕ → Kind → Option Member → Result InstanceField RuleFault
instance_field t pool k (Some (Field c cell kind ty)) =
    taken_if (same_kind k kind && not (c == object t)) pool (record { class = c; cell = cell; kind = kind; ty = ty })
instance_field t pool k _ = Err (BadMember pool)

-- ---- calls

-- a method, taken where the test on its record holds
abbrev pub callee_if : (MethodRec → Bool) → ℕ → ℕ → Option MethodRec → (MethodRec → Option Want) → Choice
    → Result Callee RuleFault
callee_if test pool n (Some m) receiver choice = taken_if (test m) pool (record { method = n; receiver = receiver m; choice = choice })
callee_if test pool n None receiver choice = Err (BadMember pool)

-- the entry of a dispatch list. An array may be the receiver of a method of object, which then has to have a body
abbrev pub entry_callee : Linked → ℕ → ℕ → ℕ → Option ℕ → Result Callee RuleFault
entry_callee w pool c token (Some n) =
    callee_if (λ m. not (c == object w.classes && m.is_abstract)) pool n (slice_get w.methods n)
    (λ m. Some (Value (Class c))) (choices.Virtual c token)
entry_callee w pool c token None = Err (BadMember pool)

abbrev pub virtual_callee : Linked → ℕ → Option Member → Result Callee RuleFault
virtual_callee w pool (Some (Virtual c token)) = entry_callee w pool c token (entry_at w.classes c token)
virtual_callee w pool _ = Err (BadMember pool)

-- what receives a method that is called without dispatch: a constructor takes the object that it is to make ready
abbrev pub own_receiver : MethodRec → Want
own_receiver m = if m.is_init then Receiver m.class else Value (Class m.class)

-- a method of the superclass, a private method or a constructor, which has a body
abbrev pub special_callee : Linked → ℕ → Option Member → Result Callee RuleFault
special_callee w pool (Some (Super c n)) =
    callee_if (λ m. not (lacks_code w.classes m)) pool n (slice_get w.methods n)
    (λ m. Some (Value (Class c))) choices.Special
special_callee w pool (Some (StaticCall n)) =
    callee_if (λ m. not m.is_static && not (lacks_code w.classes m)) pool n (slice_get w.methods n)
    (λ m. Some (own_receiver m)) choices.Special
special_callee w pool _ = Err (BadMember pool)

-- a static method with a body, and no constructor
abbrev pub static_callee : Linked → ℕ → Option Member → Result Callee RuleFault
static_callee w pool (Some (StaticCall n)) =
    callee_if (λ m. m.is_static && not m.is_init && not (lacks_code w.classes m)) pool n (slice_get w.methods n)
    (λ m. None) choices.Static
static_callee w pool _ = Err (BadMember pool)

-- whether the method is described by the interface under the token
abbrev pub is_described : ℕ → ℕ → MethodRec → Bool
is_described c token m = m.class == c && m.token == token

abbrev pub passes_test : {X : Type 0} → (X → Bool) → Option X → Bool
passes_test test (Some x) = test x
passes_test test None = false

-- the numbers of the methods that the interface describes under the token
unfoldable pub described : List MethodRec → ℕ → ℕ → List ℕ
described methods c token = filter (λ n. passes_test (is_described c token) (slice_get methods n)) (range_with_len 0 (length methods))

-- the only one of a list
abbrev pub only : List ℕ → Option ℕ
only (n ∷ []) = Some n
only _ = None

-- the method that the interface describes under the token, where it describes one; nargs counts its argument words and the receiver
abbrev pub described_callee : Linked → ℕ → ℕ → ℕ → ℕ → Option ℕ → Result Callee RuleFault
described_callee w pool nargs c token (Some n) =
    callee_if (λ m. nargs == length m.sig.args + 1) pool n (slice_get w.methods n)
    (λ m. Some (Value (Class (object w.classes)))) (choices.Interface c token nargs)
described_callee w pool nargs c token None = Err (BadMember pool)

abbrev pub interface_callee : Linked → ℕ → ℕ → ℕ → Option Member → Result Callee RuleFault
interface_callee w pool nargs token (Some (ClassOf c)) =
    if is_interface w.classes c
    then described_callee w pool nargs c token (only (described w.methods c token))
    else Err (BadMember pool)
interface_callee w pool nargs token _ = Err (BadMember pool)

-- the method that is called
abbrev pub callee : Linked → ℕ → Insn → Invocation → Result Callee RuleFault
callee w home i invocations.Virtual = virtual_callee w (short_of i.x) (member_at w home (short_of i.x))
callee w home i invocations.Special = special_callee w (short_of i.x) (member_at w home (short_of i.x))
callee w home i invocations.Static = static_callee w (short_of i.x) (member_at w home (short_of i.x))
callee w home i invocations.Interface =
    interface_callee w (short_of i.y) (byte_of i.x) (byte_of i.z) (member_at w home (short_of i.y))

-- ---- classes and types

-- the type that is made of the class that is named
abbrev pub class_type : (ℕ → Ty) → ℕ → Option Member → Result Ty RuleFault
class_type make pool (Some (ClassOf c)) = Ok (make c)
class_type make pool _ = Err (BadMember pool)

-- the array of primitives of each number
abbrev pub array_of : ℕ → Ty
array_of atype = if atype == 10 then ArrBool else if atype == 11 then ArrByte else if atype == 12 then ArrShort else ArrInt

-- the type that is tested: 0 a class, 14 an array of a class, else an array of primitives
abbrev pub tested_type : ℕ → ℕ → Option Member → Result Ty RuleFault
tested_type atype pool member =
    if atype == 0 then class_type Class pool member
    else if atype == 14 then class_type ArrRef pool member
    else Ok (array_of atype)

-- whether a result of this type is returned by the letter
abbrev pub returns : Option Sort → Option Ty → Bool
returns None None = true
returns (Some sorts.Short) (Some Short) = true
returns (Some sorts.Int) (Some IntHigh) = true
returns (Some sorts.Reference) (Some ty) = is_reference ty
returns _ _ = false

-- the type that the letter returns at most
abbrev pub returned : ClassTable → Option Sort → Ty
returned t None = Bottom
returned t (Some sorts.Reference) = Class (object t)
returned t (Some sorts.Short) = Short
returned t (Some sorts.Int) = IntHigh

-- the type of a result, and Bottom for void
abbrev pub result_type : Option Ty → Ty
result_type None = Bottom
result_type (Some ty) = ty

-- the result of the method's own signature
abbrev pub result_returned : ClassTable → Option Sort → Option Ty → Result (Option Ty) RuleFault
result_returned t sort result = if returns sort result then Ok result else Err (Mismatch (returned t sort) (result_type result))

-- ---- the operation

-- an object of a concrete class, which the instruction at the place makes
abbrev pub new_object : Linked → ℕ → ℕ → Option Member → Result Operation RuleFault
new_object w place pool (Some (ClassOf c)) = if is_concrete w.classes w.methods c then Ok (ops.New place c) else Err (NotConcrete c)
new_object w place pool _ = Err (BadMember pool)

-- the operation of an instruction of this row, at a place of the code of a method m
abbrev pub resolved : Linked → MethodRec → ℕ → Insn → Row → Result Operation RuleFault
resolved w m place i (rows.Plain op) = Ok op
resolved w m place i rows.PushShort = Ok (ops.Constant (constants.Short i.x))
resolved w m place i rows.PushInt = Ok (ops.Constant (constants.Int i.x))
resolved w m place i (rows.Load s) = Ok (ops.Load s (byte_of i.x))
resolved w m place i (rows.Store s) = Ok (ops.Store s (byte_of i.x))
resolved w m place i (rows.Increment width) = Ok (ops.Increment width (byte_of i.x) i.y)
resolved w m place i rows.CopyUnder = Ok (ops.Move (moves.CopyUnder (byte_of i.x / 16) (byte_of i.x % 16)))
resolved w m place i rows.Exchange = Ok (ops.Move (moves.Exchange (byte_of i.x / 16) (byte_of i.x % 16)))
resolved w m place i (rows.StaticRead k) = on ops.StaticRead (static_field (short_of i.x) k (member_at w m.package (short_of i.x)))
resolved w m place i (rows.StaticWrite k) = on ops.StaticWrite (static_field (short_of i.x) k (member_at w m.package (short_of i.x)))
resolved w m place i (rows.FieldRead k h) =
    on (λ f. ops.FieldRead f h) (instance_field w.classes (short_of i.x) k (member_at w m.package (short_of i.x)))
resolved w m place i (rows.FieldWrite k h) =
    on (λ f. ops.FieldWrite f h) (instance_field w.classes (short_of i.x) k (member_at w m.package (short_of i.x)))
resolved w m place i (rows.Call c) = on ops.Call (callee w m.package i c)
resolved w m place i rows.New = new_object w place (short_of i.x) (member_at w m.package (short_of i.x))
resolved w m place i rows.NewNumbers = Ok (ops.NewArray (array_of (byte_of i.x)))
resolved w m place i rows.NewReferences = on ops.NewArray (class_type ArrRef (short_of i.x) (member_at w m.package (short_of i.x)))
resolved w m place i (rows.TypeTest test) =
    on (ops.TypeTest test) (tested_type (byte_of i.x) (short_of i.y) (member_at w m.package (short_of i.y)))
resolved w m place i (rows.Return sort) = on ops.Return (result_returned w.classes sort m.sig.result)

-- the operation of the instruction at a place of a method's code, or the fault where its operands name nothing that it takes
abbrev pub Resolves : Linked → MethodRec → ℕ → Insn → Result Operation RuleFault → Type 0
Resolves w m place i r = r ≡ resolved w m place i (row_at i.op)

-- of the method that the site names
abbrev pub ResolvesAt : Linked → Site → Insn → Result Operation RuleFault → Type 0
ResolvesAt w site i r = IsSomeAnd (slice_get w.methods site.method) (λ m. Resolves w m site.place i r)
