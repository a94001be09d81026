-- What holds of a resolved operation: what it speaks of is in the world, so that nothing else of the constant pool
-- and of the place is needed to run it (JCVM 2.2, sections 6.7 and 7.5).
use Rattle.std.specs.Prelude.{◌≡◌, ℕ, ◌+◌, ◌<◌, ◌≤◌, true, false, List, length, Option, Some, None, IsSomeAnd, IfSome}
use Rattle.std.specs.Prelude.{Result, Ok, Err, Any, slice_get, ⊤}
use Rattle.jc_base.specs.declared.ty.Ty.{Ty}
use Rattle.jc_base.specs.declared.ty.Ty.TheVariants.{IntLow, Class, ArrBool, ArrByte, ArrShort, ArrInt, ArrRef}
use Rattle.jc_base.specs.declared.record.Member.{Member}
use Rattle.jc_base.specs.declared.record.Member.TheVariants.{ClassOf, Field, Static, Virtual, Super, StaticCall}
use Rattle.jc_base.specs.declared.record.MethodRec.{MethodRec}
use Rattle.jc_base.specs.Class.{ClassTable, IsClass, is_interface, object}
use Rattle.jc_base.specs.Order.{Below, IsKnown, IsArray}
use Rattle.jc_base.specs.Dispatch.{IsConcrete, entry_at}
use Rattle.jc_base.specs.Cell.{IsDeclared, IsOfKind}
use Rattle.jc_base.specs.Linked.{IsField, IsInherited, IsSlotOf, lacks_code}
use Rattle.jc_base.specs.World.{Linked}
use Rattle.jc_decode.specs.declared.insn.Insn.{Insn}
use Rattle.jc_ops.specs.declared.fault.RuleFault.{RuleFault}
use Rattle.jc_ops.specs.declared.fault.RuleFault.TheVariants.{NotConcrete}
use Rattle.jc_ops.specs.declared.operation.Want.{Want}
use Rattle.jc_ops.specs.declared.operation.Want.TheVariants.{Value, Receiver}
use Rattle.jc_ops.specs.declared.operation.Move.{Move}
use Rattle.jc_ops.specs.declared.operation.Move.TheVariants as moves
use Rattle.jc_ops.specs.declared.operation.StaticField.{StaticField}
use Rattle.jc_ops.specs.declared.operation.InstanceField.{InstanceField}
use Rattle.jc_ops.specs.declared.operation.Choice.{Choice}
use Rattle.jc_ops.specs.declared.operation.Choice.TheVariants as choices
use Rattle.jc_ops.specs.declared.operation.Callee.{Callee}
use Rattle.jc_ops.specs.declared.operation.Operation.{Operation}
use Rattle.jc_ops.specs.declared.operation.Operation.TheVariants as ops
use Rattle.jc_ops.specs.Resolve.{Resolves, described, only}

-- each class number in what is wanted names a class, and no interface
abbrev pub IsKnownWant : ClassTable → Want → Type 0
IsKnownWant t (Value wanted) = IsKnown t wanted
IsKnownWant t (Receiver c) = IsClass t c
IsKnownWant t _ = ⊤

-- the words of a receiver
abbrev pub receiver_count : Option Want → ℕ
receiver_count None = 0
receiver_count (Some want) = 1

-- the two nibbles of an operand
abbrev pub IsMove : Move → Type 0
IsMove (moves.CopyUnder copied under) = copied + under ≤ 255
IsMove (moves.Exchange top under) = top + under ≤ 255
IsMove _ = ⊤

-- a static field of the world
pub record IsStaticOf (w : Linked) (f : StaticField) : Type 0 where
  pub there : Any (IsSlotOf f.slot f.kind f.ty) w.statics
  pub kind : IsOfKind f.kind f.ty
  pub ty : IsDeclared w.classes f.ty

-- an instance field of a class of the world that is not object
pub record IsFieldOf (w : Linked) (f : InstanceField) : Type 0 where
  pub cells : IsField w.classes f.class f.cell f.kind f.ty
  pub ty : IsDeclared w.classes f.ty
  pub not_object : ¬ (f.class ≡ object w.classes)

-- the entry that a class has at a token; a method of object has a body, since an array may receive it
pub record IsVirtualCall (w : Linked) (n : ℕ) (m : MethodRec) (receiver : Option Want) (c token : ℕ) : Type 0 where
  pub class : IsClass w.classes c
  pub entry : entry_at w.classes c token ≡ Some n
  pub receiver_is : receiver ≡ Some (Value (Class c))
  pub inherited : IsInherited w.classes c m
  pub body : c ≡ object w.classes → m.is_abstract ≡ false

-- a constructor takes an object of its class, ready or not; another method takes one of a class at or below its own
abbrev pub IsReceiverOf : Linked → MethodRec → Option Want → Type 0
IsReceiverOf w m (Some (Receiver c)) = (m.is_init ≡ true) × (c ≡ m.class) × IsClass w.classes c
IsReceiverOf w m (Some (Value (Class c))) = (m.is_init ≡ false) × IsClass w.classes c × Below w.classes (Class c) (Class m.class)
IsReceiverOf w m _ = ⊥

-- a method of an object that runs as it is named
pub record IsSpecialCall (w : Linked) (m : MethodRec) (receiver : Option Want) : Type 0 where
  pub body : lacks_code w.classes m ≡ false
  pub dynamic : m.is_static ≡ false
  pub receives : IsReceiverOf w m receiver

pub record IsStaticCall (w : Linked) (m : MethodRec) (receiver : Option Want) : Type 0 where
  pub body : lacks_code w.classes m ≡ false
  pub static : m.is_static ≡ true
  pub no_constructor : m.is_init ≡ false
  pub receiver_is : receiver ≡ None

-- the only method that an interface describes under a token; any object may be the receiver
pub record IsInterfaceCall (w : Linked) (n : ℕ) (m : MethodRec) (receiver : Option Want) (c token words : ℕ) : Type 0 where
  pub interface : is_interface w.classes c ≡ true
  pub described_is : only (described w.methods c token) ≡ Some n
  pub class : m.class ≡ c
  pub token_is : m.token ≡ token
  pub words_are : words ≡ length m.sig.args + 1
  pub receiver_is : receiver ≡ Some (Value (Class (object w.classes)))

abbrev pub IsChosen : Linked → ℕ → MethodRec → Option Want → Choice → Type 0
IsChosen w n m receiver (choices.Virtual c token) = IsVirtualCall w n m receiver c token
IsChosen w n m receiver choices.Special = IsSpecialCall w m receiver
IsChosen w n m receiver choices.Static = IsStaticCall w m receiver
IsChosen w n m receiver (choices.Interface c token words) = IsInterfaceCall w n m receiver c token words

-- a method of the world, whose arguments fit on a stack with the receiver
pub record IsCalleeOf (w : Linked) (c : Callee) : Type 0 where
  pub rec : MethodRec
  pub is_method : slice_get w.methods c.method ≡ Some rec
  pub chosen : IsChosen w c.method rec c.receiver c.choice
  pub known : IfSome c.receiver (IsKnownWant w.classes)
  pub room : length rec.sig.args + receiver_count c.receiver ≤ 255

-- a class, an interface or an array, whose class or interface is there
abbrev pub IsNamedType : ClassTable → Ty → Type 0
IsNamedType t (Class c) = c < length t.records
IsNamedType t ArrBool = ⊤
IsNamedType t ArrByte = ⊤
IsNamedType t ArrShort = ⊤
IsNamedType t ArrInt = ⊤
IsNamedType t (ArrRef c) = c < length t.records
IsNamedType t _ = ⊥

-- a result has a declared type, which is no low half of an int
pub record IsResult (t : ClassTable) (ty : Ty) : Type 0 where
  pub declared : IsDeclared t ty
  pub no_low : ¬ (ty ≡ IntLow)

-- what the operation of an instruction at a place of a method's code speaks of is there
abbrev pub IsSound : Linked → MethodRec → ℕ → Operation → Type 0
IsSound w m place (ops.Move move) = IsMove move
IsSound w m place (ops.StaticRead f) = IsStaticOf w f
IsSound w m place (ops.StaticWrite f) = IsStaticOf w f
IsSound w m place (ops.FieldRead f h) = IsFieldOf w f
IsSound w m place (ops.FieldWrite f h) = IsFieldOf w f
IsSound w m place (ops.Call c) = IsCalleeOf w c
IsSound w m place (ops.New p c) = (p ≡ place) × IsConcrete w.classes w.methods c
IsSound w m place (ops.NewArray ty) = IsArray ty × IsNamedType w.classes ty
IsSound w m place (ops.TypeTest test ty) = IsNamedType w.classes ty
IsSound w m place (ops.Return result) = (result ≡ m.sig.result) × IfSome result (IsResult w.classes)
IsSound w m place _ = ⊤

-- each operation of an instruction is sound, in code of any method with a declared result, of the world or not
abbrev pub OperationsAreSound : Linked → Type 0
OperationsAreSound w =
    (m : MethodRec) (place : ℕ) (i : Insn) (op : Operation)
    → IfSome m.sig.result (IsDeclared w.classes)
    → Resolves w m place i (Ok op)
    → IsSound w m place op

-- an instruction of a method has one operation, or one fault
abbrev pub OperationsAreDecided : Linked → Type 0
OperationsAreDecided w =
    (m : MethodRec) (place : ℕ) (i : Insn) (r s : Result Operation RuleFault)
    → Resolves w m place i r
    → Resolves w m place i s
    → r ≡ s

-- an instruction is refused for a class only where no objects can be made of it
abbrev pub RefusesAbstract : Linked → Type 0
RefusesAbstract w =
    (m : MethodRec) (place : ℕ) (i : Insn) (c : ℕ)
    → Resolves w m place i (Err (NotConcrete c))
    → ¬ (IsConcrete w.classes w.methods c)

-- ---- what a linked world says of the entries of a constant pool

-- a method that takes a receiver and whose arguments fit on a stack with it
pub record TakesReceiver (methods : List MethodRec) (n : ℕ) : Type 0 where
  pub number : n < length methods
  pub room : IsSomeAnd (slice_get methods n) (λ m. length m.sig.args + 1 ≤ 255)

-- the numbers and types of an entry
abbrev pub IsKnownMember : Linked → Member → Type 0
IsKnownMember w (ClassOf c) = c < length w.classes.records
IsKnownMember w (Field c cell kind ty) = IsClass w.classes c × IsKnown w.classes ty
IsKnownMember w (Static slot kind ty) = IsKnown w.classes ty
IsKnownMember w (Virtual c token) = IsClass w.classes c × IfSome (entry_at w.classes c token) (TakesReceiver w.methods)
IsKnownMember w (Super c n) = IsClass w.classes c × TakesReceiver w.methods n
IsKnownMember w (StaticCall n) = n < length w.methods
