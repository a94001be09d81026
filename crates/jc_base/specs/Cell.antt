-- Types and kinds of cells, and the words that a cell starts with (JCVM 2.2, sections 2.2 and 6.10).
use Rattle.std.specs.Prelude.{◌≡◌, ℕ, zero, suc, ◌≤◌, ◌<◌, ◌%◌, ◌⊎◌, List, [], ◌∷◌, length, IsSomeAnd}
use Rattle.std.specs.Prelude.{All, slice_get, ⊤}
use Rattle.jc_base.specs.declared.ty.Ty.{Ty}
use Rattle.jc_base.specs.declared.ty.Ty.TheVariants.{Bottom, Short, IntHigh, IntLow, Null, Class, ArrBool, ArrByte, ArrShort, ArrInt}
use Rattle.jc_base.specs.declared.ty.Ty.TheVariants.{ArrRef, Fresh, Top}
use Rattle.jc_base.specs.declared.ty.Kind.{Kind}
use Rattle.jc_base.specs.declared.ty.Kind.TheVariants as kinds
use Rattle.jc_base.specs.declared.record.ArrayRec.{ArrayRec}
use Rattle.jc_base.specs.Class.{ClassTable, IsClass}
use Rattle.jc_base.specs.Order.{Below}

-- a type that a signature or a field can have: short, part of an int, a class, or an array, whose class, where it has one, is no interface
abbrev pub IsDeclared : ClassTable → Ty → Type 0
IsDeclared t Bottom = ⊥
IsDeclared t Short = ⊤
IsDeclared t IntHigh = ⊤
IsDeclared t IntLow = ⊤
IsDeclared t Null = ⊥
IsDeclared t (Class c) = IsClass t c
IsDeclared t ArrBool = ⊤
IsDeclared t ArrByte = ⊤
IsDeclared t ArrShort = ⊤
IsDeclared t ArrInt = ⊤
IsDeclared t (ArrRef c) = IsClass t c
IsDeclared t (Fresh place c) = ⊥
IsDeclared t Top = ⊥

-- not half an int
abbrev pub IsNoHalf : Ty → Type 0
IsNoHalf IntHigh = ⊥
IsNoHalf IntLow = ⊥
IsNoHalf _ = ⊤

-- cells of whole values: an int takes two, the high half and then the low one, and no half stands alone
pub data AreWhole : List Ty → Type 0 where
  no_cells : AreWhole []
  whole_int : {types : List Ty} → AreWhole types → AreWhole (IntHigh ∷ IntLow ∷ types)
  one_cell : {a : Ty} {types : List Ty} → IsNoHalf a → AreWhole types → AreWhole (a ∷ types)

-- the type of the first cell of a value
abbrev pub IsFirstCell : Ty → Type 0
IsFirstCell IntLow = ⊥
IsFirstCell _ = ⊤

-- a class or an array type
abbrev pub IsReference : Ty → Type 0
IsReference (Class c) = ⊤
IsReference ArrBool = ⊤
IsReference ArrByte = ⊤
IsReference ArrShort = ⊤
IsReference ArrInt = ⊤
IsReference (ArrRef c) = ⊤
IsReference _ = ⊥

-- the type of the first cell of a field of a kind
abbrev pub IsOfKind : Kind → Ty → Type 0
IsOfKind kinds.Ref ty = IsReference ty
IsOfKind kinds.Byte ty = ty ≡ Short
IsOfKind kinds.Short ty = ty ≡ Short
IsOfKind kinds.Int ty = ty ≡ IntHigh

-- how many cells a field of a kind takes
abbrev pub width : Kind → ℕ
width kinds.Int = 2
width _ = 1

-- a byte with its sign in the upper half of the word
abbrev pub IsByteWord : ℕ → Type 0
IsByteWord w = (w < 128) ⊎ (65408 ≤ w)

-- null, or the handle of an initial array of a type below; handles count from 1
abbrev pub IsInitialHandle : ClassTable → List ArrayRec → Ty → ℕ → Type 0
IsInitialHandle t arrays ty zero = ⊤
IsInitialHandle t arrays ty (suc k) = IsSomeAnd (slice_get arrays k) (λ a. Below t a.kind ty)

-- the initial words of a static field have its type
abbrev pub AreInitialWords : ClassTable → List ArrayRec → Kind → Ty → List ℕ → Type 0
AreInitialWords t arrays kinds.Ref ty (h ∷ []) = IsInitialHandle t arrays ty h
AreInitialWords t arrays kinds.Byte ty (w ∷ []) = IsByteWord w
AreInitialWords t arrays kinds.Short ty (w ∷ []) = ⊤
AreInitialWords t arrays kinds.Int ty (high ∷ low ∷ []) = ⊤
AreInitialWords t arrays _ ty _ = ⊥

-- the initial words of an array have the type of its elements; an int element takes two
abbrev pub AreElementsOf : Ty → List ℕ → Type 0
AreElementsOf ArrBool ws = All IsByteWord ws
AreElementsOf ArrByte ws = All IsByteWord ws
AreElementsOf ArrShort ws = ⊤
AreElementsOf ArrInt ws = length ws % 2 ≡ 0
AreElementsOf _ ws = ⊥
