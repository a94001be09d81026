-- The order of types and its join (Leroy 2002, section 2.1; JCVM 2.2, section 2.2).
use Rattle.std.specs.Prelude.{◌≡◌, ℕ, ◌+◌, ◌<◌, ◌⊎◌, length, Bool, true, false, if◌then◌else◌, ◌&&◌}
use Rattle.std.specs.Prelude.{◌==◌, Some, find, unwrap_or, ⊤}
use Rattle.std.specs.List.{list_any}
use Rattle.jc_base.specs.declared.ty.Ty.{Ty}
use Rattle.jc_base.specs.declared.ty.Ty.TheVariants.{Bottom, Short, IntHigh, IntLow, Null, Class, ArrBool, ArrByte, ArrShort, ArrInt}
use Rattle.jc_base.specs.declared.ty.Ty.TheVariants.{ArrRef, Fresh, Top}
use Rattle.jc_base.specs.Class.{ClassTable, IsClass, parent_of, chain, height, object}

-- the types of arrays
pub data IsArray : Ty → Type 0 where
  of_booleans : IsArray ArrBool
  of_bytes : IsArray ArrByte
  of_shorts : IsArray ArrShort
  of_ints : IsArray ArrInt
  of_references : {c : ℕ} → IsArray (ArrRef c)

-- the type a is below the type b: the least reflexive and transitive relation with these pairs
pub data Below (t : ClassTable) : Ty → Ty → Type 0 where
  same : {a : Ty} → Below t a a
  joined : {a b c : Ty} → Below t a b → Below t b c → Below t a c
  nothing : {b : Ty} → Below t Bottom b
  anything : {a : Ty} → Below t a Top
  null_object : {c : ℕ} → Below t Null (Class c)
  null_array : {b : Ty} → IsArray b → Below t Null b
  subclass : {c p : ℕ} → parent_of t c ≡ Some p → Below t (Class c) (Class p)
  array_object : {a : Ty} {c : ℕ} → IsArray a → c ≡ object t → Below t a (Class c)
  array_array : {c d : ℕ} → Below t (Class c) (Class d) → Below t (ArrRef c) (ArrRef d)

-- the type j is the least above a and b
pub record IsJoin (t : ClassTable) (a b j : Ty) : Type 0 where
  pub left : Below t a j
  pub right : Below t b j
  pub least : (u : Ty) → Below t a u → Below t b u → Below t j u

-- each class number in a type names a class, and no interface
abbrev pub IsKnown : ClassTable → Ty → Type 0
IsKnown t (Class c) = IsClass t c
IsKnown t (ArrRef c) = IsClass t c
IsKnown t (Fresh place c) = IsClass t c
IsKnown t _ = ⊤

-- how many times the type of a cell can rise at most: a class once for each class on its chain, to Top in the end
unfoldable pub rises_left : ClassTable → Ty → ℕ
rises_left t Bottom = height t + 3
rises_left t Null = height t + 2
rises_left t (ArrRef c) = length (chain t c) + 1
rises_left t (Class c) = length (chain t c)
rises_left t ArrBool = 2
rises_left t ArrByte = 2
rises_left t ArrShort = 2
rises_left t ArrInt = 2
rises_left t Short = 1
rises_left t IntHigh = 1
rises_left t IntLow = 1
rises_left t (Fresh place c) = 1
rises_left t Top = 0

-- a type stays as it is, or has fewer rises left
abbrev pub StaysOrRises : ClassTable → Ty → Ty → Type 0
StaysOrRises t a b = (a ≡ b) ⊎ (rises_left t b < rises_left t a)

-- no two different types are below each other
abbrev pub IsAntisymmetric : ClassTable → Ty → Ty → Type 0
IsAntisymmetric t a b = Below t a b → Below t b a → a ≡ b

-- the join j of a and b is below the join of any types above them
abbrev pub IsMonotone : ClassTable → Ty → Ty → Ty → Type 0
IsMonotone t a b j = (c d k : Ty) → Below t a c → Below t b d → IsJoin t c d k → Below t j k

-- ---- the order and the join as they are computed, by chains of superclasses

-- whether class d is class c or one of its superclasses
unfoldable pub is_on_chain : ClassTable → ℕ → ℕ → Bool
is_on_chain t d c = list_any (λ x. x == d) (chain t c)

-- a class or an array
abbrev pub is_reference : Ty → Bool
is_reference (Class c) = true
is_reference ArrBool = true
is_reference ArrByte = true
is_reference ArrShort = true
is_reference ArrInt = true
is_reference (ArrRef c) = true
is_reference _ = false

-- a type that is above every array and is no array
abbrev pub is_above_arrays : ClassTable → Ty → Bool
is_above_arrays t (Class d) = d == object t
is_above_arrays t Top = true
is_above_arrays t _ = false

-- whether a type is below another
unfoldable pub is_below : ClassTable → Ty → Ty → Bool
is_below t Bottom b = true
is_below t a Top = true
is_below t Short Short = true
is_below t IntHigh IntHigh = true
is_below t IntLow IntLow = true
is_below t Null Null = true
is_below t Null b = is_reference b
is_below t (Class c) (Class d) = is_on_chain t d c
is_below t ArrBool ArrBool = true
is_below t ArrBool b = is_above_arrays t b
is_below t ArrByte ArrByte = true
is_below t ArrByte b = is_above_arrays t b
is_below t ArrShort ArrShort = true
is_below t ArrShort b = is_above_arrays t b
is_below t ArrInt ArrInt = true
is_below t ArrInt b = is_above_arrays t b
is_below t (ArrRef c) (ArrRef d) = is_on_chain t d c
is_below t (ArrRef c) b = is_above_arrays t b
is_below t (Fresh p c) (Fresh q d) = p == q && c == d
is_below t a b = false

-- the first class on the chain of c that is on the chain of d too
unfoldable pub common : ClassTable → ℕ → ℕ → ℕ
common t c d = unwrap_or (find (λ x. is_on_chain t x d) (chain t c)) (object t)

-- the join of two types that are not both classes, and not both arrays of classes
abbrev pub join_of_others : ClassTable → Ty → Ty → Ty
join_of_others t a b = if is_below t a b then b else if is_below t b a then a
    else if is_reference a && is_reference b then Class (object t) else Top

-- the join of two types
unfoldable pub join_of : ClassTable → Ty → Ty → Ty
join_of t (Class c) (Class d) = Class (common t c d)
join_of t (ArrRef c) (ArrRef d) = ArrRef (common t c d)
join_of t a b = join_of_others t a b
