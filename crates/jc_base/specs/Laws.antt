-- Laws of types and classes: the order of types and its joins, what is above a class, the cells of its instances, what these run, and the
-- interfaces that it implements.
use Rattle.std.specs.Prelude.{◌≡◌, ℕ, ◌<◌, ◌≤◌, ◌↔◌, ◌+◌, ◌++◌, List, length, Some, IsSomeAnd, IsTrue}
use Rattle.std.specs.Prelude.{Contains, slice_get}
use Rattle.jc_base.specs.declared.ty.Ty.{Ty}
use Rattle.jc_base.specs.declared.ty.Ty.TheVariants.{Class}
use Rattle.jc_base.specs.declared.record.MethodRec.{MethodRec}
use Rattle.jc_base.specs.Class.{ClassTable, IsClass, height, object}
use Rattle.jc_base.specs.Cell.{IsDeclared}
use Rattle.jc_base.specs.Order.{Below, IsJoin, IsKnown, IsAntisymmetric, rises_left, is_below, join_of}
use Rattle.jc_base.specs.Dispatch.{IsConcrete, is_concrete, public_of, cells_of, signature_of}
use Rattle.jc_base.specs.SameType.{same_type}
use Rattle.jc_base.specs.Linked.{IsInherited}
use Rattle.jc_base.specs.Interface.{extended, IsOrExtends, Implements, is_or_extends, implements, extended_count}

-- the order of types is decided, and so are its joins; no two types are below each other, and none rises for ever
pub record IsOrderOfTypes (t : ClassTable) : Type 0 where
  pub decided : (a b : Ty) → IsTrue (is_below t a b) ↔ Below t a b
  pub apart : (a b : Ty) → IsAntisymmetric t a b
  pub seldom : (a : Ty) → rises_left t a ≤ height t + 3
  pub joins : (a b : Ty) → IsKnown t a → IsKnown t b → IsJoin t a b (join_of t a b)
  pub one_join : {a b j k : Ty} → IsJoin t a b j → IsJoin t a b k → j ≡ k
  pub known : {a b j : Ty} → IsKnown t a → IsKnown t b → IsJoin t a b j → IsKnown t j
  pub rises : {a b j : Ty} → IsJoin t a b j → ¬ (Below t b a) → rises_left t j < rises_left t a

-- the types of signatures and fields name classes of the table
abbrev pub DeclaredAreKnown : ClassTable → Type 0
DeclaredAreKnown t = (ty : Ty) → IsDeclared t ty → IsKnown t ty

-- whether two types are equal is decided
abbrev pub SameTypeDecides : Type 0
SameTypeDecides = (a b : Ty) → IsTrue (same_type a b) ↔ (a ≡ b)

-- every class is object or a subclass of it
abbrev pub ClassesAreObjects : ClassTable → Type 0
ClassesAreObjects t = (c : ℕ) → IsClass t c → Below t (Class c) (Class (object t))

-- cells that begin with those of another list
pub record BeginWith (cells first : List Ty) : Type 0 where
  pub more : List Ty
  pub whole : cells ≡ first ++ more

-- the cells of a subclass begin with those of its superclass
abbrev pub InstancesExtend : ClassTable → Type 0
InstancesExtend t = (c d : ℕ) → Below t (Class c) (Class d) → BeginWith (cells_of t c) (cells_of t d)

-- the method that an object of class r runs at a token of the public list, where a class above has n: it has the signature of n, and r is
-- the class that has it or a subclass of that
pub record RunsPublic (t : ClassTable) (methods : List MethodRec) (r token n : ℕ) : Type 0 where
  pub method : ℕ
  pub found : slice_get (public_of t r) token ≡ Some method
  pub signature : signature_of methods method ≡ signature_of methods n
  pub inherited : IsSomeAnd (slice_get methods method) (IsInherited t r)

-- at each token of the public list of a class, from 128 on too, an object of a class below it runs a method
abbrev pub PublicMethodsRun : ClassTable → List MethodRec → Type 0
PublicMethodsRun t methods =
    (r c token n : ℕ)
    → Below t (Class r) (Class c)
    → slice_get (public_of t c) token ≡ Some n
    → RunsPublic t methods r token n

-- the computed answer is that of the definition
abbrev pub ConcreteDecides : ClassTable → List MethodRec → Type 0
ConcreteDecides t methods = (c : ℕ) → IsTrue (is_concrete t methods c) ↔ IsConcrete t methods c

-- whatever the classes and methods are
abbrev pub ConcreteIsDecided : Type 0
ConcreteIsDecided = (t : ClassTable) (methods : List MethodRec) → ConcreteDecides t methods

abbrev pub ImplementsDecides : ClassTable → Type 0
ImplementsDecides t = (c j : ℕ) → IsTrue (implements t c j) ↔ Implements t c j

abbrev pub ExtendsDecides : ClassTable → Type 0
ExtendsDecides t = (i j : ℕ) → IsTrue (is_or_extends t i j) ↔ IsOrExtends t i j

-- a search along the interfaces that others extend ends: each of them extends fewer
pub record ExtendsEnds (t : ClassTable) : Type 0 where
  pub fewer : (i j : ℕ) → Contains (extended t i) j → extended_count t j < extended_count t i
  pub most : (i : ℕ) → extended_count t i ≤ length t.records
