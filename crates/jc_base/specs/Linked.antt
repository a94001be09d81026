-- What holds of each record of a linked world (JCVM 2.2, chapters 4 and 6).
use Rattle.std.specs.Prelude.{◌≡◌, ℕ, zero, suc, ◌+◌, ◌≤◌, ◌<◌, Bool, true, false, if◌then◌else◌, ◌||◌}
use Rattle.std.specs.Prelude.{◌==◌, ◌++◌, List, [], ◌∷◌, length, Option, Some, None, IfSome, IsSome, IsSomeAnd, MatchBool}
use Rattle.std.specs.Prelude.{All, Any, Contains, slice_get, option_and_then, ⊤}
use Rattle.jc_base.specs.declared.ty.Ty.{Ty}
use Rattle.jc_base.specs.declared.ty.Ty.TheVariants.{Class, IntLow}
use Rattle.jc_base.specs.declared.ty.Kind.{Kind}
use Rattle.jc_base.specs.declared.ty.Kind.TheVariants as kinds
use Rattle.jc_base.specs.declared.record.Member.{Member}
use Rattle.jc_base.specs.declared.record.Member.TheVariants.{ClassOf, Field, Static, Virtual, Super, StaticCall}
use Rattle.jc_base.specs.declared.record.Handler.{Handler}
use Rattle.jc_base.specs.declared.record.Iface.{Iface}
use Rattle.jc_base.specs.declared.record.ClassRec.{ClassRec}
use Rattle.jc_base.specs.declared.record.MethodRec.{MethodRec}
use Rattle.jc_base.specs.declared.record.StaticRec.{StaticRec}
use Rattle.jc_base.specs.declared.record.ArrayRec.{ArrayRec}
use Rattle.jc_base.specs.Class.{ClassTable, IsClass, is_interface, parent_of, throwable, list_of}
use Rattle.jc_base.specs.Order.{Below}
use Rattle.jc_base.specs.Cell.{IsDeclared, AreWhole, IsFirstCell, IsOfKind, width, AreInitialWords}
use Rattle.jc_base.specs.Dispatch.{package_of, public_of, visible_of, cell_count, cells_of, entry_at, dispatched, signature_of}
use Rattle.jc_base.specs.Dispatch.{signature_at}

-- ---- methods

-- the list of a number, and none past the end
abbrev pub list_at : {A : Type 0} → List (List A) → ℕ → List A
list_at [] n = []
list_at (xs ∷ xss) zero = xs
list_at (xs ∷ xss) (suc n) = list_at xss n

-- what a handler catches: pool number 0 stands for all, any other for the class that it names
abbrev pub Catches : ClassTable → List Member → ℕ → ℕ → Type 0
Catches t pool zero c = c ≡ throwable t
Catches t pool (suc k) c = slice_get pool (suc k) ≡ Some (ClassOf c)

-- a handler whose range and entry lie in code of the length, and which catches a class below throwable
pub record IsHandler (t : ClassTable) (pool : List Member) (len : ℕ) (h : Handler) : Type 0 where
  pub range : h.start ≤ h.end
  pub inside : h.end ≤ len
  pub entry : h.entry < len
  pub catches : Catches t pool h.index h.class
  pub class : IsClass t h.class
  pub thrown : Below t (Class h.class) (Class (throwable t))

-- the words that stand for the receiver
abbrev pub receiver_words : Bool → ℕ
receiver_words is_static = if is_static then 0 else 1

-- whether a method has no code: an abstract one, or one of an interface
abbrev pub lacks_code : ClassTable → MethodRec → Bool
lacks_code t m = m.is_abstract || is_interface t m.class

-- the length of the code of a method that has one
pub record IsCodeLength (len : ℕ) : Type 0 where
  pub least : 0 < len
  pub most : len ≤ 32767

pub record IsMethod (infos : List (List ℕ)) (pools : List (List Member)) (t : ClassTable) (m : MethodRec) : Type 0 where
  pub home : m.package < length infos
  pub class : m.class < length t.records
  -- its argument words are those of its signature, after the receiver where it is not static
  pub words : m.nargs ≡ length m.sig.args + receiver_words m.is_static
  pub registers : m.nargs + m.max_locals ≤ 255
  pub arguments : All (IsDeclared t) m.sig.args
  pub result : IfSome m.sig.result (IsDeclared t)
  -- an int takes two argument words, high then low; of a result the first cell's type is told
  pub whole : AreWhole m.sig.args
  pub first : IfSome m.sig.result IsFirstCell
  pub code : MatchBool (lacks_code t m) (m.code_len ≡ 0) (IsCodeLength m.code_len)
  -- its code lies in the Method info of its package
  pub inside : m.code_at + m.code_len ≤ length (list_at infos m.package)
  pub handlers : All (IsHandler t (list_at pools m.package) m.code_len) m.handlers
  -- a Method component counts its handlers in one byte
  pub few_handlers : length m.handlers ≤ 255

-- ---- classes

-- a method that stands in a dispatch list of a class: it is of the class or of one of its superclasses, not static, and no constructor
pub record IsInherited (t : ClassTable) (c : ℕ) (m : MethodRec) : Type 0 where
  pub class : Below t (Class c) (Class m.class)
  pub dynamic : m.is_static ≡ false
  pub no_constructor : m.is_init ≡ false

-- a dispatch list of a class that is made from an inherited list: at least as long, with the signature of each entry that it replaces
pub record IsDispatch (t : ClassTable) (methods : List MethodRec) (c : ℕ) (inherited list : List ℕ) : Type 0 where
  pub longer : length inherited ≤ length list
  pub entries : All (λ n. IsSomeAnd (slice_get methods n) (IsInherited t c)) list
  pub signatures : (token : ℕ) → token < length inherited → signature_at methods list token ≡ signature_at methods inherited token

-- the list from which the package-visible list of a class is made: that of its superclass, where this is of the same package
abbrev pub visible_from : ClassTable → ℕ → ℕ → List ℕ
visible_from t home p = if package_of t p == home then visible_of t p else []

-- an implemented interface: each method that the interface describes has a public token of the class, with its signature
pub record IsImplemented (t : ClassTable) (methods : List MethodRec) (public : List ℕ) (i : Iface) : Type 0 where
  pub number : i.class < length t.records
  pub interface : is_interface t i.class ≡ true
  pub serves :
      All
      (λ m.
      m.class ≡ i.class
      → option_and_then (signature_at methods public) (slice_get i.tokens m.token)
      ≡ Some m.sig) methods

-- an interface that an interface extends; nothing is asked of tokens, which a search for a method never reads there
pub record IsExtended (t : ClassTable) (i : Iface) : Type 0 where
  pub number : i.class < length t.records
  pub interface : is_interface t i.class ≡ true

-- the interfaces that an interface extends, or those that a class implements
abbrev pub AreInterfaces : ClassTable → List MethodRec → ClassRec → Type 0
AreInterfaces t methods r = MatchBool r.interface (All (IsExtended t) r.implements) (All (IsImplemented t methods r.public) r.implements)

-- how many cells the superclass has
abbrev pub cells_above : ClassTable → Option ℕ → ℕ
cells_above t None = 0
cells_above t (Some p) = cell_count t p

-- class c of a world of so many packages
pub record IsLinkedClass (packages : ℕ) (t : ClassTable) (methods : List MethodRec) (c : ℕ) (r : ClassRec) : Type 0 where
  pub home : r.package < packages
  -- its superclass is of the same package or of an earlier one
  pub earlier : IfSome (parent_of t c) (λ p. package_of t p ≤ r.package)
  -- its cells are those of its superclass and then its own
  pub cells : r.cells ≡ cells_above t (parent_of t c) + length r.own
  pub size : r.cells ≤ 32767
  pub own : All (IsDeclared t) r.own
  pub public : IsDispatch t methods c (list_of (public_of t) (parent_of t c)) r.public
  pub visible : IsDispatch t methods c (list_of (visible_from t r.package) (parent_of t c)) r.visible
  pub implements : AreInterfaces t methods r

-- each record at its number
abbrev pub AreLinkedClasses : ℕ → ClassTable → List MethodRec → Type 0
AreLinkedClasses packages t methods = (c : ℕ) → IfSome (slice_get t.records c) (IsLinkedClass packages t methods c)

-- the method that an object of class r runs for a token of class c, whose own entry there is n: it
-- is there, has the signature of n, and may stand in a list of r
pub record Dispatches (t : ClassTable) (methods : List MethodRec) (c token r n : ℕ) : Type 0 where
  pub method : ℕ
  pub found : dispatched t c token r ≡ Some method
  pub signature : signature_of methods method ≡ signature_of methods n
  pub inherited : IsSomeAnd (slice_get methods method) (IsInherited t r)

-- an object of a class below another runs a method for each entry of the other's lists
abbrev pub AreDispatched : ClassTable → List MethodRec → Type 0
AreDispatched t methods =
    (c token r n : ℕ) → Below t (Class r) (Class c) → entry_at t c token ≡ Some n → Dispatches t methods c token r n

-- ---- static fields

pub record IsStatic (packages : ℕ) (t : ClassTable) (arrays : List ArrayRec) (f : StaticRec) : Type 0 where
  pub home : f.package < packages
  pub ty : IsDeclared t f.ty
  pub kind : IsOfKind f.kind f.ty
  pub words : AreInitialWords t arrays f.kind f.ty f.initial

-- the cells of the static fields, in their order, follow one another from a cell on: so no two fields share one
abbrev pub AreSlots : ℕ → List StaticRec → Type 0
AreSlots slot [] = Unit {0}
AreSlots slot (f ∷ fs) = (f.slot ≡ slot) × AreSlots (slot + width f.kind) fs

-- ---- members

-- the second cell of a field of kind int is the low half
abbrev pub HasLowHalf : Kind → List Ty → ℕ → Type 0
HasLowHalf kinds.Int cells cell = slice_get cells (cell + 1) ≡ Some IntLow
HasLowHalf _ cells cell = ⊤

-- the cells of an instance field have its type
pub record IsField (t : ClassTable) (c cell : ℕ) (k : Kind) (ty : Ty) : Type 0 where
  pub class : IsClass t c
  pub kind : IsOfKind k ty
  pub first : slice_get (cells_of t c) cell ≡ Some ty
  pub second : HasLowHalf k (cells_of t c) cell

-- the slot, the kind and the type of a static field
pub record IsSlotOf (cell : ℕ) (k : Kind) (u : Ty) (f : StaticRec) : Type 0 where
  pub slot : f.slot ≡ cell
  pub kind : f.kind ≡ k
  pub ty : f.ty ≡ u

-- what an entry of a constant pool names is there
abbrev pub IsMember : ClassTable → List MethodRec → List StaticRec → Member → Type 0
IsMember t methods statics (ClassOf c) = c < length t.records
IsMember t methods statics (Field c cell k ty) = IsField t c cell k ty
IsMember t methods statics (Static slot k ty) = Any (IsSlotOf slot k ty) statics
IsMember t methods statics (Virtual c token) = IsClass t c × IsSome (entry_at t c token)
IsMember t methods statics (Super c n) = IsClass t c × IsSomeAnd (parent_of t c) (λ p. Contains (public_of t p ++ visible_of t p) n)
IsMember t methods statics (StaticCall n) = n < length methods
