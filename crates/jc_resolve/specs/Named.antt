-- What holds of named classes and methods (JCVM 2.2, chapter 6).
use Rattle.std.specs.Prelude.{◌≡◌, ℕ, ◌+◌, ◌≤◌, ◌<◌, ◌⊎◌, Bool, true, false, ◌||◌, List, [], length, map}
use Rattle.std.specs.Prelude.{Option, Some, None, All, IfSome, MatchBool, slice_get, ⊤}
use Rattle.cap_package.specs.PackageRecord.{PackageRecord}
use Rattle.cap_package.specs.StandsFor.{StandsFor}
use Rattle.jc_base.specs.declared.ty.Ty.{Ty}
use Rattle.jc_base.specs.declared.ty.Ty.TheVariants.{Bottom, Short, IntHigh, IntLow, Null, Class, ArrBool, ArrByte, ArrShort, ArrInt}
use Rattle.jc_base.specs.declared.ty.Ty.TheVariants.{ArrRef, Fresh, Top}
use Rattle.jc_base.specs.declared.record.Handler.{Handler}
use Rattle.jc_base.specs.declared.record.Iface.{Iface}
use Rattle.jc_base.specs.declared.record.MethodRec.{MethodRec}
use Rattle.jc_base.specs.Cell.{AreWhole, IsFirstCell}
use Rattle.jc_base.specs.Linked.{receiver_words, list_at, IsCodeLength}
use Rattle.jc_resolve.specs.declared.naming.NamedClass.{NamedClass}
use Rattle.jc_resolve.specs.declared.naming.DispatchTable.{DispatchTable}

-- ---- packages

-- the Method info of each package
abbrev pub infos_of : List PackageRecord → List (List ℕ)
infos_of = map (λ (p : PackageRecord). p.methods.info)

-- the parts of a package stand for it
abbrev pub IsAgreed : PackageRecord → Type 0
IsAgreed p = StandsFor p.parts p

-- ---- classes by number

abbrev pub interface_by : Option NamedClass → Bool
interface_by None = false
interface_by (Some c) = c.interface

-- whether a number is that of an interface
unfoldable pub is_interface : List NamedClass → ℕ → Bool
is_interface classes c = interface_by (slice_get classes c)

abbrev pub package_by : Option NamedClass → ℕ
package_by None = 0
package_by (Some c) = c.package

-- the package of a class
unfoldable pub package_of : List NamedClass → ℕ → ℕ
package_of classes c = package_by (slice_get classes c)

-- ---- types

-- class object, or a class that is no interface
abbrev pub IsTypeClass : List NamedClass → ℕ → ℕ → Type 0
IsTypeClass classes object c = (c ≡ object) ⊎ ((c < length classes) × (is_interface classes c ≡ false))

-- a type that a signature or a field can have
abbrev pub IsDeclared : List NamedClass → ℕ → Ty → Type 0
IsDeclared classes object Bottom = ⊥
IsDeclared classes object Short = ⊤
IsDeclared classes object IntHigh = ⊤
IsDeclared classes object IntLow = ⊤
IsDeclared classes object Null = ⊥
IsDeclared classes object (Class c) = IsTypeClass classes object c
IsDeclared classes object ArrBool = ⊤
IsDeclared classes object ArrByte = ⊤
IsDeclared classes object ArrShort = ⊤
IsDeclared classes object ArrInt = ⊤
IsDeclared classes object (ArrRef c) = IsTypeClass classes object c
IsDeclared classes object (Fresh place c) = ⊥
IsDeclared classes object Top = ⊥

-- ---- classes

-- each entry of a table is the number of a method, or none
abbrev pub AreEntries : ℕ → DispatchTable → Type 0
AreEntries methods table = All (λ entry. IfSome entry (λ n. n < methods)) table.entries

-- a table whose numbers are bytes
pub record IsByteTable (table : DispatchTable) : Type 0 where
  pub base : table.base ≤ 255
  pub count : length table.entries ≤ 255

-- the tables and the own cells of a class are no more than the Class and Descriptor components can count
pub record IsSized (c : NamedClass) : Type 0 where
  pub public : IsByteTable c.public
  pub visible : IsByteTable c.visible
  pub own : length c.own ≤ 131070

-- an interface has interfaces alone
pub record HasNoMembers (c : NamedClass) : Type 0 where
  pub parent : c.parent ≡ None
  pub public : c.public.entries ≡ []
  pub visible : c.visible.entries ≡ []
  pub own : c.own ≡ []

-- a class among classes, where there are so many packages and so many methods
pub record IsNamedClass (packages methods : ℕ) (classes : List NamedClass) (object : ℕ) (c : NamedClass) : Type 0 where
  pub home : c.package < packages
  pub parent : IfSome c.parent (λ p. p < length classes)
  -- the superclass is of the same package or of an earlier one
  pub earlier : IfSome c.parent (λ p. package_of classes p ≤ c.package)
  pub interfaces : All (λ (i : Iface). i.class < length classes) c.interfaces
  pub public : AreEntries methods c.public
  pub visible : AreEntries methods c.visible
  pub own : All (IsDeclared classes object) c.own
  pub interface : c.interface ≡ true → HasNoMembers c
  pub sized : IsSized c

-- ---- methods

-- the range and the entry of a handler lie in code of a length
pub record HandlerLiesIn (len : ℕ) (h : Handler) : Type 0 where
  pub range : h.start ≤ h.end
  pub inside : h.end ≤ len
  pub entry : h.entry < len

-- whether a method has no code: an abstract one, or one of an interface
abbrev pub lacks_code : List NamedClass → MethodRec → Bool
lacks_code classes m = m.is_abstract || is_interface classes m.class

-- a method of these classes, where the Method component of each package has the info
pub record IsNamedMethod (infos : List (List ℕ)) (classes : List NamedClass) (object : ℕ) (m : MethodRec) : Type 0 where
  pub home : m.package < length infos
  pub class : m.class < length classes
  -- its argument words are those of its signature, after the receiver where it is not static
  pub words : m.nargs ≡ length m.sig.args + receiver_words m.is_static
  pub registers : m.nargs + m.max_locals ≤ 255
  pub arguments : All (IsDeclared classes object) m.sig.args
  pub result : IfSome m.sig.result (IsDeclared classes object)
  -- an int takes two argument words, high then low; of a result the first cell's type is told
  pub whole : AreWhole m.sig.args
  pub first : IfSome m.sig.result IsFirstCell
  pub code : MatchBool (lacks_code classes m) (m.code_len ≡ 0) (IsCodeLength m.code_len)
  -- its code lies in the Method info of its package
  pub inside : m.code_at + m.code_len ≤ length (list_at infos m.package)
  pub handlers : All (HandlerLiesIn m.code_len) m.handlers
  -- the handler table counts its entries in one byte
  pub few_handlers : length m.handlers ≤ 255

-- ---- all

-- classes and methods in which everything is a number of one of them
pub record AreNamed (infos : List (List ℕ)) (object : ℕ) (cs : List NamedClass) (ms : List MethodRec) : Type 0 where
  pub classes : All (IsNamedClass (length infos) (length ms) cs object) cs
  pub methods : All (IsNamedMethod infos cs object) ms
