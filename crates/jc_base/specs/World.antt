-- A linked world: the packages of a command with all that they name resolved (JCVM 2.2, chapters 4 and 6).
use Rattle.std.specs.Prelude.{◌≡◌, ℕ, ◌≤◌, ◌<◌, Bool, ◌==◌, ◌&&◌, List, length, take, drop, Option, None}
use Rattle.std.specs.Prelude.{unwrap_or, All, sum_by, slice_get, slice_index, position}
use Rattle.jc_base.specs.declared.ty.Ty.TheVariants.{Class}
use Rattle.jc_base.specs.declared.record.Member.{Member}
use Rattle.jc_base.specs.declared.record.MethodRec.{MethodRec}
use Rattle.jc_base.specs.declared.record.StaticRec.{StaticRec}
use Rattle.jc_base.specs.declared.record.ArrayRec.{ArrayRec}
use Rattle.jc_base.specs.Class.{ClassTable, IsClass, AreClasses, object, throwable}
use Rattle.jc_base.specs.Order.{Below}
use Rattle.jc_base.specs.Cell.{width, AreElementsOf}
use Rattle.jc_base.specs.Dispatch.{IsConcrete}
use Rattle.jc_base.specs.Interface.{NoneExtendsItself}
use Rattle.jc_base.specs.Linked.{IsMember, AreLinkedClasses, IsMethod, IsStatic, AreSlots, list_at}

-- the lists as which a world is seen: by package the Method info and the members by pool number;
-- the classes with the roles, the methods, the static fields and the initial arrays of all packages;
-- by method the places of its target index, where it has one
pub record Linked : Type 0 where
  pub infos : List (List ℕ)
  pub pools : List (List Member)
  pub classes : ClassTable
  pub methods : List MethodRec
  pub statics : List StaticRec
  pub arrays : List ArrayRec
  pub indexes : List (Option (List ℕ))

pub record IsWithinLimits (w : Linked) : Type 0 where
  pub packages : length w.infos ≤ 16
  pub bytes : All (λ info. length info ≤ 65535) w.infos
  pub entries : All (λ pool. length pool ≤ 65535) w.pools
  pub classes : length w.classes.records ≤ 4096
  pub methods : length w.methods ≤ 32768
  pub static_cells : sum_by (λ f. width f.kind) w.statics ≤ 32768
  pub arrays : length w.arrays ≤ 4096
  pub array_cells : sum_by (λ a. length a.initial) w.arrays ≤ 32768

-- a class whose objects the machine throws
pub record IsThrown (t : ClassTable) (methods : List MethodRec) (c : ℕ) : Type 0 where
  pub concrete : IsConcrete t methods c
  pub thrown : Below t (Class c) (Class (throwable t))

-- the classes of the eight roles
pub record AreRoles (t : ClassTable) (methods : List MethodRec) : Type 0 where
  pub count : length t.roles ≡ 8
  pub objects : IsClass t (object t)
  pub throwables : IsClass t (throwable t)
  pub others : (k : ℕ) → 2 ≤ k → k < 8 → IsThrown t methods (slice_index t.roles k)

-- the lists of a linked world
pub record IsWorld (w : Linked) : Type 0 where
  pub limits : IsWithinLimits w
  pub one_pool_each : length w.pools ≡ length w.infos
  pub members : All (All (IsMember w.classes w.methods w.statics)) w.pools
  pub chains : AreClasses w.classes
  pub extension : NoneExtendsItself w.classes
  pub classes : AreLinkedClasses (length w.infos) w.classes w.methods
  pub methods : All (IsMethod w.infos w.pools w.classes) w.methods
  pub statics : All (IsStatic (length w.infos) w.classes w.arrays) w.statics
  pub slots : AreSlots 0 w.statics
  pub arrays : All (λ a. AreElementsOf a.kind a.initial) w.arrays
  pub roles : AreRoles w.classes w.methods
  pub one_index_each : length w.indexes ≡ length w.methods

-- what the entry of a package's constant pool names
abbrev pub member_at : Linked → ℕ → ℕ → Option Member
member_at w home pool = slice_get (list_at w.pools home) pool

-- the bytes of a method's code
abbrev pub code_of : List (List ℕ) → MethodRec → List ℕ
code_of infos m = take m.code_len (drop m.code_at (list_at infos m.package))

-- the target index of a method, where there is one
abbrev pub index_of : Linked → ℕ → Option (List ℕ)
index_of w number = unwrap_or (slice_get w.indexes number) None

-- whether a method has these numbers in the Descriptor of a package
abbrev pub has_numbers : ℕ → ℕ → ℕ → MethodRec → Bool
has_numbers home class_no method_no m = (m.package == home && m.class_no == class_no) && m.method_no == method_no

-- the number of the method that has these numbers in the Descriptor of a package
abbrev pub method_numbered : List MethodRec → ℕ → ℕ → ℕ → Option ℕ
method_numbered methods home class_no method_no = position (has_numbers home class_no method_no) methods
