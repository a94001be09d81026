-- Where the instance fields of classes stand (JCVM 2.2, sections 6.8 and 6.13.2).
use Rattle.std.specs.Prelude.{◌≡◌, ℕ, ◌+◌, ◌≤◌, List, [], ◌∷◌, ◌++◌, length, map, filter, sum_by, nat_lt}
use Rattle.cap_class.specs.ClassFormat.{Class}
use Rattle.cap_package.specs.PackageRecord.{PackageRecord}
use Rattle.jc_base.specs.declared.record.Member.TheVariants.{Field}
use Rattle.jc_base.specs.declared.record.ClassRec.{ClassRec}
use Rattle.jc_base.specs.Cell.{width}
use Rattle.jc_base.specs.Class.{ClassTable, parent_of, object}
use Rattle.jc_base.specs.Linked.{cells_above}
use Rattle.jc_resolve.specs.declared.naming.NamedClass.{NamedClass}
use Rattle.jc_resolve.specs.declared.field_records.OwnField.{OwnField}
use Rattle.jc_resolve.specs.OwnFields.{own_fields}
use Rattle.jc_link.specs.Sites.{MemberSite}

-- ---- the cells of the fields of a class

abbrev pub cells_in_all : List OwnField → ℕ
cells_in_all = sum_by (λ (f : OwnField). width f.kind)

-- the cells of the fields of lesser tokens
abbrev pub cells_before : List OwnField → ℕ → ℕ
cells_before fields token = cells_in_all (filter (λ (f : OwnField). nat_lt f.token token) fields)

-- ---- the fields of all classes

-- a field of the class c, whose superclass has so many cells: its first cell lies after those of
-- the superclass and of the fields of lesser tokens
abbrev pub field_site : ℕ → ℕ → List OwnField → OwnField → MemberSite
field_site above c fields f = record {
  spot = record { owner = c; number = f.token };
  member = Field c (above + cells_before fields f.token) f.kind f.ty;
}

abbrev pub class_sites : ClassTable → ℕ → List OwnField → List MemberSite
class_sites t c fields = map (field_site (cells_above t (parent_of t c)) c fields) fields

-- the fields of classes of a package, whose numbers begin with c
abbrev pub sites_of_classes : List PackageRecord → ClassTable → ℕ → PackageRecord → ℕ → List Class → List MemberSite
sites_of_classes ps t k p c [] = []
sites_of_classes ps t k p c (r ∷ rs) = class_sites t c (own_fields ps (object t) k p r) ++ sites_of_classes ps t k p (c + 1) rs

-- those of packages from a number on
abbrev pub sites_after : List PackageRecord → ClassTable → ℕ → ℕ → List PackageRecord → List MemberSite
sites_after ps t c k [] = []
sites_after ps t c k (p ∷ others) = sites_of_classes ps t k p c p.classes ++ sites_after ps t (c + length p.classes) (k + 1) others

abbrev pub field_sites : List PackageRecord → ClassTable → List MemberSite
field_sites ps t = sites_after ps t 0 0 ps

-- ---- an instance of each class has room for its fields

-- its fields are those whose tokens are bytes, below 256
abbrev pub FieldsFit : ClassTable → ℕ → List OwnField → Type 0
FieldsFit t c fields = cells_above t (parent_of t c) + cells_before fields 256 ≤ 32767

abbrev pub FieldsFitIn : List PackageRecord → ClassTable → ℕ → PackageRecord → ℕ → List Class → Type 0
FieldsFitIn ps t k p c [] = Unit {0}
FieldsFitIn ps t k p c (r ∷ rs) = FieldsFit t c (own_fields ps (object t) k p r) × FieldsFitIn ps t k p (c + 1) rs

abbrev pub AllFieldsFitAfter : List PackageRecord → ClassTable → ℕ → ℕ → List PackageRecord → Type 0
AllFieldsFitAfter ps t c k [] = Unit {0}
AllFieldsFitAfter ps t c k (p ∷ others) = FieldsFitIn ps t k p c p.classes × AllFieldsFitAfter ps t (c + length p.classes) (k + 1) others

abbrev pub AllFieldsFit : List PackageRecord → ClassTable → Type 0
AllFieldsFit ps t = AllFieldsFitAfter ps t 0 0 ps

-- ---- the records of a table have the own cells of the named classes, and its object is theirs

pub record HasCellsOf (classes : List NamedClass) (object_is : ℕ) (t : ClassTable) : Type 0 where
  pub object : object t ≡ object_is
  pub own : map (λ (r : ClassRec). r.own) t.records ≡ map (λ (c : NamedClass). c.own) classes
