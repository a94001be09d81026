-- The types that packages tell are types of their named classes.
use Rattle.std.proofs.Common.{◌≡◌, ℕ, ◌<◌, Bool, true, false, eqb, List, [], ◌∷◌, ◌++◌, length, Option, Some, None, option_map, arith}
use Rattle.std.proofs.Common.{option_and_then, if◌then◌else◌, refl, ap, ◌∙◌, inl}
use Rattle.std.specs.Prelude.{All, IfSome, slice_get}
use Rattle.std.proofs.lemmas.List.{length-map}
use Rattle.std.proofs.lemmas.List.Elements.{All-nil, All-append}
use Rattle.std.proofs.lemmas.Option.{slice_get-map}
use Rattle.jc_base.specs.declared.ty.Ty.{Ty}
use Rattle.jc_base.specs.Cell.{IsNoHalf, AreWhole, no_cells, whole_int, one_cell, IsFirstCell}
use Rattle.cap_bytes.specs.ClassReference.{reference_of}
use Rattle.cap_class.specs.ClassFormat as format
use Rattle.cap_desc.specs.declared.type_list.TypeItem.{TypeItem}
use Rattle.cap_package.specs.Descriptions.{Description}
use Rattle.cap_package.specs.PackageRecord.{PackageRecord}
use Rattle.jc_resolve.specs.declared.naming.NamedClass.{NamedClass}
use Rattle.jc_resolve.specs.declared.fault.RecordPlace.{RecordPlace}
use Rattle.jc_resolve.specs.Numbering.{NumberedClass, numbered_classes, class_at, flagged_interface, is_interface_number}
use Rattle.jc_resolve.specs.References.{place_referred, class_referred, class_named}
use Rattle.jc_resolve.specs.WorldTypes.{class_or_object, type_class, type_of, cells_of_type}
use Rattle.jc_resolve.specs.WorldTypes.{arguments_before, result_after, signature_in, types_named}
use Rattle.jc_resolve.specs.WorldTypes.{declared_signature}
use Rattle.jc_resolve.specs.NamedClasses.{named_class, named_classes, named_interface, named_proper}
use Rattle.jc_resolve.specs.Named.{interface_by, is_interface, IsTypeClass, IsDeclared}
use Rattle.jc_resolve.proofs.NumberLaws.{class_below}

-- of two things that a property holds of, it holds of the one that is chosen
pub either : {X : Type 0} (P : X → Type 0) (b : Bool) (x y : X) → P x → P y → P (if b then x else y)
either x y x2 y2 p q = grind (arith)

-- ---- numbers of named classes

pub named-length : (ps : List PackageRecord) (object : ℕ) → length (named_classes ps object) ≡ length (numbered_classes ps)
unfolding named_classes
named-length ps object = length-map (numbered_classes ps) (named_class ps object)

flag_by : (b : Bool) (x y : NamedClass) → x.interface ≡ true → y.interface ≡ false → (if b then x else y).interface ≡ b
flag_by x x2 y e f = grind (arith)

pub flag_named : (ps : List PackageRecord) (object : ℕ) (c : NumberedClass) → (named_class ps object c).interface ≡ format.is_interface c.record_of.flags
unfolding named_class
flag_named ps object c = flag_by (format.is_interface c.record_of.flags) (named_interface ps c) (named_proper ps object c) refl refl

interface_in : (ps : List PackageRecord) (object : ℕ) (o : Option NumberedClass) → interface_by (option_map (named_class ps object) o)
    ≡ flagged_interface o
interface_in ps object z = grind (arith, flag_named)

-- a named class is an interface where its record says so
pub interface_numbered : (ps : List PackageRecord) (object c : ℕ) → is_interface (named_classes ps object) c ≡ is_interface_number ps c
unfolding is_interface is_interface_number named_classes
interface_numbered ps object c =
    ap interface_by (slice_get-map (named_class ps object) (numbered_classes ps) c) ∙ interface_in ps object (slice_get (numbered_classes ps) c)

-- ---- what is named is a number

pub named_at : (ps : List PackageRecord) (o : Option RecordPlace) → IfSome (option_and_then (class_at ps) o) (λ c. c < length (numbered_classes ps))
named_at ps y = grind (arith, class_below)

pub named_below : (ps : List PackageRecord) (k reference : ℕ) → IfSome (class_named ps k reference) (λ c. c < length (numbered_classes ps))
unfolding class_named class_referred
named_below ps k reference = named_at ps (place_referred ps k (reference_of reference))

-- ---- types

module _ (ps : List PackageRecord) (object : ℕ) where
  -- the types of the named classes
  abbrev IsKnown : Ty → Type 0
  IsKnown = IsDeclared (named_classes ps object) object

  class_by : (c : ℕ) (b : Bool) → c < length (numbered_classes ps) → is_interface_number ps c ≡ b
      → IsTypeClass (named_classes ps object) object (if b then object else c)
  class_by c y lt e = grind (arith, named-length, interface_numbered)

  class_or : (o : Option ℕ) → IfSome o (λ c. c < length (numbered_classes ps))
      → IsTypeClass (named_classes ps object) object (class_or_object ps object o)
  class_or None h = inl refl
  class_or (Some c) h = class_by c (is_interface_number ps c) h refl

  pub class_declared : (k reference : ℕ) → IsTypeClass (named_classes ps object) object (type_class ps object k reference)
  class_declared k reference = class_or (class_named ps k reference) (named_below ps k reference)

  pub type_declared : (k : ℕ) (t : TypeItem) → IsDeclared (named_classes ps object) object (type_of ps object k t)
  unfolding type_of
  type_declared k t = grind (arith, class_declared, eqb)

  pub cells_declared : (k : ℕ) (t : TypeItem) → All (IsDeclared (named_classes ps object) object) (cells_of_type ps object k t)
  cells_declared k t = grind (arith, eqb, type_declared)

  -- ---- signatures

  before_declared : (k : ℕ) (t : TypeItem) (us : List TypeItem) → All (IsDeclared (named_classes ps object) object) (arguments_before ps object k t us)
  before_declared k t [] = All-nil IsKnown
  before_declared k t (u ∷ us) =
      All-append IsKnown (cells_of_type ps object k t) (arguments_before ps object k u us) (cells_declared k t) (before_declared k u us)

  after_declared : (k : ℕ) (t : TypeItem) (us : List TypeItem) → IfSome (result_after ps object k t us) (IsDeclared (named_classes ps object) object)
  after_declared k t [] = grind (arith, eqb, type_declared)
  after_declared k t (u ∷ us) = after_declared k u us

  pub arguments_in : (k : ℕ) (ts : List TypeItem) → All (IsDeclared (named_classes ps object) object) (signature_in ps object k ts).args
  arguments_in k y = grind (arith, before_declared)

  pub result_in : (k : ℕ) (ts : List TypeItem) → IfSome (signature_in ps object k ts).result (IsDeclared (named_classes ps object) object)
  result_in k y = grind (arith, after_declared)

  pub arguments_declared : (k : ℕ) (d : Description) (offset : ℕ)
      → All (IsDeclared (named_classes ps object) object) (declared_signature ps object k d offset).args
  unfolding declared_signature
  arguments_declared k d offset = arguments_in k (types_named d offset)

  pub result_declared : (k : ℕ) (d : Description) (offset : ℕ) → IfSome (declared_signature ps object k d offset).result
      (IsDeclared (named_classes ps object) object)
  unfolding declared_signature
  result_declared k d offset = result_in k (types_named d offset)

  -- ---- whole values

  not_half : (k : ℕ) (t : TypeItem) → eqb t.nibble 5 ≡ false → IsNoHalf (type_of ps object k t)
  unfolding type_of
  not_half k t e = grind (arith, eqb)

  first_by : (k : ℕ) (t : TypeItem) (b : Bool) → eqb t.nibble 5 ≡ b → IsFirstCell (type_of ps object k t)
  unfolding type_of
  first_by k t z e = grind (arith, not_half)

  cells_whole : (k : ℕ) (t : TypeItem) (b : Bool) (rest : List Ty) → eqb t.nibble 5 ≡ b → AreWhole rest
      → AreWhole (cells_of_type ps object k t ++ rest)
  cells_whole k t true rest e whole = rw e (whole_int whole)
  cells_whole k t false rest e whole = rw e (one_cell (not_half k t e) whole)

  before_whole : (k : ℕ) (t : TypeItem) (us : List TypeItem) → AreWhole (arguments_before ps object k t us)
  before_whole k t [] = no_cells
  before_whole k t (u ∷ us) = cells_whole k t (eqb t.nibble 5) (arguments_before ps object k u us) refl (before_whole k u us)

  after_first : (k : ℕ) (t : TypeItem) (us : List TypeItem) → IfSome (result_after ps object k t us) IsFirstCell
  after_first k t [] =
      let P : Option Ty → Type 0 = λ o. IfSome o IsFirstCell in
      either P (eqb t.nibble 1) None (Some (type_of ps object k t)) tt (first_by k t (eqb t.nibble 5) refl)
  after_first k t (u ∷ us) = after_first k u us

  whole_in : (k : ℕ) (ts : List TypeItem) → AreWhole (signature_in ps object k ts).args
  whole_in k [] = no_cells
  whole_in k (t ∷ ts) = before_whole k t ts

  first_in : (k : ℕ) (ts : List TypeItem) → IfSome (signature_in ps object k ts).result IsFirstCell
  first_in k y = grind (arith, after_first)

  pub arguments_whole : (k : ℕ) (d : Description) (offset : ℕ) → AreWhole (declared_signature ps object k d offset).args
  unfolding declared_signature
  arguments_whole k d offset = whole_in k (types_named d offset)

  pub result_first : (k : ℕ) (d : Description) (offset : ℕ) → IfSome (declared_signature ps object k d offset).result IsFirstCell
  unfolding declared_signature
  result_first k d offset = first_in k (types_named d offset)
