-- Everything in named classes is a number of a class or a method.
use Rattle.std.proofs.Common.{◌≡◌, ℕ, ◌+◌, ◌≤◌, ◌<◌, Bool, true, false, eqb, List, [], ◌∷◌, length, get_or, map, Option, Some}
use Rattle.std.proofs.Common.{None, option_map, position, if◌then◌else◌, sym, ap, subst, ◌∙◌, arith, inl, inr}
use Rattle.std.specs.Prelude.{All, IfSome, slice_get, flat_map}
use Rattle.std.specs.List.{cons_option}
use Rattle.std.proofs.lemmas.Bool.{false≢true}
use Rattle.std.proofs.lemmas.List.{length-take}
use Rattle.std.proofs.lemmas.List.Elements.{All-nil, All-cons, All-head, All-tail, All-append, All-map}
use Rattle.std.proofs.lemmas.List.Quantifiers.{position-Some}
use Rattle.std.proofs.lemmas.Option.{slice_get-map, slice_get_cases}
use Rattle.jc_base.specs.declared.record.Iface.{Iface}
use Rattle.cap_class.specs.ClassFormat as format
use Rattle.cap_class.specs.ClassFormat.{Interface}
use Rattle.cap_desc.specs.DescriptorFormat.{FieldDescriptor}
use Rattle.cap_package.specs.Descriptions.{Description, field_type}
use Rattle.cap_package.specs.PackageRecord.{PackageRecord}
use Rattle.cap_desc.specs.declared.type_list.TypeItem.{TypeItem}
use Rattle.jc_resolve.specs.declared.naming.NamedClass.{NamedClass}
use Rattle.jc_resolve.specs.declared.fault.RecordPlace.{RecordPlace}
use Rattle.jc_resolve.specs.Numbering.{NumberedClass, numbered_class, numbered_classes_of, classes_after}
use Rattle.jc_resolve.specs.Numbering.{numbered_classes, numbered_methods, same_place}
use Rattle.jc_resolve.specs.Numbering.{place_of_class, class_places, class_at}
use Rattle.jc_resolve.specs.References.{met_by, class_named}
use Rattle.jc_resolve.specs.NamedClasses.{by_token, cells_by, cells_of_field, cells_of_fields}
use Rattle.jc_resolve.specs.NamedClasses.{instance_fields, dispatch_entry, dispatch_table, interface_named}
use Rattle.jc_resolve.specs.NamedClasses.{implemented_interfaces, parent_named, named_interface, named_proper, named_class, named_classes}
use Rattle.jc_resolve.specs.Named.{package_by, package_of, IsDeclared, AreEntries, IsSized, IsNamedClass}
use Rattle.jc_resolve.proofs.NumberLaws.{same-equal, position_below, method_below}
use Rattle.jc_resolve.proofs.ReferenceLaws.{named-refers}
use Rattle.jc_resolve.proofs.DeclaredTypes.{named-length, named_below, cells_declared}

-- ---- homes

homes_after : (n k : ℕ) (ps : List PackageRecord) → k + length ps ≤ n → All (λ (c : NumberedClass). c.home < n) (classes_after k ps)
homes_after n k [] le = All-nil (λ (c : NumberedClass). c.home < n)
homes_after n k (p ∷ ps) le =
    All-append (λ (c : NumberedClass). c.home < n) (numbered_classes_of k p) (classes_after (k + 1) ps)
    (All-map (λ (c : NumberedClass). c.home < n) (numbered_class k p) p.classes (λ i d lt. omega arith))
    (homes_after n (k + 1) ps (omega arith))

-- ---- the package of a class that is named

-- the thing whose position is found
found : {X : Type 0} (t : X → Bool) (xs : List X) (i : ℕ) → position t xs ≡ Some i → (x : X) × (slice_get xs i ≡ Some x) × (t x ≡ true)
found t xs i h = elim (slice_get_cases xs i).1 [
  | inl there ↦ (there.0, there.2, subst (λ y. t y ≡ true) there.3 (position-Some t xs i there.0 h).1)
  | inr past ↦ let lt = position_below t xs i h in let le = past.0 in absurd (omega arith)
]

home_named : (ps : List PackageRecord) (object : ℕ) (c : NumberedClass) → (named_class ps object c).package ≡ c.home
unfolding named_class
home_named ps object c = grind (arith)

home_by : (ps : List PackageRecord) (object : ℕ) (o : Option NumberedClass) (place : RecordPlace) → option_map place_of_class o ≡ Some place
    → package_by (option_map (named_class ps object) o) ≡ place.package
home_by ps object z place e = grind (arith, home_named)

-- the class at a place is of the place's package
package_at : (ps : List PackageRecord) (object : ℕ) (place : RecordPlace) (c : ℕ) → class_at ps place ≡ Some c
    → package_of (named_classes ps object) c ≡ place.package
unfolding class_at package_of named_classes
package_at ps object place c h =
    let f = found (same_place place) (class_places ps) c h in
    let same : f.0 ≡ place = sym (same-equal place f.0 f.2) in
    ap package_by (slice_get-map (named_class ps object) (numbered_classes ps) c)
    ∙ home_by ps object (slice_get (numbered_classes ps) c) f.0 (sym (slice_get-map place_of_class (numbered_classes ps) c) ∙ f.1)
    ∙ ap (λ (q : RecordPlace). q.package) same

met_earlier : (ps : List PackageRecord) (k token j : ℕ) → met_by ps k token ≡ Some j → j < k
unfolding met_by
met_earlier ps k token j h = grind (arith, position_below, length-take)

-- ---- classes

module _ (ps : List PackageRecord) (object : ℕ) where
  abbrev many : ℕ
  many = length (named_classes ps object)

  class_within : (o : Option ℕ) → IfSome o (λ c. c < length (numbered_classes ps)) → IfSome o (λ c. c < many)
  class_within x h = grind (arith, named-length)

  named_within : (k reference : ℕ) → IfSome (class_named ps k reference) (λ c. c < many)
  named_within k reference = class_within (class_named ps k reference) (named_below ps k reference)

  -- ---- superclasses

  pub parent_within : (k reference : ℕ) → IfSome (parent_named ps k reference) (λ c. c < many)
  parent_within k reference = grind (arith, eqb, named_within)

  abbrev IsEarlier : ℕ → Option ℕ → Type 0
  IsEarlier k o = IfSome o (λ c. package_of (named_classes ps object) c ≤ k)

  named_earlier : (k reference : ℕ) (o : Option ℕ) → class_named ps k reference ≡ o → IsEarlier k o
  named_earlier k reference None e = tt
  named_earlier k reference (Some c) e = grind (arith, named-refers, package_at, met_earlier)

  pub parent_earlier : (k reference : ℕ) → IsEarlier k (parent_named ps k reference)
  parent_earlier k reference = grind (arith, eqb, named_earlier)

  -- ---- interfaces

  abbrev IsWithin : Iface → Type 0
  IsWithin i = i.class < many

  interface_by : (i : Interface) (o : Option ℕ) (others : List Iface) → IfSome o (λ c. c < many) → All IsWithin others
      → All IsWithin (cons_option (option_map (λ c. record { class = c; tokens = i.tokens }) o) others)
  interface_by i None others h all = all
  interface_by i (Some c) others h all = All-cons IsWithin (record { class = c; tokens = i.tokens }) others h all

  pub interfaces_within : (k : ℕ) (is : List Interface) → All IsWithin (implemented_interfaces ps k is)
  unfolding interface_named
  interfaces_within k [] = All-nil IsWithin
  interfaces_within k (i ∷ is) = grind (arith, named_within k i.class_ref, interfaces_within k is)

  -- ---- tables

  abbrev IsEntry : Option ℕ → Type 0
  IsEntry entry = IfSome entry (λ n. n < length (numbered_methods ps))

  entry_within : (k offset : ℕ) → IsEntry (dispatch_entry ps k offset)
  unfolding dispatch_entry
  entry_within k offset = grind (arith, eqb, method_below)

  table_within : (k base : ℕ) (offsets : List ℕ) → AreEntries (length (numbered_methods ps)) (dispatch_table ps k base offsets)
  table_within k base offsets = All-map IsEntry (dispatch_entry ps k) offsets (λ i d lt. entry_within k (get_or offsets i d))

  -- ---- cells

  field_declared : (k : ℕ) (o : Option TypeItem) → All (IsDeclared (named_classes ps object) object) (cells_by ps object k o)
  field_declared k y = grind (arith, cells_declared)

  fields_declared : (k : ℕ) (d : Description) (fields : List FieldDescriptor)
      → All (IsDeclared (named_classes ps object) object) (flat_map (cells_of_field ps object k d) fields)
  unfolding cells_of_field
  fields_declared k d [] = All-nil (IsDeclared (named_classes ps object) object)
  fields_declared k d (f ∷ fields) =
      All-append (IsDeclared (named_classes ps object) object) (cells_of_field ps object k d f) (flat_map (cells_of_field ps object k d) fields)
      (field_declared k (field_type d f.ty)) (fields_declared k d fields)

  own_declared : (k : ℕ) (d : Description) (fields : List FieldDescriptor)
      → All (IsDeclared (named_classes ps object) object) (cells_of_fields ps object k d fields)
  unfolding cells_of_fields
  own_declared k d fields = fields_declared k d (by_token fields)

  -- ---- all that holds of a class

  abbrev IsNamed : NamedClass → Type 0
  IsNamed = IsNamedClass (length ps) (length (numbered_methods ps)) (named_classes ps object) object

  interface_right : (c : NumberedClass) → c.home < length ps → IsSized (named_interface ps c) → IsNamed (named_interface ps c)
  interface_right c home sized = grind (arith, interfaces_within)

  proper_right : (c : NumberedClass) → c.home < length ps → IsSized (named_proper ps object c) → IsNamed (named_proper ps object c)
  proper_right c home sized = record {
    home = home;
    parent = parent_within c.home c.record_of.super_ref;
    earlier = parent_earlier c.home c.record_of.super_ref;
    interfaces = interfaces_within c.home c.record_of.interfaces;
    public = table_within c.home c.record_of.public_base c.record_of.public;
    visible = table_within c.home c.record_of.package_base c.record_of.visible;
    own = own_declared c.home c.of_package.description (instance_fields c.of_package.description.items.classes c.record_of.offset);
    interface = λ (e : false ≡ true). absurd (false≢true e);
    sized = sized;
  }

  right_by : (c : NumberedClass) (b : Bool) → c.home < length ps → IsSized (if b then named_interface ps c else named_proper ps object c)
      → IsNamed (if b then named_interface ps c else named_proper ps object c)
  right_by c true home sized = interface_right c home sized
  right_by c false home sized = proper_right c home sized

  class_right : (c : NumberedClass) → c.home < length ps → IsSized (named_class ps object c) → IsNamed (named_class ps object c)
  unfolding named_class
  class_right c home sized = right_by c (format.is_interface c.record_of.flags) home sized

  each_class : (cs : List NumberedClass) → All (λ (c : NumberedClass). c.home < length ps) cs → All IsSized (map (named_class ps object) cs)
      → All IsNamed (map (named_class ps object) cs)
  each_class [] homes sized = All-nil IsNamed
  each_class (c ∷ cs) homes sized =
      All-cons IsNamed (named_class ps object c) (map (named_class ps object) cs)
      (class_right c (All-head (λ (c : NumberedClass). c.home < length ps) c cs homes)
      (All-head IsSized (named_class ps object c) (map (named_class ps object) cs) sized))
      (each_class cs (All-tail (λ (c : NumberedClass). c.home < length ps) c cs homes)
      (All-tail IsSized (named_class ps object c) (map (named_class ps object) cs) sized))

  -- the named classes of packages, where they are no larger than their components can tell
  pub classes-named : All IsSized (named_classes ps object)
      → All (IsNamedClass (length ps) (length (numbered_methods ps)) (named_classes ps object) object) (named_classes ps object)
  unfolding named_classes
  classes-named sized = each_class (numbered_classes ps) (homes_after (length ps) 0 ps (omega arith)) sized
