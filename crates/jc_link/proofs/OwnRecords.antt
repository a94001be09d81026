-- What the records of a table have of the cells of named classes.
use Rattle.std.proofs.Common.{◌≡◌, ℕ, suc, ◌+◌, List, [], ◌∷◌, length, map, Option, Some, slice_get, slice_index, refl, sym}
use Rattle.std.proofs.Common.{ap, subst, ◌∙◌, arith}
use Rattle.std.specs.Prelude.{option_map}
use Rattle.std.proofs.lemmas.List.{length-map}
use Rattle.std.proofs.lemmas.Option.{slice_get-map}
use Rattle.cap_class.specs.ClassFormat.{Class}
use Rattle.cap_package.specs.PackageRecord.{PackageRecord}
use Rattle.jc_base.specs.declared.ty.Ty.{Ty}
use Rattle.jc_base.specs.declared.record.ClassRec.{ClassRec}
use Rattle.jc_base.specs.declared.record.MethodRec.{MethodRec}
use Rattle.jc_base.specs.Class.{ClassTable, object}
use Rattle.jc_base.specs.Linked.{AreLinkedClasses}
use Rattle.jc_base.proofs.Lists.{slice_get-front, slice_get-farther}
use Rattle.jc_resolve.specs.declared.naming.NamedClass.{NamedClass}
use Rattle.jc_resolve.specs.Numbering.{NumberedClass, numbered_class, numbered_classes_of, classes_after, numbered_classes}
use Rattle.jc_resolve.specs.Names.{NamesRecord}
use Rattle.jc_resolve.specs.OwnFields.{cells_over}
use Rattle.jc_resolve.specs.NamedClasses.{named_class, named_classes}
use Rattle.jc_link.specs.Fields.{FieldsFit, FieldsFitIn, AllFieldsFitAfter, AllFieldsFit, HasCellsOf}
use Rattle.jc_link.proofs.Counted.{records_counted}
use Rattle.jc_link.proofs.TokenCells.{cells_first}
use Rattle.jc_resolve.proofs.OwnCells.{own_of, own_named}

-- the record of a class, and its own cells
pub record HasOwn (ps : List PackageRecord) (t : ClassTable) (c : ℕ) (n : NumberedClass) : Type 0 where
  pub class : ClassRec
  pub there : slice_get t.records c ≡ Some class
  pub own : class.own ≡ cells_over (own_of ps (object t) n) 0 256

own_by : (c : ℕ) (t : ClassTable) (o : Option ClassRec) (own : List Ty) → slice_get t.records c ≡ o → option_map (λ (r : ClassRec). r.own) o
    ≡ Some own → (r : ClassRec) × (slice_get t.records c ≡ Some r) × (r.own ≡ own)
own_by c t z own e h = grind (arith)

module _ (ps : List PackageRecord) (object_is : ℕ) (t : ClassTable) (cells : HasCellsOf (named_classes ps object_is) object_is t) where
  pub records_many : length t.records ≡ length (numbered_classes ps)
  unfolding named_classes
  records_many = records_counted (named_classes ps object_is) object_is t cells ∙ length-map (numbered_classes ps) (named_class ps object_is)

  own_there : (c : ℕ) (n : NumberedClass) → slice_get (numbered_classes ps) c ≡ Some n
      → slice_get (map (λ (k : NamedClass). k.own) (named_classes ps object_is)) c ≡ Some (named_class ps object_is n).own
  unfolding named_classes
  own_there c n e = grind (arith, slice_get-map)

  pub has_own : (c : ℕ) (n : NumberedClass) → slice_get (numbered_classes ps) c ≡ Some n → HasOwn ps t c n
  has_own c n e = grind (arith, slice_get t.records c, own_there c n e, own_named ps object_is n, slice_get-map)

  module _ (packages : ℕ) (methods : List MethodRec) (linked : AreLinkedClasses packages t methods) where
    has_room : (c : ℕ) (n : NumberedClass) → slice_get (numbered_classes ps) c ≡ Some n → FieldsFit t c (own_of ps (object t) n)
    has_room c n e = grind (arith, has_own c n e, slice_get t.records c, cells_first (own_of ps (object t) n) 256)

    rooms_in : (k : ℕ) (p : PackageRecord) (c : ℕ) (rs : List Class)
        → ((i : ℕ) (n : NumberedClass) → slice_get (map (numbered_class k p) rs) i ≡ Some n → FieldsFit t (c + i) (own_of ps (object t) n))
        → FieldsFitIn ps t k p c rs
    rooms_in k p c [] each = tt
    rooms_in k p c (r ∷ rs) each =
        let here : c + 0 ≡ c = omega arith in (
          subst (λ (i : ℕ). FieldsFit t i (own_of ps (object t) (numbered_class k p r))) here (each 0 (numbered_class k p r) refl),
          rooms_in k p (c + 1) rs (λ i n e.
              let next : c + suc i ≡ (c + 1) + i = omega arith in
              subst (λ (j : ℕ). FieldsFit t j (own_of ps (object t) n)) next (each (suc i) n e)),
        )

    rooms_after : (c k : ℕ) (qs : List PackageRecord)
        → ((i : ℕ) (n : NumberedClass) → slice_get (classes_after k qs) i ≡ Some n → FieldsFit t (c + i) (own_of ps (object t) n))
        → AllFieldsFitAfter ps t c k qs
    rooms_after c k [] each = tt
    rooms_after c k (q ∷ qs) each = (
      rooms_in k q c q.classes (λ i n e. each i n (slice_get-front (numbered_classes_of k q) (classes_after (k + 1) qs) i n e)),
      rooms_after (c + length q.classes) (k + 1) qs (λ i n e.
          let many : length (numbered_classes_of k q) ≡ length q.classes = length-map q.classes (numbered_class k q) in
          let place : length q.classes + i ≡ length (numbered_classes_of k q) + i = ap (λ (m : ℕ). m + i) (sym many) in
          let next : c + (length q.classes + i) ≡ (c + length q.classes) + i = omega arith in
          subst (λ (j : ℕ). FieldsFit t j (own_of ps (object t) n)) next
          (each (length q.classes + i) n (slice_get-farther (numbered_classes_of k q) (classes_after (k + 1) qs) i (length q.classes + i) place ∙ e))),
    )

    -- an instance of each class has room for its fields
    pub have_room : AllFieldsFit ps t
    have_room = rooms_after 0 0 ps (λ i n e.
        let same : i ≡ 0 + i = omega arith in
        subst (λ (j : ℕ). FieldsFit t j (own_of ps (object t) n)) same (has_room i n e))

-- the same of the names of packages
pub room_there : (n : NamesRecord) (t : ClassTable) → n.classes ≡ named_classes n.packages (slice_index n.roles 0)
    → AreLinkedClasses (length n.packages) t n.methods → HasCellsOf n.classes (slice_index n.roles 0) t → AllFieldsFit n.packages t
room_there n t classes linked cells =
    have_room n.packages (slice_index n.roles 0) t (subst (λ (cs : List NamedClass). HasCellsOf cs (slice_index n.roles 0) t) classes cells)
    (length n.packages) n.methods linked
