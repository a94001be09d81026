-- The methods of the classes of a package that links have headers.
use Rattle.std.proofs.Common.{◌≡◌, ℕ, suc, ◌+◌, ◌<◌, Bool, true, false, List, [], ◌∷◌}
use Rattle.std.proofs.Common.{length, map, Some, option_map, slice_get, refl, ap, subst, ◌∙◌, inl, inr, arith}
use Rattle.std.specs.Prelude.{All}
use Rattle.std.specs.List.{list_any}
use Rattle.std.proofs.lemmas.Bool.{or_parts, true≢false, eq-eqb, not_from_false}
use Rattle.std.proofs.lemmas.List.{length-map}
use Rattle.std.proofs.lemmas.List.Elements.{All-nil, All-cons, All-append}
use Rattle.std.proofs.lemmas.List.Quantifiers.{position-Some}
use Rattle.std.proofs.lemmas.Option.{slice_get-map, get_or_from_slice_get}
use Rattle.cap_bytes.specs.ClassReference.{reference_of}
use Rattle.cap_class.specs.ClassFormat.{Class, is_interface}
use Rattle.cap_desc.specs.DescriptorFormat as described
use Rattle.cap_package.specs.PackageRecord.{PackageRecord, names_interface}
use Rattle.first_fault.specs.First.{AllEmpty}
use Rattle.jc_base.proofs.Lists.{All-slice_get, slice_get-some}
use Rattle.jc_resolve.specs.declared.fault.RecordPlace.{RecordPlace}
use Rattle.jc_resolve.specs.Conditions.{conditions}
use Rattle.jc_resolve.specs.NamedMethods.{have_headers, is_class}
use Rattle.jc_resolve.specs.Numbering.{NumberedClass, numbered_class, numbered_classes_of, classes_after, numbered_classes, class_at, class_places}
use Rattle.jc_resolve.specs.Numbering.{place_of_class, same_place, flagged_interface, is_interface_number}
use Rattle.jc_resolve.specs.References.{class_named, Refers}
use Rattle.jc_resolve.proofs.Faultless.{IsOneOf}
use Rattle.jc_resolve.proofs.NamedClassLaws.{NamesClass, describes-class}
use Rattle.jc_resolve.proofs.NumberLaws.{same-equal}
use Rattle.jc_resolve.proofs.ReferenceLaws.{named-refers, internal-is}

-- ---- numbered classes

-- a class with the package whose Class component has it
record IsRecorded (ps : List PackageRecord) (c : NumberedClass) : Type 0 where
  pub home : slice_get ps c.home ≡ Some c.of_package
  pub class : IsOneOf c.of_package.classes c.record_of

in-package : (ps : List PackageRecord) (k : ℕ) (p : PackageRecord) → slice_get ps k ≡ Some p → (cs : List Class)
    → ((c : Class) → IsOneOf cs c → IsOneOf p.classes c) → All (IsRecorded ps) (map (numbered_class k p) cs)
in-package ps k p at [] among = All-nil (IsRecorded ps)
in-package ps k p at (c ∷ cs) among =
    All-cons (IsRecorded ps) (numbered_class k p c) (map (numbered_class k p) cs) (record { home = at; class = among c (inl refl) })
    (in-package ps k p at cs (λ d h. among d (inr h)))

in-packages : (ps : List PackageRecord) (k : ℕ) (qs : List PackageRecord)
    → ((j : ℕ) (q : PackageRecord) → slice_get qs j ≡ Some q → slice_get ps (k + j) ≡ Some q) → All (IsRecorded ps) (classes_after k qs)
in-packages ps k [] all = All-nil (IsRecorded ps)
in-packages ps k (q ∷ qs) all =
    let here : k + 0 ≡ k = omega arith in
    All-append (IsRecorded ps) (numbered_classes_of k q) (classes_after (k + 1) qs)
    (in-package ps k q (rw here at (all 0 q refl)) q.classes (λ c h. h))
    (in-packages ps (k + 1) qs (λ j r e. let next : (k + 1) + j ≡ k + suc j = omega arith in rw next (all (suc j) r e)))

all-recorded : (ps : List PackageRecord) → All (IsRecorded ps) (numbered_classes ps)
all-recorded ps = in-packages ps 0 ps (λ j q e. let same : 0 + j ≡ j = omega arith in rw same e)

-- ---- the class that a reference of the Descriptor names

none-passes : {X : Type 0} (t : X → Bool) (xs : List X) (x : X) → list_any t xs ≡ false → IsOneOf xs x → t x ≡ false
none-passes t [] x none h = absurd h
none-passes t (y ∷ ys) x none (inl e) = ap t e ∙ (or_parts (t y) (list_any t ys) none).0
none-passes t (y ∷ ys) x none (inr h) = none-passes t ys x (or_parts (t y) (list_any t ys) none).1 h

no-interface : (cs : List Class) (reference : ℕ) (c : Class) → names_interface cs reference ≡ false → IsOneOf cs c → c.offset ≡ reference
    → is_interface c.flags ≡ false
unfolding names_interface
no-interface cs reference c none h e = grind (arith, eq-eqb, none-passes, true≢false)

module _ (ps : List PackageRecord) (k : ℕ) (p : PackageRecord) (at : slice_get ps k ≡ Some p) where
  flag-by : (reference : ℕ) (c : NumberedClass) → slice_get ps c.home ≡ Some c.of_package → IsOneOf c.of_package.classes c.record_of
      → c.home ≡ k → c.record_of.offset ≡ reference
      → names_interface p.classes reference ≡ false → is_interface c.record_of.flags ≡ false
  flag-by reference c home class same offset none = grind (arith, slice_get, no-interface)

  place-is : (c : NumberedClass) (reference : ℕ) → same_place (record { «package» = k; offset = reference }) (place_of_class c) ≡ true
      → (c.home ≡ k) × (c.record_of.offset ≡ reference)
  place-is c reference e = grind (arith, same-equal)

  own-number : (reference n : ℕ) → class_at ps (record { «package» = k; offset = reference }) ≡ Some n → names_interface p.classes reference
      ≡ false → is_interface_number ps n ≡ false
  unfolding class_at is_interface_number
  own-number reference n e none =
      let place : RecordPlace = record { «package» = k; offset = reference } in
      let found = position-Some (same_place place) (class_places ps) n place e in
      let many : length (class_places ps) ≡ length (numbered_classes ps) = length-map (numbered_classes ps) place_of_class in
      let c = slice_get-some (numbered_classes ps) n (let lt = found.0 in omega (arith, lt, many)) in
      let stands : slice_get (class_places ps) n ≡ Some (place_of_class c.0) = slice_get-map place_of_class (numbered_classes ps) n
      ∙ ap (option_map place_of_class) c.1 in
      let here : same_place place (place_of_class c.0) ≡ true = subst (λ (q : RecordPlace). same_place place q ≡ true)
      (get_or_from_slice_get (class_places ps) n (place_of_class c.0) place stands) found.1 in
      let recorded = All-slice_get (IsRecorded ps) (numbered_classes ps) n c.0 (all-recorded ps) c.1 in
      let is = place-is c.0 reference here in
      ap flagged_interface c.1 ∙ flag-by reference c.0 recorded.home recorded.class is.0 is.1 none

  number-by : (reference n : ℕ) → Refers ps k (reference_of reference) n → reference < 0x8000 → names_interface p.classes reference ≡ false
      → is_interface_number ps n ≡ false
  number-by reference n x low none = grind (arith, internal-is, own-number)

  -- a class of the package that is no interface has methods with headers
  pub headers : (c : described.ClassDescriptor) → AllEmpty (conditions ps) → IsOneOf p.description.items.classes c → c.class_ref < 0x8000
      → names_interface p.classes c.class_ref ≡ false → have_headers ps k p c ≡ true
  unfolding have_headers
  headers c none one low proper =
      let x : NamesClass ps k c.class_ref = describes-class ps k p c none at one in
      let number : is_interface_number ps x.number ≡ false = number-by c.class_ref x.number (named-refers ps k c.class_ref x.number x.named) low proper in
      let class : is_class ps (class_named ps k c.class_ref) ≡ true = ap (is_class ps) x.named ∙ not_from_false (is_interface_number ps x.number) number in
      rw (proper, class) refl

  -- one that is an interface has none
  pub no-headers : (c : described.ClassDescriptor) → names_interface p.classes c.class_ref ≡ true → have_headers ps k p c ≡ false
  unfolding have_headers
  no-headers c interface = rw interface refl
