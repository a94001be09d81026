-- The least fault of class references, which are looked up in another order than that of the condition.
use Rattle.std.proofs.Common.{◌≡◌, ℕ, ◌+◌, Bool, List, [], ◌∷◌, ◌++◌, map, flat_map, Option, Some, None, is_none, arith}
use Rattle.std.proofs.Common.{if◌then◌else◌, refl, sym, ap, ◌∙◌}
use Rattle.std.proofs.lemmas.Grind.{flat_map-append}
use Rattle.std.proofs.lemmas.List.{map-append}
use Rattle.std.proofs.lemmas.List.Sums.{fold-append}
use Rattle.cap_desc.specs.DescriptorFormat.{ClassDescriptor, MethodDescriptor}
use Rattle.cap_desc.specs.Members.{fields_of, methods_of}
use Rattle.cap_package.specs.PackageRecord.{PackageRecord}
use Rattle.first_fault.specs.Least.{least_from, least_of}
use Rattle.first_fault.proofs.AnyOrder.{AreExact, least-turned}
use Rattle.jc_resolve.specs.declared.fault.LinkFault.{LinkFault}
use Rattle.jc_resolve.specs.declared.fault.LinkFault.TheVariants.{NoClass}
use Rattle.jc_resolve.specs.Conditions.{named_after, named_in, references_of_record}
use Rattle.jc_resolve.specs.Conditions.{references_of_field_type, references_of_method, references_of_classes}
use Rattle.jc_resolve.specs.Conditions.{references_described, class_references, reference_fault, no_class_fault}
use Rattle.jc_resolve.specs.Fault.{link_place}
use Rattle.jc_resolve.specs.LookedUp.{references_with_methods, references_for_methods, references_of_field_types, references_for_classes}
use Rattle.jc_resolve.specs.LookedUp.{references_without_methods, references_besides}
use Rattle.jc_resolve.specs.References.{class_named}
use Rattle.jc_resolve.proofs.NamedFaults.{least_pairs, least_described}

-- ---- the fault of a reference is known by its place

named_by : (x : ℕ × ℕ) (f : LinkFault) (b : Bool) → (if b then Some (NoClass x.0 x.1) else None) ≡ Some f → f ≡ NoClass x.0 x.1
named_by x f z h = grind (arith)

same_reference : (a b c d : ℕ) → link_place (NoClass a b) ≡ link_place (NoClass c d) → NoClass a b ≡ NoClass c d
unfolding link_place
same_reference a b c d e = grind (arith)

no-class-exact : (ps : List PackageRecord) → AreExact link_place (no_class_fault ps)
unfolding no_class_fault
no-class-exact ps x y f g p q e =
    let f_is = named_by x f (is_none (class_named ps x.0 x.1)) p in
    let g_is = named_by y g (is_none (class_named ps y.0 y.1)) q in
    f_is ∙ same_reference x.0 x.1 y.0 y.1 (ap link_place (sym f_is) ∙ e ∙ ap link_place g_is) ∙ sym g_is

-- ---- what packages name, in two passes over the packages

module _ (fault : ℕ × ℕ → Option LinkFault) (exact : AreExact link_place fault) where
  abbrev least : Option LinkFault → List (ℕ × ℕ) → Option LinkFault
  least before = least_from link_place before fault

  abbrev of_package : ℕ → List ℕ → List (ℕ × ℕ)
  of_package k = map (λ n. (k, n))

  -- what one package names is looked at in two parts
  abbrev InParts : (PackageRecord → List ℕ) → (PackageRecord → List ℕ) → (PackageRecord → List ℕ) → Type 0
  InParts whole front back =
      (k : ℕ) (p : PackageRecord) (before : Option LinkFault) → least before (of_package k (whole p)) ≡ least (least before (of_package k (front p)))
      (of_package k (back p))

  appended-in_parts : (front back : PackageRecord → List ℕ) → InParts (λ p. front p ++ back p) front back
  appended-in_parts front back k p before = grind (arith, map-append, fold-append)

  in_two_passes : (whole front back : PackageRecord → List ℕ) → InParts whole front back
      → (k : ℕ) (ps : List PackageRecord) (before : Option LinkFault)
      → least before (named_after whole k ps) ≡ least (least before (named_after front k ps)) (named_after back k ps)
  in_two_passes whole front back parts k [] before = refl
  in_two_passes whole front back parts k (p ∷ ps) before =
      let a = of_package k (front p) in
      let b = of_package k (back p) in
      let fronts = named_after front (k + 1) ps in
      let backs = named_after back (k + 1) ps in
      fold-append _ before (of_package k (whole p)) (named_after whole (k + 1) ps)
      ∙ ap (λ o. least o (named_after whole (k + 1) ps)) (parts k p before)
      ∙ in_two_passes whole front back parts (k + 1) ps (least (least before a) b)
      ∙ ap (λ o. least o backs) (least-turned link_place fault exact b fronts (least before a))
      ∙ ap (λ o. least (least o b) backs) (sym (fold-append _ before a fronts))
      ∙ sym (fold-append _ (least before (a ++ fronts)) b backs)

-- ---- the references of a Descriptor, in two passes over its records

-- those that methods do not need
abbrev references_alone : PackageRecord → List ℕ
references_alone p = references_besides p ++ references_of_field_types p

-- the methods of several records, record by record
methods_flat : {Y : Type 0} (f : MethodDescriptor → List Y) (ds : List ClassDescriptor)
    → flat_map f (methods_of ds) ≡ flat_map (λ (d : ClassDescriptor). flat_map f d.methods) ds
methods_flat f [] = refl
methods_flat f (d ∷ ds) = flat_map-append f d.methods (methods_of ds) ∙ ap (λ l. flat_map f d.methods ++ l) (methods_flat f ds)

module _ (all : List PackageRecord) (k : ℕ) where
  abbrev fault : ℕ → Option LinkFault
  fault = reference_fault all k

  exact : AreExact link_place (reference_fault all k)
  exact x y f g p q e = no-class-exact all (k, x) (k, y) f g p q e

  abbrev on : Option LinkFault → List ℕ → Option LinkFault
  on before = least_from link_place before (reference_fault all k)

  -- what each record names is looked at in two parts
  records_in_two : (whole front back : ClassDescriptor → List ℕ)
      → ((d : ClassDescriptor) (before : Option LinkFault) → on before (whole d) ≡ on (on before (front d)) (back d))
      → (ds : List ClassDescriptor) (before : Option LinkFault)
      → on before (flat_map whole ds) ≡ on (on before (flat_map front ds)) (flat_map back ds)
  records_in_two whole front back parts [] before = refl
  records_in_two whole front back parts (d ∷ ds) before =
      let a = front d in
      let b = back d in
      let fronts = flat_map front ds in
      let backs = flat_map back ds in
      fold-append _ before (whole d) (flat_map whole ds)
      ∙ ap (λ o. on o (flat_map whole ds)) (parts d before)
      ∙ records_in_two whole front back parts ds (on (on before a) b)
      ∙ ap (λ o. on o backs) (least-turned link_place (reference_fault all k) exact b fronts (on before a))
      ∙ ap (λ o. on (on o b) backs) (sym (fold-append _ before a fronts))
      ∙ sym (fold-append _ (on before (a ++ fronts)) b backs)

  abbrev class_of : ClassDescriptor → List ℕ
  class_of d = d.class_ref ∷ []

  descriptor_in_two : (p : PackageRecord) (before : Option LinkFault) → on before (references_described p) ≡ on (on before (references_for_methods p))
      (references_alone p)
  descriptor_in_two p before =
      let ds = p.description.items.classes in
      let types_of : ClassDescriptor → List ℕ = λ (d : ClassDescriptor). flat_map (references_of_method p.description) d.methods in
      let classes = flat_map class_of ds in
      let others = flat_map references_without_methods ds in
      let fields = flat_map (references_of_field_type p.description) (fields_of ds) in
      let types = flat_map types_of ds in
      let turned = least-turned link_place (reference_fault all k) exact in
      least_described all k p before
      ∙ ap (λ l. on (on (on before (flat_map references_of_record ds)) fields) l) (methods_flat (references_of_method p.description) ds)
      ∙ ap (λ o. on (on o fields) types) (records_in_two references_of_record class_of references_without_methods (λ d b. refl) ds before)
      ∙ turned fields types (on (on before classes) others)
      ∙ ap (λ o. on o fields) (turned others types (on before classes))
      ∙ ap (λ o. on (on o others) fields) (sym (records_in_two (references_with_methods p.description) class_of types_of (λ d b. refl) ds before))
      ∙ sym (fold-append _ (on before (references_for_methods p)) others fields)

described_in_parts : (all : List PackageRecord) → InParts (no_class_fault all) (no-class-exact all) references_described references_for_methods
    references_alone
described_in_parts all k p before =
    let fault = no_class_fault all in
    least_pairs fault k (references_described p) before
    ∙ descriptor_in_two all k p before
    ∙ ap (λ o. least_from link_place o (reference_fault all k) (references_alone p)) (sym (least_pairs fault k (references_for_methods p) before))
    ∙ sym (least_pairs fault k (references_alone p) (least_from link_place before fault (map (λ n. (k, n)) (references_for_methods p))))

-- the references that methods need, those that the records of fields and classes need, and the others
pub all_looked : (ps : List PackageRecord) →
    least_from link_place
    (least_from link_place (least_of link_place (no_class_fault ps) (named_in references_for_methods ps)) (no_class_fault ps)
    (named_in references_for_classes ps))
    (no_class_fault ps) (named_in references_besides ps)
    ≡ least_of link_place (no_class_fault ps) (named_in class_references ps)
unfolding class_references
all_looked ps =
    let fault = no_class_fault ps in
    let exact = no-class-exact ps in
    let methods = named_in references_for_methods ps in
    let fields = named_in references_of_field_types ps in
    let classes = named_in references_of_classes ps in
    let besides = named_in references_besides ps in
    let turned = least-turned link_place fault exact in
    let with_methods = least_of link_place fault methods in
    let with_classes = least_of link_place fault classes in
    ap (λ o. least_from link_place o fault besides)
    (in_two_passes fault exact references_for_classes references_of_field_types references_of_classes
    (appended-in_parts fault exact references_of_field_types references_of_classes) 0 ps with_methods)
    ∙ ap (λ o. least_from link_place o fault besides) (turned fields classes with_methods)
    ∙ turned fields besides (least_from link_place with_methods fault classes)
    ∙ ap (λ o. least_from link_place (least_from link_place o fault besides) fault fields) (turned methods classes None)
    ∙ sym (in_two_passes fault exact references_alone references_besides references_of_field_types
    (appended-in_parts fault exact references_besides references_of_field_types) 0 ps (least_from link_place with_classes fault methods))
    ∙ sym (in_two_passes fault exact references_described references_for_methods references_alone (described_in_parts ps) 0 ps with_classes)
    ∙ sym (in_two_passes fault exact class_references references_of_classes references_described
    (appended-in_parts fault exact references_of_classes references_described) 0 ps None)
