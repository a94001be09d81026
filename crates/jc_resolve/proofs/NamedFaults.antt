-- The least fault of what packages name, piece by piece.
use Rattle.std.proofs.Common.{◌≡◌, ℕ, suc, ◌+◌, ◌-◌, ◌<◌, List, [], ◌∷◌, map, flat_map, Option, refl, ap, arith}
use Rattle.std.specs.List.{range_with_len}
use Rattle.std.proofs.lemmas.Grind.{flat_map-append}
use Rattle.std.proofs.lemmas.List.Sums.{fold-append}
use Rattle.cap_class.specs.ClassFormat.{Class, Interface}
use Rattle.cap_desc.specs.declared.type_list.TypeItem.{TypeItem}
use Rattle.cap_desc.specs.DescriptorFormat as described
use Rattle.cap_desc.specs.DescriptorFormat.{FieldDescriptor, MethodDescriptor}
use Rattle.cap_desc.specs.Members.{fields_of, methods_of}
use Rattle.cap_package.specs.Descriptions.{Description}
use Rattle.cap_package.specs.PackageRecord.{PackageRecord}
use Rattle.jc_resolve.specs.declared.fault.LinkFault.{LinkFault}
use Rattle.jc_resolve.specs.Fault.{link_place}
use Rattle.first_fault.specs.Least.{lesser, least_from}
use Rattle.jc_resolve.specs.Conditions.{named_after, import_tokens, no_package_fault, import_fault, super_references, references_of_class}
use Rattle.jc_resolve.specs.Conditions.{references_of_classes, reference_of_field, references_of_record}
use Rattle.jc_resolve.specs.Conditions.{reference_of_type, references_of_field_type}
use Rattle.jc_resolve.specs.Conditions.{references_of_method, references_described}
use Rattle.jc_resolve.specs.LookedUp.{references_with_methods, references_of_field_types, references_for_classes}
use Rattle.jc_resolve.specs.LookedUp.{references_without_methods, least_named}

pub range_step : (a n : ℕ) → a < n → range_with_len a (n - a) ≡ a ∷ range_with_len (a + 1) (n - (a + 1))
range_step a n lt = let e : n - a ≡ suc (n - (a + 1)) = omega arith in ap (range_with_len a) e

-- pairs with one first
pub least_pairs : (fault : ℕ × ℕ → Option LinkFault) (k : ℕ) (ns : List ℕ) (before : Option LinkFault)
    → least_from link_place before fault (map (λ n. (k, n)) ns) ≡ least_from link_place before (λ n. fault (k, n)) ns
least_pairs fault k [] before = refl
least_pairs fault k (n ∷ ns) before = least_pairs fault k ns (lesser link_place before (fault (k, n)))

pub least_after : (fault : ℕ × ℕ → Option LinkFault) (g : PackageRecord → List ℕ) (k : ℕ) (p : PackageRecord) (ps : List PackageRecord)
    (before : Option LinkFault) → least_from link_place before fault (named_after g k (p ∷ ps)) ≡ least_from link_place
    (least_from link_place before (λ n. fault (k, n)) (g p)) fault (named_after g (k + 1) ps)
least_after fault g k p ps before = grind (arith, fold-append, least_pairs)

pub least_imports : (all : List PackageRecord) (k : ℕ) (p : PackageRecord) (ps : List PackageRecord) (before : Option LinkFault)
    → least_from link_place before (no_package_fault all) (named_after import_tokens k (p ∷ ps)) ≡ least_from link_place
    (least_from link_place before (import_fault all k) (import_tokens p)) (no_package_fault all) (named_after import_tokens (k + 1) ps)
least_imports all k p ps before = least_after (no_package_fault all) import_tokens k p ps before

module _ (all : List PackageRecord) (k : ℕ) where
  -- the least fault of references, beside one that was seen before
  abbrev in_order : Option LinkFault → List ℕ → Option LinkFault
  in_order = least_named all k

  pub least_class : (c : Class) (before : Option LinkFault) → in_order before (references_of_class c)
      ≡ in_order (in_order before (super_references c.super_ref)) (map (λ (i : Interface). i.class_ref) c.interfaces)
  least_class c before = fold-append _ before (super_references c.super_ref) (map (λ (i : Interface). i.class_ref) c.interfaces)

  pub least_classes : (c : Class) (cs : List Class) (before : Option LinkFault) → in_order before (flat_map references_of_class (c ∷ cs))
      ≡ in_order (in_order before (references_of_class c)) (flat_map references_of_class cs)
  least_classes c cs before = fold-append _ before (references_of_class c) (flat_map references_of_class cs)

  pub least_fields : (f : FieldDescriptor) (fs : List FieldDescriptor) (before : Option LinkFault)
      → in_order before (flat_map reference_of_field (f ∷ fs)) ≡ in_order (in_order before (reference_of_field f)) (flat_map reference_of_field fs)
  least_fields f fs before = fold-append _ before (reference_of_field f) (flat_map reference_of_field fs)

  pub least_without_methods : (d : described.ClassDescriptor) (before : Option LinkFault) → in_order before (references_without_methods d)
      ≡ in_order (in_order before d.interfaces) (flat_map reference_of_field d.fields)
  least_without_methods d before = fold-append _ before d.interfaces (flat_map reference_of_field d.fields)

  pub least_records : (d : described.ClassDescriptor) (ds : List described.ClassDescriptor) (before : Option LinkFault)
      → in_order before (flat_map references_without_methods (d ∷ ds)) ≡ in_order (in_order before (references_without_methods d))
      (flat_map references_without_methods ds)
  least_records d ds before = fold-append _ before (references_without_methods d) (flat_map references_without_methods ds)

  pub least_with_methods : (d : Description) (c : described.ClassDescriptor) (cs : List described.ClassDescriptor) (before : Option LinkFault)
      → in_order before (flat_map (references_with_methods d) (c ∷ cs)) ≡ in_order (in_order before (references_with_methods d c))
      (flat_map (references_with_methods d) cs)
  least_with_methods d c cs before = fold-append _ before (references_with_methods d c) (flat_map (references_with_methods d) cs)

  pub least_types : (t : TypeItem) (ts : List TypeItem) (before : Option LinkFault) → in_order before (flat_map reference_of_type (t ∷ ts))
      ≡ in_order (in_order before (reference_of_type t)) (flat_map reference_of_type ts)
  least_types t ts before = fold-append _ before (reference_of_type t) (flat_map reference_of_type ts)

  pub least_field_types : (d : Description) (f : FieldDescriptor) (fs : List FieldDescriptor) (before : Option LinkFault)
      → in_order before (flat_map (references_of_field_type d) (f ∷ fs)) ≡ in_order (in_order before (references_of_field_type d f))
      (flat_map (references_of_field_type d) fs)
  least_field_types d f fs before = fold-append _ before (references_of_field_type d f) (flat_map (references_of_field_type d) fs)

  pub least_record_types : (d : Description) (c : described.ClassDescriptor) (cs : List described.ClassDescriptor) (before : Option LinkFault)
      → in_order before (flat_map (references_of_field_type d) (fields_of (c ∷ cs)))
      ≡ in_order (in_order before (flat_map (references_of_field_type d) c.fields)) (flat_map (references_of_field_type d) (fields_of cs))
  least_record_types d c cs before = grind (arith, flat_map-append, fold-append, flat_map)

  pub least_methods : (d : Description) (m : MethodDescriptor) (ms : List MethodDescriptor) (before : Option LinkFault)
      → in_order before (flat_map (references_of_method d) (m ∷ ms)) ≡ in_order (in_order before (references_of_method d m))
      (flat_map (references_of_method d) ms)
  least_methods d m ms before = fold-append _ before (references_of_method d m) (flat_map (references_of_method d) ms)

  pub least_described : (p : PackageRecord) (before : Option LinkFault) → in_order before (references_described p) ≡
      in_order (in_order (in_order before (flat_map references_of_record p.description.items.classes))
      (flat_map (references_of_field_type p.description) (fields_of p.description.items.classes)))
      (flat_map (references_of_method p.description) (methods_of p.description.items.classes))
  least_described p before = grind (arith, fold-append, flat_map)

  pub least_for_classes : (p : PackageRecord) (before : Option LinkFault) → in_order before (references_for_classes p)
      ≡ in_order (in_order before (references_of_field_types p)) (references_of_classes p)
  least_for_classes p before = fold-append _ before (references_of_field_types p) (references_of_classes p)
