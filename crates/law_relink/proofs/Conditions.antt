-- The same things are at fault with numbers, imports and class references.
use Rattle.std.proofs.Common.{◌≡◌, ◌+◌, ℕ, suc, List, [], ◌∷◌, ◌++◌, length, map, flat_map, filter_map, Bool, Option, option_to_list}
use Rattle.std.proofs.Common.{refl, sym, ap, ◌∙◌, arith, length-append}
use Rattle.std.proofs.lemmas.List.{length-map}
use Rattle.std.specs.List.{range_with_len, cons_option}
use Rattle.cap_desc.specs.DescriptorFormat.{MethodDescriptor, FieldDescriptor, ClassDescriptor}
use Rattle.cap_desc.specs.Members.{methods_of, fields_of}
use Rattle.cap_package.specs.PackageRecord.{PackageRecord, names_interface}
use Rattle.cap_package.specs.Descriptions.{Description}
use Rattle.cap_package.specs.Agreement.{or_none}
use Rattle.cap_renewal.specs.ClassEdits.{renewed_class}
use Rattle.jc_decode.specs.declared.symbols.Laid.{Laid}
use Rattle.jc_resolve.specs.declared.fault.LinkFault.{LinkFault}
use Rattle.jc_resolve.specs.Numbering.{place_of_class, numbered_classes, numbered_methods, methods_after, methods_of_classes, methods_of_class}
use Rattle.jc_resolve.specs.Conditions.{named_after, named_in, import_tokens, no_package_fault, references_of_class, references_of_record, reference_of_type}
use Rattle.jc_resolve.specs.Conditions.{references_of_field_type, references_of_method, class_references, no_class_fault, conditions}
use Rattle.law_package.specs.Changes.{changes, now_at}
use Rattle.law_package.specs.Rewritten.{bare_method, bare_class, HasSameDescription, IsRewritten}
use Rattle.law_package.proofs.Bare.{alike, same_field, same_types_named}
use Rattle.law_relink.specs.Last.{and_last}
use Rattle.law_relink.proofs.Lists.{length_last}
use Rattle.law_relink.proofs.Names.{places_same, met_same, named_same}

-- ---- numbers

many_classes : (ps : List PackageRecord) (p q : PackageRecord) (laid : List (Option Laid)) → IsRewritten p laid q
    → length (numbered_classes (and_last ps q)) ≡ length (numbered_classes (and_last ps p))
many_classes ps p q laid r =
    sym (length-map (numbered_classes (and_last ps q)) place_of_class)
    ∙ ap length (places_same (now_at (changes p laid q)) ps p q r.classes)
    ∙ length-map (numbered_classes (and_last ps p)) place_of_class

many_in_class : (k : ℕ) (p : PackageRecord) (n : ℕ) (c : ClassDescriptor) (i : ℕ) (ms : List MethodDescriptor)
    → length (methods_of_class k p n c i ms) ≡ length ms
many_in_class k p n c i [] = refl
many_in_class k p n c i (m ∷ ms) = ap suc (many_in_class k p n c (i + 1) ms)

many_in_classes : (k : ℕ) (p : PackageRecord) (n : ℕ) (cs : List ClassDescriptor)
    → length (methods_of_classes k p n cs) ≡ length (methods_of cs)
many_in_classes k p n [] = refl
many_in_classes k p n (c ∷ cs) = grind (arith, length-append, many_in_class, many_in_classes k p (n + 1) cs)

many_methods_after : (k : ℕ) (ps : List PackageRecord) (p q : PackageRecord)
    → length (methods_of q.description.items.classes) ≡ length (methods_of p.description.items.classes)
    → length (methods_after k (and_last ps q)) ≡ length (methods_after k (and_last ps p))
many_methods_after k [] p q e = grind (arith, length-append, many_in_classes)
many_methods_after k (r ∷ ps) p q e = grind (arith, length-append, many_methods_after (k + 1) ps p q e)

many_methods : (ps : List PackageRecord) (p q : PackageRecord) (laid : List (Option Laid)) → IsRewritten p laid q
    → length (numbered_methods (and_last ps q)) ≡ length (numbered_methods (and_last ps p))
many_methods ps p q laid r =
    let a = (alike (names_interface p.classes) p.description.items.classes q.description.items.classes
    r.description.classes).methods in
    grind (arith, a, many_methods_after, length-map, length)

-- ---- references

flat_alike : {X Y : Type 0} (f : X → List ℕ) (g : X → Y) (b : Y → List ℕ) (xs : List X) → ((x : X) → f x ≡ b (g x))
    → flat_map f xs ≡ flat_map b (map g xs)
flat_alike f g b [] h = refl
flat_alike f g b (x ∷ xs) h = ap (λ ys. ys ++ flat_map f xs) (h x) ∙ ap (λ ys. b (g x) ++ ys) (flat_alike f g b xs h)

flat_same : {X : Type 0} (f g : X → List ℕ) (xs : List X) → ((x : X) → f x ≡ g x) → flat_map f xs ≡ flat_map g xs
flat_same f g [] h = refl
flat_same f g (x ∷ xs) h = ap (λ ys. ys ++ flat_map f xs) (h x) ∙ ap (λ ys. g x ++ ys) (flat_same f g xs h)

field_same : (set : ℕ → Bool) (d e : Description) (f : FieldDescriptor) → HasSameDescription set d e
    → references_of_field_type e f ≡ references_of_field_type d f
field_same set d e f h = ap (λ t. flat_map reference_of_type (option_to_list t)) (same_field set d e f.ty h)

method_same : (set : ℕ → Bool) (d e : Description) (m : MethodDescriptor) → HasSameDescription set d e
    → references_of_method e m ≡ references_of_method d m
method_same set d e m h = ap (λ t. flat_map reference_of_type (or_none t)) (same_types_named set d e m.type_offset h)

references_same : (p q : PackageRecord) (laid : List (Option Laid)) → IsRewritten p laid q → class_references q ≡ class_references p
unfolding class_references
references_same p q laid r =
    let set = names_interface p.classes in
    let d = p.description in
    let e = q.description in
    let a = alike set d.items.classes e.items.classes r.description.classes in
    let classes : flat_map references_of_class q.classes ≡ flat_map references_of_class p.classes =
    ap (flat_map references_of_class) r.classes
    ∙ sym (flat_alike references_of_class (renewed_class (now_at (changes p laid q))) references_of_class p.classes (λ c. refl)) in
    let records : flat_map references_of_record e.items.classes ≡ flat_map references_of_record d.items.classes =
    flat_alike references_of_record (bare_class set) references_of_record e.items.classes (λ c. refl)
    ∙ ap (flat_map references_of_record) r.description.classes
    ∙ sym (flat_alike references_of_record (bare_class set) references_of_record d.items.classes (λ c. refl)) in
    let fields : flat_map (references_of_field_type e) (fields_of e.items.classes)
    ≡ flat_map (references_of_field_type d) (fields_of d.items.classes) =
    flat_same (references_of_field_type e) (references_of_field_type d) (fields_of e.items.classes)
    (λ f. field_same set d e f r.description) ∙ ap (flat_map (references_of_field_type d)) a.fields in
    let methods : flat_map (references_of_method e) (methods_of e.items.classes)
    ≡ flat_map (references_of_method d) (methods_of d.items.classes) =
    flat_same (references_of_method e) (references_of_method d) (methods_of e.items.classes)
    (λ m. method_same set d e m r.description)
    ∙ flat_alike (references_of_method d) bare_method (references_of_method d) (methods_of e.items.classes) (λ m. refl)
    ∙ ap (flat_map (references_of_method d)) a.methods
    ∙ sym (flat_alike (references_of_method d) bare_method (references_of_method d) (methods_of d.items.classes) (λ m. refl)) in
    grind (arith, classes, records, fields, methods, flat_map)

-- ---- the conditions

named_last : (f : PackageRecord → List ℕ) (k : ℕ) (ps : List PackageRecord) (p q : PackageRecord) → f q ≡ f p
    → named_after f k (and_last ps q) ≡ named_after f k (and_last ps p)
named_last f k [] p q e = ap (λ ns. map (λ n. (k, n)) ns ++ []) e
named_last f k (r ∷ ps) p q e = ap (λ ns. map (λ n. (k, n)) (f r) ++ ns) (named_last f (k + 1) ps p q e)

faults_same : {X : Type 0} (f g : X → Option LinkFault) (xs : List X) → ((x : X) → f x ≡ g x) → filter_map f xs ≡ filter_map g xs
faults_same f g [] h = refl
faults_same f g (x ∷ xs) h = ap (λ o. cons_option o (filter_map f xs)) (h x) ∙ ap (cons_option (g x)) (faults_same f g xs h)

no_package_same : (ps : List PackageRecord) (p q : PackageRecord) (laid : List (Option Laid)) (x : ℕ × ℕ) → IsRewritten p laid q
    → no_package_fault (and_last ps q) x ≡ no_package_fault (and_last ps p) x
unfolding no_package_fault
no_package_same ps p q laid x r = rw (met_same ps p q x.0 x.1 r.header r.imports) refl

no_class_same : (ps : List PackageRecord) (p q : PackageRecord) (laid : List (Option Laid)) (x : ℕ × ℕ) → IsRewritten p laid q
    → no_class_fault (and_last ps q) x ≡ no_class_fault (and_last ps p) x
unfolding no_class_fault
no_class_same ps p q laid x r = rw (named_same ps p q laid x.0 x.1 r) refl

pub conditions_same : (ps : List PackageRecord) (p q : PackageRecord) (laid : List (Option Laid)) → IsRewritten p laid q
    → conditions (and_last ps q) ≡ conditions (and_last ps p)
conditions_same ps p q laid r =
    let imports : filter_map (no_package_fault (and_last ps q)) (named_in import_tokens (and_last ps q))
    ≡ filter_map (no_package_fault (and_last ps p)) (named_in import_tokens (and_last ps p)) =
    ap (filter_map (no_package_fault (and_last ps q))) (named_last import_tokens 0 ps p q
    (ap (λ is. range_with_len 0 (length is)) r.imports))
    ∙ faults_same (no_package_fault (and_last ps q)) (no_package_fault (and_last ps p)) (named_in import_tokens (and_last ps p))
    (λ x. no_package_same ps p q laid x r) in
    grind (arith, imports, filter_map, named_last, references_same, faults_same, no_class_same, length_last, many_classes, many_methods)
