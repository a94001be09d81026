-- The numbers of classes and methods, package by package.
use Rattle.std.proofs.Common.{◌≡◌, ℕ, suc, ◌+◌, List, [], ◌∷◌, length, refl, sym, ap, ap₂, ◌∙◌, length-append}
use Rattle.std.proofs.lemmas.List.{length-map}
use Rattle.std.proofs.lemmas.List.Sums.{sum_by-cons}
use Rattle.cap_desc.specs.DescriptorFormat as described
use Rattle.cap_package.specs.PackageRecord.{PackageRecord}
use Rattle.jc_resolve.specs.Numbering.{numbered_classes_of, classes_after, numbered_classes, methods_of_class, methods_of_classes, methods_after}
use Rattle.jc_resolve.specs.Numbering.{numbered_methods}
use Rattle.jc_resolve.specs.NamedMethods.{named_method, named_methods}
use Rattle.jc_resolve.specs.Counts.{class_total, method_count, method_total}

pub length_classes : (k : ℕ) (ps : List PackageRecord) → length (classes_after k ps) ≡ class_total ps
length_classes k [] = refl
length_classes k (p ∷ ps) =
    length-append (numbered_classes_of k p) (classes_after (k + 1) ps)
    ∙ ap₂ ◌+◌ (length-map p.classes _) (length_classes (k + 1) ps)
    ∙ sym (sum_by-cons (λ (q : PackageRecord). length q.classes) p ps)

pub classes_total : (ps : List PackageRecord) → length (numbered_classes ps) ≡ class_total ps
classes_total ps = length_classes 0 ps

length_class : (k : ℕ) (p : PackageRecord) (n : ℕ) (c : described.ClassDescriptor) (i : ℕ) (ms : List described.MethodDescriptor)
    → length (methods_of_class k p n c i ms) ≡ length ms
length_class k p n c i [] = refl
length_class k p n c i (m ∷ ms) = ap suc (length_class k p n c (i + 1) ms)

length_in : (k : ℕ) (p : PackageRecord) (n : ℕ) (cs : List described.ClassDescriptor) → length (methods_of_classes k p n cs) ≡ method_count cs
length_in k p n [] = refl
length_in k p n (c ∷ cs) =
    length-append (methods_of_class k p n c 0 c.methods) (methods_of_classes k p (n + 1) cs)
    ∙ ap₂ ◌+◌ (length_class k p n c 0 c.methods) (length_in k p (n + 1) cs)
    ∙ sym (sum_by-cons (λ (d : described.ClassDescriptor). length d.methods) c cs)

pub length_methods : (k : ℕ) (ps : List PackageRecord) → length (methods_after k ps) ≡ method_total ps
length_methods k [] = refl
length_methods k (p ∷ ps) =
    length-append (methods_of_classes k p 0 p.description.items.classes) (methods_after (k + 1) ps)
    ∙ ap₂ ◌+◌ (length_in k p 0 p.description.items.classes) (length_methods (k + 1) ps)
    ∙ sym (sum_by-cons (λ (q : PackageRecord). method_count q.description.items.classes) p ps)

pub methods_total : (ps : List PackageRecord) → length (numbered_methods ps) ≡ method_total ps
methods_total ps = length_methods 0 ps

pub named_methods_many : (ps : List PackageRecord) (roles : List ℕ) → length (named_methods ps roles) ≡ length (numbered_methods ps)
unfolding named_methods
named_methods_many ps roles = length-map (numbered_methods ps) (named_method ps roles)
