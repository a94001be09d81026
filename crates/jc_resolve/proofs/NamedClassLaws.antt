-- The class that a record of the Descriptor names is one of the numbered classes.
use Rattle.std.proofs.Common.{◌≡◌, ℕ, zero, suc, ◌+◌, ◌<◌, cond, List, [], ◌∷◌, length, map, flat_map, Option, Some, None, refl}
use Rattle.std.proofs.Common.{ap, subst, inl, inr, arith}
use Rattle.std.specs.Prelude.{slice_get, is_none}
use Rattle.cap_desc.specs.DescriptorFormat as described
use Rattle.cap_package.specs.PackageRecord.{PackageRecord}
use Rattle.jc_resolve.specs.declared.fault.LinkFault.TheVariants.{NoClass}
use Rattle.first_fault.specs.First.{AllEmpty}
use Rattle.jc_resolve.specs.Conditions.{named_after, named_in, class_references, no_class_fault}
use Rattle.jc_resolve.specs.Conditions.{conditions}
use Rattle.jc_resolve.specs.Numbering.{numbered_classes}
use Rattle.jc_resolve.specs.NamedMethods.{class_described}
use Rattle.jc_resolve.specs.References.{class_named}
use Rattle.jc_resolve.proofs.Faultless.{IsOneOf, faultless, one_of_front, one_of_after, one_of_flat}
use Rattle.jc_resolve.proofs.DeclaredTypes.{named_below}
use Rattle.jc_resolve.proofs.NamesFaultless.{names_faultless}

one_paired : (k : ℕ) (ns : List ℕ) (n : ℕ) → IsOneOf ns n → IsOneOf {F = ℕ × ℕ} (map (λ i. (k, i)) ns) (k, n)
one_paired k [] n h = absurd h
one_paired k (i ∷ ns) n (inl e) = inl (ap (λ j. (k, j)) e)
one_paired k (i ∷ ns) n (inr h) = inr (one_paired k ns n h)

named_further : (f : PackageRecord → List ℕ) (j : ℕ) (ps : List PackageRecord) (k : ℕ) (p : PackageRecord) (n : ℕ) → slice_get ps k ≡ Some p
    → IsOneOf (f p) n → IsOneOf {F = ℕ × ℕ} (named_after f j ps) (j + k, n)
named_further f j [] k p n e h = absurd cc
named_further f j (q ∷ ps) zero p n e h =
    let same : p ≡ q = cc in
    let here : j + 0 ≡ j = omega arith in
    rw here (one_of_front (map (λ i. (j, i)) (f q)) (named_after f (j + 1) ps) (j, n) (one_paired j (f q) n (subst (λ r. IsOneOf (f r) n) same h)))
named_further f j (q ∷ ps) (suc k) p n e h = grind (arith, suc, one_of_after, named_further f (j + 1) ps k p n e h)

-- ---- a class reference names a class

-- a class that a reference names
pub record NamesClass (ps : List PackageRecord) (k reference : ℕ) : Type 0 where
  pub number : ℕ
  pub named : class_named ps k reference ≡ Some number
  pub below : number < length (numbered_classes ps)

named_by : (ps : List PackageRecord) (k reference : ℕ) (o : Option ℕ) → class_named ps k reference ≡ o
    → cond (is_none o) (Some (NoClass k reference)) None ≡ None → NamesClass ps k reference
named_by ps k reference None e none = absurd cc
named_by ps k reference (Some c) e none = record { number = c; named = e; below = rw e at (named_below ps k reference) }

named_since : (ps : List PackageRecord) (k reference : ℕ) → no_class_fault ps (k, reference) ≡ None → NamesClass ps k reference
unfolding no_class_fault
named_since ps k reference none = named_by ps k reference (class_named ps k reference) refl none

-- where no reference is at fault, each names a class
pub names-class : (ps : List PackageRecord) (k : ℕ) (p : PackageRecord) (reference : ℕ) → AllEmpty (conditions ps) → slice_get ps k ≡ Some p
    → IsOneOf (class_references p) reference → NamesClass ps k reference
names-class ps k p reference none at one =
    let place : 0 + k ≡ k = omega arith in
    let fault = faultless (no_class_fault ps) (named_in class_references ps) (0 + k, reference) (names_faultless ps none).references
    (named_further class_references 0 ps k p reference at one) in
    named_since ps k reference (rw place at fault)

reference_described : (p : PackageRecord) (d : described.ClassDescriptor) → IsOneOf p.description.items.classes d → IsOneOf (class_references p) d.class_ref
unfolding class_references
reference_described p d one = grind (arith, one_of_after, flat_map, one_of_front, one_of_flat)

pub describes-class : (ps : List PackageRecord) (k : ℕ) (p : PackageRecord) (d : described.ClassDescriptor) → AllEmpty (conditions ps)
    → slice_get ps k ≡ Some p → IsOneOf p.description.items.classes d → NamesClass ps k d.class_ref
describes-class ps k p d none at one = names-class ps k p d.class_ref none at (reference_described p d one)

pub class-described : (ps : List PackageRecord) (k : ℕ) (d : described.ClassDescriptor) (x : NamesClass ps k d.class_ref)
    → class_described ps k d ≡ x.number
unfolding class_described
class-described ps k d x = rw x.named refl
