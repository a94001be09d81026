-- What a class reference names by cases is what is computed, and at most one class is named.
use Rattle.std.proofs.Common.{◌≡◌, ℕ, ◌-◌, ◌/◌, ◌%◌, ◌<◌, List, Option, Some, None, option_map, option_and_then, refl, sym, ap, arith}
use Rattle.std.proofs.Common.{◌∙◌}
use Rattle.std.specs.Prelude.{◌↔◌, if◌then◌else◌}
use Rattle.std.proofs.lemmas.Bool.{lt-ltb}
use Rattle.cap_bytes.specs.declared.class_reference.ClassReference.{ClassReference}
use Rattle.cap_bytes.specs.declared.class_reference.ClassReference.TheVariants.{Internal, External}
use Rattle.cap_bytes.specs.ClassReference.{reference_of}
use Rattle.cap_package.specs.PackageRecord.{PackageRecord}
use Rattle.jc_resolve.specs.Numbering.{class_at}
use Rattle.jc_resolve.specs.References.{met_by, exported_offset, exported_place, class_referred, class_named, Refers, internal, imported}

module _ (ps : List PackageRecord) (k import class c : ℕ) where
  exported_by : (j : ℕ) (o : Option ℕ) → met_by ps k import ≡ Some j → exported_offset ps j class ≡ o
      → option_and_then (class_at ps) (option_map (λ offset. record { «package» = j; offset = offset }) o) ≡ Some c
      → Refers ps k (External import class) c
  exported_by j None met out h = absurd cc
  exported_by j (Some offset) met out h = imported import class j offset refl met out h

  met_first : (o : Option ℕ) → met_by ps k import ≡ o
      → option_and_then (class_at ps) (option_and_then (λ j. exported_place ps j class) o) ≡ Some c → Refers ps k (External import class) c
  met_first None met h = absurd cc
  met_first (Some j) met h = exported_by j (exported_offset ps j class) met refl h

-- the class that is computed is referred to
pub computed-refers : (ps : List PackageRecord) (k : ℕ) (reference : ClassReference) (c : ℕ) → class_referred ps k reference ≡ Some c
    → Refers ps k reference c
unfolding class_referred
computed-refers ps k (Internal offset) c h = internal offset refl h
computed-refers ps k (External import class) c h = met_first ps k import class c (met_by ps k import) refl h

-- what is referred to is computed
pub refers-computed : (ps : List PackageRecord) (k : ℕ) (reference : ClassReference) (c : ℕ) → Refers ps k reference c
    → class_referred ps k reference ≡ Some c
unfolding class_referred
refers-computed ps k reference c v = grind (arith)

-- at most one class is named
pub refers-only : (ps : List PackageRecord) (k : ℕ) (reference : ClassReference) (c d : ℕ) → Refers ps k reference c → Refers ps k reference d
    → c ≡ d
refers-only ps k reference c d h l = grind (arith, refers-computed)

-- an answer is the one class to which a reference refers
pub answer-refers : (ps : List PackageRecord) (k : ℕ) (reference : ClassReference) (answer : Option ℕ) → answer ≡ class_referred ps k reference
    → (c : ℕ) → (answer ≡ Some c) ↔ Refers ps k reference c
answer-refers ps k reference answer e c = (λ h. computed-refers ps k reference c (sym e ∙ h), λ h. e ∙ refers-computed ps k reference c h)

-- the class that a class_ref names
pub named-refers : (ps : List PackageRecord) (k class_ref c : ℕ) → class_named ps k class_ref ≡ Some c → Refers ps k (reference_of class_ref) c
unfolding class_named
named-refers ps k class_ref c h = computed-refers ps k (reference_of class_ref) c h

-- a class_ref below 0x8000 is internal
pub internal-is : (class_ref : ℕ) → class_ref < 0x8000 → reference_of class_ref ≡ Internal class_ref
internal-is class_ref low = ap (λ b. if b then Internal class_ref else External ((class_ref - 0x8000) / 256) (class_ref % 256)) (lt-ltb class_ref 0x8000 low)
