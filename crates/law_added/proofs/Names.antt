-- What a package names stays the same when packages are added after it.
use Rattle.std.proofs.Common.{◌≡◌, ◌<◌, ℕ, List, ◌++◌, length, take, slice_get, position}
use Rattle.std.proofs.Common.{Option, IfSome, option_map, option_and_then, refl, ap, ◌∙◌, arith}
use Rattle.std.proofs.lemmas.List.{take-append-le}
use Rattle.cap_bytes.specs.declared.class_reference.ClassReference.{ClassReference}
use Rattle.cap_bytes.specs.declared.class_reference.ClassReference.TheVariants.{Internal, External}
use Rattle.cap_bytes.specs.ClassReference.{reference_of}
use Rattle.cap_package.specs.PackageRecord.{PackageRecord}
use Rattle.jc_resolve.specs.Numbering.{class_at}
use Rattle.jc_resolve.specs.References.{met_by, exported_offset, exported_place}
use Rattle.jc_resolve.specs.References.{class_referred, class_named}
use Rattle.jc_resolve.proofs.ImportLaws.{met_before}
use Rattle.law_added.proofs.Numbers.{class_at_front}
use Rattle.jc_base.proofs.Lists.{slice_get-left}

module _ (ps qs : List PackageRecord) where
  -- what is asked of a package before is answered as before
  pub asked_front : {X : Type 0} (f : PackageRecord → Option X) (k : ℕ) → k < length ps
      → option_and_then f (slice_get (ps ++ qs) k) ≡ option_and_then f (slice_get ps k)
  asked_front f k lt = ap (option_and_then f) (slice_get-left ps qs k lt)

  pub met_front : (k token : ℕ) → k < length ps → met_by (ps ++ qs) k token ≡ met_by ps k token
  unfolding met_by
  met_front k token lt = grind (arith, option_and_then, position, take, asked_front, slice_get, take-append-le)

  pub exported_front : (k token : ℕ) → k < length ps → exported_offset (ps ++ qs) k token ≡ exported_offset ps k token
  exported_front k token lt = grind (arith, option_map, asked_front, slice_get)

  -- ---- classes

  at_exported : (j class : ℕ) (o : Option ℕ) → j < length ps
      → option_and_then (class_at (ps ++ qs)) (option_map (λ offset. record { «package» = j; offset = offset }) o)
      ≡ option_and_then (class_at ps) (option_map (λ offset. record { «package» = j; offset = offset }) o)
  at_exported j class x lt = grind (arith, class_at_front)

  by_import : (class k : ℕ) (o : Option ℕ) → k < length ps → IfSome o (λ j. j < k)
      → option_and_then (class_at (ps ++ qs)) (option_and_then (λ j. exported_place (ps ++ qs) j class) o)
      ≡ option_and_then (class_at ps) (option_and_then (λ j. exported_place ps j class) o)
  by_import class k x lt h = grind (arith, length, option_and_then, option_map, exported_front, at_exported)

  pub referred_front : (k : ℕ) (reference : ClassReference) → k < length ps
      → class_referred (ps ++ qs) k reference ≡ class_referred ps k reference
  unfolding class_referred
  referred_front k (Internal offset) lt = class_at_front ps qs (record { «package» = k; offset = offset }) lt
  referred_front k (External import class) lt =
      ap (λ o. option_and_then (class_at (ps ++ qs)) (option_and_then (λ j. exported_place (ps ++ qs) j class) o)) (met_front k import lt)
      ∙ by_import class k (met_by ps k import) lt (met_before ps k import (met_by ps k import) refl)

  pub named_front : (k reference : ℕ) → k < length ps → class_named (ps ++ qs) k reference ≡ class_named ps k reference
  unfolding class_named
  named_front k reference lt = referred_front k (reference_of reference) lt
