-- Initial arrays: package after package, and what holds of their words.
use Rattle.std.proofs.Common.{◌≡◌, ℕ, zero, suc, ◌+◌, ◌/◌, ◌%◌, ◌≤◌, Bool, eqb, leb, ltb, List, []}
use Rattle.std.proofs.Common.{◌∷◌, ◌++◌, length, get_or, map, drop, Some, None, refl, sym, ap, ◌∙◌, subst, append_assoc, arith}
use Rattle.std.proofs.Common.{length-take-le, length-drop}
use Rattle.std.proofs.lemmas.Bool.{ltb-true, ltb-false, leb-true, eqb-true}
use Rattle.std.proofs.lemmas.List.Elements.{All-map}
use Rattle.std.proofs.lemmas.List.{map-append}
use Rattle.std.specs.Prelude.{All, slice_get, flat_map}
use Rattle.jc_base.specs.declared.record.ArrayRec.{ArrayRec}
use Rattle.jc_base.specs.Cell.{IsByteWord, AreElementsOf}
use Rattle.cap_bytes.specs.Grammar.{that}
use Rattle.cap_bytes.specs.Spelling.{Spells}
use Rattle.cap_method.specs.declared.static_part.ArrayInits.{ArrayInits}
use Rattle.cap_method.specs.StaticFormat.{Array, Statics, array_init_info, is_primitive, is_whole}
use Rattle.cap_method.specs.declared.static_part.StaticPart.{StaticPart}
use Rattle.cap_method.specs.StaticPart.{arrays_left, statics_seen}
use Rattle.cap_package.specs.PackageRecord.{PackageRecord, initial_arrays}
use Rattle.jc_link.specs.Words.{signed, element_words}
use Rattle.jc_base.specs.Index.{words_of_bytes}
use Rattle.jc_link.specs.Arrays.{array_type, array_record, array_records}
use Rattle.jc_link.specs.KnownFields.{IsPrimitive}
use Rattle.cap_package.proofs.Given.{drop_here}
use Rattle.jc_resolve.proofs.Repeats.{given_all}

-- ---- package after package

pub one_package : (p : PackageRecord) (ps : List PackageRecord) → array_records (p ∷ ps) ≡ map array_record p.statics.arrays ++ array_records ps
one_package p ps = map-append array_record p.statics.arrays (flat_map initial_arrays ps)

pub arrays_more : (xs ys all : List ArrayRec) (ps : List PackageRecord) (n : ℕ) (p : PackageRecord) → slice_get ps n ≡ Some p
    → xs ++ array_records (drop n ps) ≡ all → ys ≡ xs ++ map array_record p.statics.arrays → ys ++ array_records (drop (n + 1) ps) ≡ all
arrays_more xs ys all ps n p e h k = grind (arith, drop_here, one_package, append_assoc)

-- ---- the words of an array have the type of its elements

pub signed_is : (b : ℕ) → IsByteWord (signed b)
signed_is b = grind (arith, ltb, ltb-true, ltb-false)

pub words_length : (bytes : List ℕ) → length (words_of_bytes bytes) ≡ length bytes / 2
words_length [] = refl
words_length (high ∷ []) = refl
words_length (high ∷ low ∷ bytes) = omega (arith, words_length bytes)

primitive : (kind : ℕ) → that is_primitive kind ≡ None → IsPrimitive kind
primitive kind h = grind (arith, leb, leb-true)

whole_by : (n : ℕ) (t : Bool) → eqb (n % 4) 0 ≡ t → that (λ m. t) n ≡ None → n % 4 ≡ 0
whole_by n y e h = grind (arith, eqb-true)

even : (n m : ℕ) → m ≡ n / 2 → n % 4 ≡ 0 → m % 2 ≡ 0
even n m e h = omega arith

elements_of : (kind : ℕ) (values : List ℕ) → IsPrimitive kind → that (is_whole kind) (length values) ≡ None
    → AreElementsOf (array_type kind) (element_words kind values)
elements_of zero values one whole = absurd (omega (arith, one.low))
elements_of (suc zero) values one whole = absurd (omega (arith, one.low))
elements_of (suc (suc zero)) values one whole = All-map IsByteWord signed values (λ k d lt. signed_is (get_or values k d))
elements_of (suc (suc (suc zero))) values one whole = All-map IsByteWord signed values (λ k d lt. signed_is (get_or values k d))
elements_of (suc (suc (suc (suc zero)))) values one whole = tt
elements_of (suc (suc (suc (suc (suc zero))))) values one whole = grind (arith, even, words_length, whole_by, eqb)
elements_of (suc (suc (suc (suc (suc (suc kind)))))) values one whole = absurd (omega (arith, one.high))

kind_spelled : (bytes : List ℕ) (at : ℕ) (a : Array) (after : ℕ) → Spells array_init_info bytes at a after → IsPrimitive a.kind
unfolding Spells
kind_spelled bytes at a after h = subst (λ (b : Array). IsPrimitive b.kind) (sym h.3.3.3.0) (primitive h.0 h.2.1)

pub kinds_known : (x : StaticPart) (s : Statics) → statics_seen x ≡ s → All (λ (a : Array). IsPrimitive a.kind) s.arrays
kinds_known x s e =
    subst (λ (seen : Statics). All (λ (a : Array). IsPrimitive a.kind) seen.arrays) e
    (given_all (λ (a : Array). IsPrimitive a.kind) array_init_info kind_spelled x.arrays.left x.arrays.items x.arrays.known)

abbrev AreOfType : Array → Type 0
AreOfType a = AreElementsOf (array_type a.kind) (element_words a.kind a.values)

elements_spelled : (bytes : List ℕ) (at : ℕ) (a : Array) (after : ℕ) → Spells array_init_info bytes at a after → AreOfType a
unfolding Spells
elements_spelled bytes at a after h =
    let values = h.3.3.2 in
    let left : h.3.0 ≤ length (drop h.3.1 bytes) = omega (arith, values.0, length-drop h.3.1 bytes) in
    let size : length h.3.3.0 ≡ h.3.0 = ap length values.1 ∙ length-take-le h.3.0 (drop h.3.1 bytes) left in
    subst AreOfType (sym h.3.3.3.0) (elements_of h.0 h.3.3.0 (primitive h.0 h.2.1) (subst (λ n. that (is_whole h.0) n ≡ None) (sym size) h.3.2.1))

pub arrays_are_elements : (x : ArrayInits) → All (λ (a : ArrayRec). AreElementsOf a.kind a.initial) (map array_record (arrays_left x))
arrays_are_elements x =
    All-map (λ (a : ArrayRec). AreElementsOf a.kind a.initial) array_record (arrays_left x)
    (given_all AreOfType array_init_info elements_spelled x.left x.items x.known)

pub same_elements : (x : ArrayInits) (arrays : List Array) → arrays_left x ≡ arrays → All (λ (a : ArrayRec). AreElementsOf a.kind a.initial)
    (map array_record arrays)
same_elements x arrays e = subst (λ given. All (λ (a : ArrayRec). AreElementsOf a.kind a.initial) (map array_record given)) e (arrays_are_elements x)
