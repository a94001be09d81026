-- Described methods stand apart in the Method component, since the parts of a package agree.
use Rattle.std.proofs.Common.{◌≡◌, ◌≤◌, ◌<◌, ◌+◌, ℕ, List, [], ◌∷◌, length, map, None}
use Rattle.std.proofs.Common.{sym, ◌∙◌, arith}
use Rattle.std.specs.Prelude.{min}
use Rattle.std.specs.List.{filter_map}
use Rattle.std.proofs.lemmas.Bool.{ltb-false}
use Rattle.std.proofs.lemmas.List.Elements.{filter_map-append}
use Rattle.first_fault.proofs.LeastFaults.{faultless_first}
use Rattle.cap_desc.specs.DescriptorFormat.{MethodDescriptor}
use Rattle.cap_package.specs.MethodChecks.{code_start, code_end, overlap_fault, overlap_pair, outside_fault}
use Rattle.cap_package.specs.Pairs.{pairs}
use Rattle.cap_package.proofs.StaticsKnown.{both_empty}
use Rattle.cap_package.proofs.HeaderLaws.{size_least}

-- a method ends in the info, two bytes or more after its offset
pub record EndsInside (info : List ℕ) (m : MethodDescriptor) : Type 0 where
  pub two : m.method_offset + 2 ≤ code_end info m
  pub ends : code_end info m ≤ length info

abbrev pub AllEnd : List ℕ → List MethodDescriptor → Type 0
AllEnd info [] = Unit {0}
AllEnd info (m ∷ ms) = EndsInside info m × AllEnd info ms

ends_inside : (info : List ℕ) (n : ℕ) (m : MethodDescriptor) → outside_fault info n m ≡ None → EndsInside info m
unfolding outside_fault code_end code_start
ends_inside info n m none = grind (arith, size_least, ltb-false)

pub all_end : (info : List ℕ) (n : ℕ) (ms : List MethodDescriptor) → filter_map (outside_fault info n) ms ≡ [] → AllEnd info ms
all_end info n [] e = tt
all_end info n (m ∷ ms) e =
    let f = faultless_first (outside_fault info n m) (filter_map (outside_fault info n) ms) e in (ends_inside info n m f.0, all_end info n ms f.1)

-- no offset of a list is another one
abbrev pub IsNone : ℕ → List ℕ → Type 0
IsNone o [] = Unit {0}
IsNone o (p ∷ ps) = (p ≡ o → ⊥) × IsNone o ps

abbrev pub AreDistinct : List ℕ → Type 0
AreDistinct [] = Unit {0}
AreDistinct (o ∷ os) = IsNone o os × AreDistinct os

abbrev pub offset_of : MethodDescriptor → ℕ
offset_of m = m.method_offset

least_above : (o a b c : ℕ) → o < a → o < b → o < c → o < min (min a b) c
least_above o a b c x y z = grind arith

differ : (info : List ℕ) (a b : MethodDescriptor) → EndsInside info a → EndsInside info b → overlap_fault info a b ≡ None
    → b.method_offset ≡ a.method_offset → ⊥
unfolding overlap_fault
differ info a b ea eb none same = grind (arith, ltb-false)

one_apart : (info : List ℕ) (a : MethodDescriptor) (ms : List MethodDescriptor) → EndsInside info a → AllEnd info ms
    → filter_map (overlap_pair info) (map (λ b. (a, b)) ms) ≡ [] → IsNone a.method_offset (map offset_of ms)
one_apart info a [] ea es e = tt
one_apart info a (b ∷ ms) ea es e =
    let f = faultless_first (overlap_fault info a b) (filter_map (overlap_pair info) (map (λ b. (a, b)) ms)) e in
    (differ info a b ea es.0 f.0, one_apart info a ms ea es.1 f.1)

pub all_apart : (info : List ℕ) (ms : List MethodDescriptor) → AllEnd info ms → filter_map (overlap_pair info) (pairs ms) ≡ []
    → AreDistinct (map offset_of ms)
all_apart info [] es e = tt
all_apart info (a ∷ ms) es e =
    let parts = both_empty (filter_map (overlap_pair info) (map (λ b. (a, b)) ms)) (filter_map (overlap_pair info) (pairs ms))
    (sym (filter_map-append (overlap_pair info) (map (λ b. (a, b)) ms) (pairs ms)) ∙ e) in
    (one_apart info a ms es.0 es.1 parts.0, all_apart info ms es.1 parts.1)
