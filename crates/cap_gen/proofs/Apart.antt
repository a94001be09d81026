-- Methods that stand one after the other share no byte.
use Rattle.std.proofs.Common.{◌≡◌, ◌≤◌, ℕ, Bool, true, List, [], ◌∷◌, ◌++◌, length, map, min, max, None, refl, ap, ◌∙◌}
use Rattle.std.proofs.Common.{arith, leb-true}
use Rattle.std.specs.Prelude.{◌&&◌, nat_le}
use Rattle.std.specs.List.{filter_map}
use Rattle.std.proofs.lemmas.List.Elements.{filter_map-append}
use Rattle.std.proofs.lemmas.Bool.{and_parts}
use Rattle.cap_desc.specs.DescriptorFormat.{MethodDescriptor}
use Rattle.cap_package.specs.MethodChecks.{code_start, code_end, overlap_fault, overlap_pair}
use Rattle.cap_package.specs.Pairs.{pairs}

-- each method begins where the one before it ends, or after that, and the first at a place or after it
abbrev pub follow : List ℕ → ℕ → List MethodDescriptor → Bool
follow info at [] = true
follow info at (m ∷ ms) = nat_le at m.method_offset && follow info (code_end info m) ms

abbrev BeginFrom : ℕ → List MethodDescriptor → Type 0
BeginFrom at [] = Unit {0}
BeginFrom at (m ∷ ms) = (at ≤ m.method_offset) × BeginFrom at ms

later : (at from : ℕ) (ms : List MethodDescriptor) → at ≤ from → BeginFrom from ms → BeginFrom at ms
later at from [] h b = tt
later at from (m ∷ ms) h b = let first = b.0 in (omega arith, later at from ms h b.1)

ends_after : (info : List ℕ) (m : MethodDescriptor) → m.method_offset ≤ code_end info m
unfolding code_end code_start
ends_after info m = omega arith

all_begin : (info : List ℕ) (at : ℕ) (ms : List MethodDescriptor) → follow info at ms ≡ true → BeginFrom at ms
all_begin info at [] e = tt
all_begin info at (m ∷ ms) e =
    let both = and_parts (nat_le at m.method_offset) (follow info (code_end info m) ms) e in
    let first = leb-true at m.method_offset both.0 in
    let after = ends_after info m in
    (first, later at (code_end info m) ms (omega arith) (all_begin info (code_end info m) ms both.1))

shares_none : (info : List ℕ) (a b : MethodDescriptor) → code_end info a ≤ b.method_offset → overlap_fault info a b ≡ None
unfolding overlap_fault
shares_none info a b h = grind (arith, max, min, length)

none_after : (info : List ℕ) (m : MethodDescriptor) (ms : List MethodDescriptor) → BeginFrom (code_end info m) ms
    → filter_map (overlap_pair info) (map (λ y. (m, y)) ms) ≡ []
none_after info m [] b = refl
none_after info m (y ∷ ys) b = grind (arith, map, shares_none, none_after info m ys b.1)

pub none_overlap : (info : List ℕ) (at : ℕ) (ms : List MethodDescriptor) → follow info at ms ≡ true → filter_map (overlap_pair info) (pairs ms) ≡ []
none_overlap info at [] e = refl
none_overlap info at (m ∷ ms) e =
    let rest = (and_parts (nat_le at m.method_offset) (follow info (code_end info m) ms) e).1 in
    filter_map-append (overlap_pair info) (map (λ y. (m, y)) ms) (pairs ms)
    ∙ (ap (λ fs. fs ++ filter_map (overlap_pair info) (pairs ms)) (none_after info m ms (all_begin info (code_end info m) ms rest))
    ∙ none_overlap info (code_end info m) ms rest)
