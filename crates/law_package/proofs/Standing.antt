-- Methods that stand one after the other share no byte and lie in the info.
use Rattle.std.proofs.Common.{◌≡◌, ◌≤◌, ◌<◌, ◌+◌, ◌*◌, ℕ, List, [], ◌∷◌, ◌++◌, length, map, sum_by, filter_map, min, max}
use Rattle.std.proofs.Common.{Bool, true, false, Option, None, ◌⊎◌, inl, inr, refl, sym, ◌∙◌, arith, ltb-true, ltb-false}
use Rattle.std.specs.Prelude.{nat_lt}
use Rattle.std.proofs.lemmas.Bool.{le-ltb}
use Rattle.cap_bytes.specs.Number.{number_at}
use Rattle.cap_desc.specs.DescriptorFormat.{MethodDescriptor}
use Rattle.cap_components.specs.MethodPlaces.{size_by}
use Rattle.cap_components.specs.Parts.{Lent}
use Rattle.cap_components.specs.PackageRecord.{PackageRecord, described_methods}
use Rattle.cap_package.specs.Pairs.{pairs}
use Rattle.cap_package.specs.MethodChecks.{code_start, code_end, overlap_fault, overlap_pair, outside_fault}
use Rattle.cap_package.proofs.StaticsKnown.{both_empty}
use Rattle.jc_decode.specs.declared.symbols.Laid.{Laid}
use Rattle.law_package.specs.Changes.{Change, changes}
use Rattle.law_package.specs.Written.{IsMethodWritten, size_written, methods_begin}
use Rattle.law_package.specs.Rewritten.{IsRewritten}
use Rattle.law_package.proofs.Lists.{Each, Has, each_at, each_of, map_each, none_each, each_none, append_none, faults_map}
use Rattle.law_package.proofs.Sums.{sum_beside}
use Rattle.law_package.proofs.Owners.{below, Distinct, ends_before}
use Rattle.cap_package.proofs.Agreed.{Agrees}
use Rattle.law_package.proofs.Zipped.{now_of}
use Rattle.law_package.proofs.Headers.{some_bytes}
use Rattle.law_package.proofs.Facts.{WasWell, wells, news, olds, no_faults, all_written, few_by}
use Rattle.std.proofs.lemmas.List.Elements.{filter_map-append}

pub sizes_end : (info : List ℕ) (m : MethodDescriptor)
    → code_end info m ≡ m.method_offset + (size_by (number_at 1 m.method_offset info) + m.bytecode_count)
unfolding code_end code_start
sizes_end info m = omega arith

pub sizes_some : (info : List ℕ) (m : MethodDescriptor) → 1 ≤ size_by (number_at 1 m.method_offset info)
sizes_some info m = let s = some_bytes (number_at 1 m.method_offset info) in let e = s.1 in omega arith

-- ---- they stood apart

abbrev pub offset_of : Change → ℕ
offset_of c = c.source.method.method_offset

stood_apart : (info : List ℕ) (a b : MethodDescriptor) → code_end info a ≤ length info → code_end info b ≤ length info
    → overlap_fault info a b ≡ None → b.method_offset ≡ a.method_offset → ⊥
unfolding overlap_fault
stood_apart info a b ha hb e s = grind (arith, few_by, ltb-false, max, min, sizes_end, sizes_some)

all_apart : (p : PackageRecord) (ms : List MethodDescriptor) → Each (WasWell p) ms → filter_map (overlap_pair p.methods.info) (pairs ms) ≡ []
    → Distinct (λ (m : MethodDescriptor). m.method_offset) ms
all_apart p [] w e = tt
all_apart p (m ∷ ms) w e =
    let info = p.methods.info in
    let both = both_empty (filter_map (overlap_pair info) (map (λ y. (m, y)) ms)) (filter_map (overlap_pair info) (pairs ms)) (sym (split m ms) ∙ e) in
    let each = none_each (λ y. overlap_fault info m y) ms (sym (faults_map (overlap_pair info) (λ y. (m, y)) ms) ∙ both.0) in
    let apart = each_of (λ (y : MethodDescriptor). y.method_offset ≡ m.method_offset → ⊥) ms
    (λ y h. stood_apart info m y w.0.within (each_at (WasWell p) ms y w.1 h).within (each_at (λ x. overlap_fault info m x ≡ None) ms y each h)) in
    (apart, all_apart p ms w.1 both.1)
  where
    split : (m : MethodDescriptor) (ms : List MethodDescriptor) → filter_map (overlap_pair p.methods.info) (pairs (m ∷ ms))
        ≡ filter_map (overlap_pair p.methods.info) (map (λ y. (m, y)) ms) ++ filter_map (overlap_pair p.methods.info) (pairs ms)
    split m ms = filter_map-append (overlap_pair p.methods.info) (map (λ y. (m, y)) ms) (pairs ms)

pub distinct_map : {X Y : Type 0} (key : Y → ℕ) (g : X → Y) (xs : List X) → Distinct key (map g xs) → Distinct (λ x. key (g x)) xs
distinct_map key g [] d = tt
distinct_map key g (x ∷ xs) d = (map_each (λ y. key y ≡ key (g x) → ⊥) g xs d.0, distinct_map key g xs d.1)

pub apart : (parts : List Lent) (p q : PackageRecord) (laid : List (Option Laid)) → Agrees parts p → IsRewritten p laid q
    → Distinct offset_of (changes p laid q)
apart parts p q laid a r = grind (arith, olds p q laid r, all_apart p (described_methods p) (wells parts p a) a.overlaps, distinct_map)

-- ---- they stand apart

place_of : (p q : PackageRecord) (all : List Change) (c : Change) → IsMethodWritten p q all c
    → c.now.method_offset ≡ methods_begin q + below (size_written q) offset_of all (offset_of c)
place_of p q all c w = w.place

pub one_ends : (p q : PackageRecord) (all : List Change) (c d : Change) → IsMethodWritten p q all c → IsMethodWritten p q all d → Has all c
    → offset_of c < offset_of d → code_end q.methods.info c.now ≤ d.now.method_offset
one_ends p q all c d w v h lt =
    grind (arith, sizes_end q.methods.info c.now, ends_before (size_written q) offset_of all (offset_of d) c h lt)

pub compare : (a b : ℕ) → (a ≡ b → ⊥) → (a < b) ⊎ (b < a)
compare a b h = by (nat_lt a b) (nat_lt b a) refl refl
  where
    by : (x y : Bool) → nat_lt a b ≡ x → nat_lt b a ≡ y → (a < b) ⊎ (b < a)
    by true y e f = inl (ltb-true a b e)
    by false true e f = inr (ltb-true b a f)
    by false false e f = let u = ltb-false a b e in let v = ltb-false b a f in absurd (h (omega arith))

shares_none : (info : List ℕ) (a b : MethodDescriptor) → (code_end info a ≤ b.method_offset) ⊎ (code_end info b ≤ a.method_offset)
    → overlap_fault info a b ≡ None
unfolding overlap_fault
shares_none info a b u = grind (arith, max, min)

pair_none : (p q : PackageRecord) (all : List Change) (c d : Change) → Each (IsMethodWritten p q all) all → Has all c → Has all d
    → (offset_of d ≡ offset_of c → ⊥) → overlap_fault q.methods.info c.now d.now ≡ None
pair_none p q all c d ws hc hd ne = by (compare (offset_of d) (offset_of c) ne)
  where
    by : (offset_of d < offset_of c) ⊎ (offset_of c < offset_of d) → overlap_fault q.methods.info c.now d.now ≡ None
    by (inl lt) =
        shares_none q.methods.info c.now d.now
        (inr (one_ends p q all d c (each_at (IsMethodWritten p q all) all d ws hd) (each_at (IsMethodWritten p q all) all c ws hc) hd lt))
    by (inr lt) =
        shares_none q.methods.info c.now d.now
        (inl (one_ends p q all c d (each_at (IsMethodWritten p q all) all c ws hc) (each_at (IsMethodWritten p q all) all d ws hd) hc lt))

no_pairs : (p q : PackageRecord) (all cs : List Change) → Each (IsMethodWritten p q all) all → ((c : Change) → Has cs c → Has all c)
    → Distinct offset_of cs → filter_map (overlap_pair q.methods.info) (pairs (map now_of cs)) ≡ []
no_pairs p q all [] ws i d = refl
no_pairs p q all (c ∷ cs) ws i d =
    let info = q.methods.info in
    let each = each_of (λ (y : Change). overlap_fault info c.now y.now ≡ None) cs
    (λ y h. pair_none p q all c y ws (i c (inl refl)) (i y (inr h)) (each_at (λ (z : Change). offset_of z ≡ offset_of c → ⊥) cs y d.0 h)) in
    let head : filter_map (overlap_pair info) (map (λ y. (c.now, y)) (map now_of cs)) ≡ [] =
    faults_map (overlap_pair info) (λ y. (c.now, y)) (map now_of cs) ∙ faults_map (λ y. overlap_fault info c.now y) now_of cs
    ∙ each_none (λ (y : Change). overlap_fault info c.now y.now) cs each in
    filter_map-append (overlap_pair info) (map (λ y. (c.now, y)) (map now_of cs)) (pairs (map now_of cs))
    ∙ append_none (filter_map (overlap_pair info) (map (λ y. (c.now, y)) (map now_of cs))) (filter_map (overlap_pair info) (pairs (map now_of cs))) head
    (no_pairs p q all cs ws (λ y h. i y (inr h)) d.1)

pub stand_apart : (parts : List Lent) (p q : PackageRecord) (laid : List (Option Laid)) → Agrees parts p → IsRewritten p laid q
    → filter_map (overlap_pair q.methods.info) (pairs (described_methods q)) ≡ []
stand_apart parts p q laid a r = grind (arith, news p q laid r, all_written p q laid r, apart parts p q laid a r, filter_map, no_pairs)

-- ---- they lie in the info

lies_inside : (info : List ℕ) (n : ℕ) (m : MethodDescriptor) → 1 + 8 * n ≤ m.method_offset → code_end info m ≤ length info
    → outside_fault info n m ≡ None
unfolding outside_fault
lies_inside info n m low high = grind (arith)

pub ends_inside : (p q : PackageRecord) (all : List Change) (c : Change) → IsMethodWritten p q all c → Has all c
    → length q.methods.info ≡ methods_begin q + sum_by (size_written q) all → code_end q.methods.info c.now ≤ length q.methods.info
ends_inside p q all c w h long = grind (arith, sizes_end, sum_beside, le-ltb)

pub lie_inside : (p q : PackageRecord) (laid : List (Option Laid)) → IsRewritten p laid q
    → filter_map (outside_fault q.methods.info (length q.methods.handlers)) (described_methods q) ≡ []
lie_inside p q laid r =
    let cs = changes p laid q in
    let ws = all_written p q laid r in
    no_faults p q laid (outside_fault q.methods.info (length q.methods.handlers)) r
    (each_of (λ (c : Change). outside_fault q.methods.info (length q.methods.handlers) c.now ≡ None) cs
    (λ c h. let w = each_at (IsMethodWritten p q cs) cs c ws h in
    let a = place_of p q cs c w in
    lies_inside q.methods.info (length q.methods.handlers) c.now (omega arith) (ends_inside p q cs c w h r.long)))
