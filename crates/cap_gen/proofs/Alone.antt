-- Each method of the world that a generated package makes has a dataflow typing.
use Rattle.std.proofs.Common.{◌≡◌, ◌<◌, ◌+◌, ◌%◌, ℕ, zero, suc, List, [], ◌∷◌, map, take, drop, Some, refl, sym, ap, subst, ◌∙◌}
use Rattle.std.proofs.Common.{arith, get_or}
use Rattle.std.specs.Prelude.{◌*◌, slice_get}
use Rattle.std.specs.List.{range_with_len}
use Rattle.std.proofs.lemmas.List.FromFn.{get_or-map-range_with_len}
use Rattle.jc_base.specs.declared.ty.Ty.TheVariants.{Top}
use Rattle.jc_base.specs.declared.record.MethodRec.{MethodRec}
use Rattle.jc_base.specs.World.{Linked, code_of}
use Rattle.jc_control.specs.Method.{Method, IsMethodOf}
use Rattle.jc_rules.specs.Flow.{HasFlowTyping}
use Rattle.jc_link.specs.World.{IsLinked}
use Rattle.cap_gen.specs.Methods.{each_method, method_bytes, entry_table, method_info, code_offset, code_size_of_kind}
use Rattle.cap_gen.specs.Linked.{roles, method_record}
use Rattle.cap_gen.specs.Shape.{of_kind}
use Rattle.cap_gen.proofs.Linking.{alone, methods_are}
use Rattle.cap_gen.proofs.Typed.{method_of, kind_typed}

-- where each method's code stands in the info
abbrev code_there : ℕ → ℕ → List ℕ
code_there seed k = take (code_size_of_kind k) (drop (code_offset k) (method_info seed))

-- the constants of a method
abbrev first_constant : ℕ → ℕ → ℕ
first_constant seed k = (seed + k) % 100

abbrev second_constant : ℕ → ℕ → ℕ
second_constant seed k = (seed + 2 * k) % 100

abbrev code_is : ℕ → ℕ → List ℕ
code_is seed k = (of_kind (k % 4) (first_constant seed k) (second_constant seed k)).code

codes_stand : (seed : ℕ) → map (code_there seed) (range_with_len 0 200) ≡ map (code_is seed) (range_with_len 0 200)
unfolding each_method method_bytes entry_table method_info
codes_stand seed = refl

code_stands : (seed k : ℕ) → k < 200 → code_there seed k ≡ code_is seed k
code_stands seed k h =
    sym (get_or-map-range_with_len (code_there seed) 0 200 k k [] h (omega arith))
    ∙ (ap (λ (xs : List (List ℕ)). get_or xs k []) (codes_stand seed)
    ∙ get_or-map-range_with_len (code_is seed) 0 200 k k [] h (omega arith))

-- an element of what numbers give
found_in : {X : Type 0} (f : ℕ → X) (a c n : ℕ) (x : X) → slice_get (map f (range_with_len a c)) n ≡ Some x → (n < c) × (x ≡ f (a + n))
found_in f a zero zero x h = absurd (cc)
found_in f a zero (suc n) x h = absurd (cc)
found_in f a (suc c) zero x h = let same : a ≡ a + 0 = omega arith in let is : x ≡ f a = cc in (omega arith, is ∙ ap f same)
found_in f a (suc c) (suc n) x h = grind (arith, suc, found_in f (a + 1) c n x h)

worlds_typed_at : (seed : ℕ) (w : Linked) (m : Method) → w.infos ≡ method_info seed ∷ [] → w.methods ≡ map method_record (range_with_len 0 200)
    → IsMethodOf w m
    → HasFlowTyping w m Top
worlds_typed_at seed w m infos methods of =
    let n = m.number in
    let found = found_in method_record 0 200 n m.rec (sym (ap (λ (ms : List MethodRec). slice_get ms n) methods) ∙ of.rec) in
    let same : 0 + n ≡ n = omega arith in
    let rec_is : m.rec ≡ method_record n = found.1 ∙ ap method_record same in
    let code : m.code ≡ code_is seed n =
    of.code
    ∙ (ap (λ (is : List (List ℕ)). code_of is m.rec) infos
    ∙ (ap (λ (r : MethodRec). code_of (method_info seed ∷ []) r) rec_is ∙ code_stands seed n found.0)) in
    let first : method_of n (n % 4) n (first_constant seed n) (second_constant seed n) ≡ record { number = n; rec = m.rec; code = code_is seed n } =
    ap (λ (r : MethodRec). record { number = n; rec = r; code = code_is seed n }) (sym rec_is) in
    let second : record { number = n; rec = m.rec; code = code_is seed n } ≡ m =
    ap (λ (cs : List ℕ). record { number = n; rec = m.rec; code = cs }) (sym code) in
    subst (λ (x : Method). HasFlowTyping w x Top) (first ∙ second) (kind_typed w n (n % 4) n (first_constant seed n) (second_constant seed n) (omega arith))

pub worlds_typed : (seed : ℕ) (w : Linked) → IsLinked (alone seed) roles w → (m : Method) → IsMethodOf w m → HasFlowTyping w m Top
worlds_typed seed w linked m of = worlds_typed_at seed w m linked.lists.infos (linked.lists.methods ∙ methods_are seed) of
