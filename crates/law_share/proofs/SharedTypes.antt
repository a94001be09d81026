-- Registers that variables share have types under which each register keeps its own.
use Rattle.std.proofs.Common.{◌≡◌, ℕ, zero, suc, ◌+◌, ◌-◌, ◌<◌, ◌≤◌, inr, List, [], ◌∷◌, ◌++◌, length, take, drop}
use Rattle.std.proofs.Common.{replicate, refl, sym, ap, ◌∙◌, subst, arith, All, get_or}
use Rattle.std.specs.Prelude.{Some, slice_get}
use Rattle.std.proofs.lemmas.List.{length-append, length-replicate, length-take}
use Rattle.std.proofs.lemmas.List.Elements.{All-append, All-replicate, All-take}
use Rattle.std.proofs.lemmas.Option.{slice_get-get_or, slice_get_within, get_or_from_slice_get, same_Some}
use Rattle.jc_base.specs.declared.ty.Ty.{Ty}
use Rattle.jc_base.specs.declared.ty.Ty.TheVariants.{Bottom, Top, Null}
use Rattle.jc_base.specs.Each.{IsAmong}
use Rattle.jc_base.specs.declared.record.MethodRec.{MethodRec}
use Rattle.jc_base.specs.Order.{Below, IsKnown, nothing}
use Rattle.jc_base.specs.World.{Linked, IsWorld}
use Rattle.jc_base.proofs.Eaching.{IsAmong-from_Contains}
use Rattle.jc_base.proofs.Lists.{All-slice_get, slice_get-drop}
use Rattle.jc_control.specs.Method.{Method, IsMethodOf}
use Rattle.jc_rules.specs.Effect.{reg}
use Rattle.jc_rules.specs.Flow.{CellsBelow, no_cells, more_cells, IsNotFresh, receiver_of, start_frame}
use Rattle.jc_rules.proofs.CellLists.{cells-length, cells-take}
use Rattle.card_typing.specs.Typing.{CardTyping}
use Rattle.card_typing.proofs.Own.{start-length}
use Rattle.law_share.specs.Variable.{Variable, AreVariables}
use Rattle.law_share.specs.Sharing.{Allotted, AreAllotted, IsNumbered, numbered_argument, numbered_variable, end_of}
use Rattle.law_share.specs.Renamed.{register_total}
use Rattle.law_share.specs.Retyped.{AreRetyped, AreRegistersOf, HasShared, SharedHaveTypes}
use Rattle.law_share.proofs.Allotting.{among-variable, arguments-before-end, before-end, no-argument}
use Rattle.law_share.proofs.Types.{IsProper, all-proper, type_in, variable-type, width-most, types_in, types-length, HoldsTypes, all-hold}
use Rattle.law_share.proofs.Types.{low-untouched, types-all}
use Rattle.jc_rules.proofs.Stacks.{take_first}

-- ---- lists

get-first : {X : Type 0} (xs ys : List X) (n : ℕ) (d : X) → n < length xs → get_or (xs ++ ys) n d ≡ get_or xs n d
get-first [] ys n d lt = absurd (omega (arith, lt))
get-first (x ∷ xs) ys zero d lt = refl
get-first (x ∷ xs) ys (suc n) d lt = get-first xs ys n d (omega (arith, lt))

get-take : {X : Type 0} (n k : ℕ) (xs : List X) (d : X) → k < n → get_or (take n xs) k d ≡ get_or xs k d
get-take zero k xs d lt = absurd (omega (arith, lt))
get-take (suc n) k [] d lt = refl
get-take (suc n) zero (x ∷ xs) d lt = refl
get-take (suc n) (suc k) (x ∷ xs) d lt = get-take n k xs d (omega (arith, lt))

bottoms-below : (v : Linked) (ts : List Ty) (n : ℕ) → length ts ≡ n → CellsBelow v.classes (replicate n Bottom) ts
bottoms-below v [] zero e = no_cells
bottoms-below v [] (suc n) e = absurd (omega (arith, e))
bottoms-below v (a ∷ ts) zero e = absurd (omega (arith, e))
bottoms-below v (a ∷ ts) (suc n) e = more_cells nothing (bottoms-below v ts n (omega (arith, e)))

-- lists below one another cell by cell, by those before a number and those behind it
parts-below : (v : Linked) (xs ys zs : List Ty) → length xs ≤ length zs
    → ((k : ℕ) → k < length xs → get_or zs k Top ≡ get_or ys k Top) → CellsBelow v.classes xs ys
    → CellsBelow v.classes (xs ++ replicate (length zs - length xs) Bottom) zs
parts-below v [] ys zs le same below = bottoms-below v zs (length zs - 0) (omega arith)
parts-below v (x ∷ xs) _ [] le same (more_cells a rest) = absurd (omega (arith, le))
parts-below v (x ∷ xs) _ (z ∷ zs) le same (more_cells {ys = ys} a rest) =
    let count : length (z ∷ zs) - length (x ∷ xs) ≡ length zs - length xs = omega arith in
    subst (λ n. CellsBelow v.classes (x ∷ (xs ++ replicate n Bottom)) (z ∷ zs)) (sym count)
    (more_cells (subst (Below v.classes x) (sym (same 0 (omega arith))) a)
    (parts-below v xs ys zs (omega (arith, le)) (λ k lt. same (suc k) (omega (arith, lt))) rest))

module _ (v : Linked) (links : IsWorld v) (m target : Method) (regs : List Ty) (stacks : ℕ → List Ty) (ks : List Variable) (given : List Allotted)
    (f : ℕ → ℕ) (is : IsMethodOf v m) (ty : CardTyping v m regs stacks) (vs : AreVariables m.rec.nargs (drop m.rec.nargs regs) ks)
    (all : AreAllotted v m [] ks given) (numbers : (x : ℕ) → x < register_total m → IsNumbered m.rec.nargs given x (f x)) (has : HasShared m given target)
  where
    abbrev nargs : ℕ
    nargs = m.rec.nargs

    abbrev end : ℕ
    end = end_of nargs given

    abbrev begun : List Ty
    begun = take nargs regs ++ replicate (end - nargs) Null

    abbrev others : List Ty
    others = types_in given begun

    count : length regs ≡ register_total m
    count = sym (cells-length v.classes ty.declared) ∙ start-length v links m is

    long : length begun ≡ end
    long =
        let le = arguments-before-end v m given in
        length-append (take nargs regs) (replicate (end - nargs) Null)
        ∙ omega (arith, length-take nargs regs, length-replicate (end - nargs) Null, le, count)

    size : length others ≡ end
    size = types-length given begun ∙ long

    proper : (k : Variable) → IsAmong k ks → IsProper k
    proper = all-proper vs

    argument-type : (y : ℕ) → y < nargs → reg others y ≡ reg regs y
    argument-type y lt =
        let few : y < length (take nargs regs) = omega (arith, lt, length-take nargs regs, count) in
        low-untouched v m nargs all begun proper (λ a among. no-argument v m all a among) y lt
        ∙ (get-first (take nargs regs) (replicate (end - nargs) Null) y Top few ∙ get-take nargs y regs Top lt)

    holds : (a : Allotted) → IsAmong a given → HoldsTypes others a
    holds a among =
        all-hold v m nargs all begun proper (omega (arith, long)) (λ b listed. absurd (let lt = listed.1 in omega (arith, lt))) a (inr among)

    variable-known : (P : Ty → Type 0) → All P regs → (a : Allotted) → IsAmong a given → P a.variable.ty
    variable-known P every a among =
        let k = a.variable in
        let listed = among-variable v m all a among in
        let some = (width-most k (proper k listed)).0 in
        let t = variable-type vs k listed k.register (record { from = omega arith; before = omega (arith, some) }) in
        let first : k.register - k.register ≡ 0 = omega arith in
        let from = t.0 in
        let at : nargs + (k.register - nargs) ≡ k.register = omega (arith, from) in
        let found : slice_get regs k.register ≡ Some k.ty =
        ap (slice_get regs) (sym at) ∙ (sym (slice_get-drop nargs (k.register - nargs) regs) ∙ (t.1 ∙ ap (λ n. Some (type_in k n)) first)) in
        All-slice_get P regs k.register k.ty every found

    retyped : AreRetyped regs others f
    retyped x ty_x e =
        let inside = slice_get_within regs x ty_x e in
        by (f x) (numbers x (omega (arith, inside, count)))
      where
        by : (y : ℕ) → IsNumbered nargs given x y → slice_get others y ≡ Some ty_x
        by _ (numbered_argument lt) =
            let le = arguments-before-end v m given in
            slice_get-get_or others x Top (omega (arith, lt, le, size)) ∙ ap Some (argument-type x lt ∙ get_or_from_slice_get regs x ty_x Top e)
        by _ (numbered_variable a listed own) =
            let among = IsAmong-from_Contains a given listed in
            let k = a.variable in
            let variable = among-variable v m all a among in
            let t = variable-type vs k variable x own in
            let from = t.0 in
            let low = own.from in
            let at : nargs + (x - nargs) ≡ x = omega (arith, from, low) in
            let found : Some ty_x ≡ Some (type_in k (x - k.register)) =
            sym e ∙ (ap (slice_get regs) (sym at) ∙ (sym (slice_get-drop nargs (x - nargs) regs) ∙ t.1)) in
            let type : ty_x ≡ type_in k (x - k.register) = same_Some ty_x (type_in k (x - k.register)) found in
            held a among (x - k.register) (let before = own.before in omega (arith, before, low)) ∙ ap Some (sym type)
          where
            held : (a : Allotted) → IsAmong a given → (n : ℕ) → n < a.variable.width → slice_get others (a.at + n) ≡ Some (type_in a.variable n)
            held a among zero lt =
                let at : a.at + 0 ≡ a.at = omega arith in
                let end_is = before-end v m given a among in
                ap (slice_get others) at
                ∙ (slice_get-get_or others a.at Top (omega (arith, end_is, lt, size)) ∙ ap Some (holds a among).first)
            held a among (suc zero) lt =
                let end_is = before-end v m given a among in
                let two : a.variable.width ≡ 2 = (let most = (width-most a.variable (proper a.variable (among-variable v m all a among))).1 in omega
                (arith, most, lt)) in
                slice_get-get_or others (a.at + 1) Top (omega (arith, end_is, lt, size)) ∙ ap Some ((holds a among).second two)
            held a among (suc (suc n)) lt =
                let most = (width-most a.variable (proper a.variable (among-variable v m all a among))).1 in
                absurd (omega (arith, most, lt))

    types : All (IsKnown v.classes) others
    types =
        types-all (IsKnown v.classes) tt tt given begun (variable-known (IsKnown v.classes) ty.types)
        (All-append (IsKnown v.classes) (take nargs regs) (replicate (end - nargs) Null) (All-take (IsKnown v.classes) nargs regs ty.types)
        (All-replicate (IsKnown v.classes) (end - nargs) Null tt))

    ready : All IsNotFresh others
    ready =
        types-all IsNotFresh tt tt given begun (variable-known IsNotFresh ty.ready)
        (All-append IsNotFresh (take nargs regs) (replicate (end - nargs) Null) (All-take IsNotFresh nargs regs ty.ready)
        (All-replicate IsNotFresh (end - nargs) Null tt))

    abbrev handed : List Ty
    handed = receiver_of m.rec ++ m.rec.sig.args

    handed-length : length handed ≡ nargs
    handed-length = grind (arith, start-length, length-append, replicate, length-replicate)

    declared : CellsBelow v.classes (start_frame target.rec Bottom).regs others
    declared =
        let first : CellsBelow v.classes handed (take nargs regs) =
        subst (λ xs. CellsBelow v.classes xs (take nargs regs)) (take_first nargs handed (replicate m.rec.max_locals Bottom) handed-length)
        (cells-take v.classes nargs ty.declared) in
        let le = arguments-before-end v m given in
        let below = parts-below v handed (take nargs regs) others (omega (arith, handed-length, size, le))
        (λ k lt. argument-type k (omega (arith, lt, handed-length)) ∙ sym (get-take nargs k regs Top (omega (arith, lt, handed-length)))) first in
        let total = has.total in
        let words = has.nargs in
        let locals : length others - length handed ≡ target.rec.max_locals = omega (arith, size, handed-length, total, words) in
        let same : handed ++ replicate (length others - length handed) Bottom ≡ (start_frame target.rec Bottom).regs =
        ap (λ n. handed ++ replicate n Bottom) locals ∙ start-same in
        subst (λ xs. CellsBelow v.classes xs others) same below
      where
        start-same : handed ++ replicate target.rec.max_locals Bottom ≡ (start_frame target.rec Bottom).regs
        start-same =
            let static = ap (λ (x : MethodRec). x.is_static) has.same in
            let class = ap (λ (x : MethodRec). x.class) has.same in
            let args = ap (λ (x : MethodRec). x.sig.args) has.same in
            cc

    pub shared-types : AreRegistersOf v target regs others f
    shared-types = record {
      retyped = retyped;
      count = size ∙ sym has.total;
      types = types;
      ready = ready;
      declared = declared;
    }

pub shared-have-types : (v : Linked) → IsWorld v → SharedHaveTypes v
shared-have-types v links m target regs stacks ks given f is ty vs all numbers has =
    grind (arith, shared-types v links m target regs stacks ks given f is ty vs all numbers has)
